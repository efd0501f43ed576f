-- What calls return of minidumps. A refusal is the number of the error.
use Rattle.std.specs.Prelude.{◌≡◌, ℕ, ◌+◌, ◌/◌, List, length, Option, Some, None, Result, Ok, Err}
use Rattle.pe_core.specs.Refusals.{◌>>=◌}
use Rattle.pe_minidump.specs.Dumps.{DumpView, dump_of, first_entry, located, text_at}
use Rattle.pe_minidump.specs.Records.{directory_entry}
use Rattle.pe_minidump.specs.Refusals.{DumpRefusal, Short, Signature, Version, Directory, Location, ListSize, EntrySize, Text, ContextSize, ContextFlags, Machine, dump_kind_of}
use Rattle.pe_minidump.specs.Tables.{record_of}
use Rattle.pe_minidump.specs.declared.dump.DirectoryEntry.{DirectoryEntry}
use Rattle.pe_minidump.specs.declared.error.DumpError.{DumpError}
use Rattle.pe_minidump.specs.declared.location.Location as locations
use Rattle.calls_stacks.specs.declared.dump.DumpInfo.{DumpInfo}
use Rattle.calls_base.specs.declared.ranges.Range.{Range}
use Rattle.calls_base.specs.declared.results.TheConstants.{DONE, NOTHING}

-- the number of a refusal of a dump, written by tools/make_errors
abbrev pub dump_number : DumpRefusal → ℕ
dump_number Short = 2
dump_number Signature = 551
dump_number Version = 552
dump_number Directory = 553
dump_number Location = 554
dump_number ListSize = 555
dump_number EntrySize = 556
dump_number Text = 557
dump_number ContextSize = 558
dump_number ContextFlags = 559
dump_number Machine = 560

-- a result with the kind of its error
abbrev pub dump_answer : {X : Type 0} → Result X DumpError → Result X DumpRefusal
dump_answer (Ok x) = Ok x
dump_answer (Err e) = Err (dump_kind_of e)

-- DONE and the value; else the number of the refusal, and `out` is unchanged
abbrev pub DumpHandsOut : {Y : Type 0} → ℕ → Y → Y → Result Y DumpRefusal → Type 0
DumpHandsOut number old new (Ok value) = (number ≡ DONE) × (new ≡ value)
DumpHandsOut number old new (Err refusal) = (number ≡ dump_number refusal) × (new ≡ old)

-- the same of a value that may be absent: then the number is NOTHING
abbrev pub DumpHandsOutIf : {Y : Type 0} → ℕ → Y → Y → Result (Option Y) DumpRefusal → Type 0
DumpHandsOutIf number old new (Ok (Some value)) = (number ≡ DONE) × (new ≡ value)
DumpHandsOutIf number old new (Ok None) = (number ≡ NOTHING) × (new ≡ old)
DumpHandsOutIf number old new (Err refusal) = (number ≡ dump_number refusal) × (new ≡ old)

-- ---- the header and the directory

-- what the header says, and where the directory is
abbrev pub dump_info : DumpView → DumpInfo
dump_info d = record {
  directory = record { offset = d.header.stream_directory_rva; length = length d.directory };
  flags = d.header.flags;
  version = d.header.version;
  number_of_streams = d.header.number_of_streams;
  check_sum = d.header.check_sum;
  time_date_stamp = d.header.time_date_stamp;
}

abbrev pub dump_at : List ℕ → Result DumpInfo DumpRefusal
dump_at b = dump_of b >>= λ d. Ok (dump_info d)

-- a location that lies in the bytes, as a range
abbrev pub dump_range_at : List ℕ → locations.Location → Result Range DumpRefusal
dump_range_at b l = located b l.rva l.size >>= λ s. Ok (record { offset = l.rva; length = l.size })

-- the entry of the directory with an index, if there is one
abbrev pub dump_entry_at : List ℕ → Range → ℕ → Result (Option DirectoryEntry) DumpRefusal
dump_entry_at b r index =
    located b r.offset r.length >>= λ d. Ok (record_of directory_entry d 12 (length d / 12) index)

-- the range of an entry, if there is one
abbrev pub range_of_entry : List ℕ → Option DirectoryEntry → Result (Option Range) DumpRefusal
range_of_entry b None = Ok None
range_of_entry b (Some e) = dump_range_at b e.location >>= λ r. Ok (Some r)

-- the range of the stream of a kind: that of the first entry of the kind
abbrev pub dump_stream_at : List ℕ → Range → ℕ → Result (Option Range) DumpRefusal
dump_stream_at b r kind = located b r.offset r.length >>= λ d. range_of_entry b (first_entry d kind)

-- the range of a string, which follows its length
abbrev pub dump_text_at : List ℕ → ℕ → Result Range DumpRefusal
dump_text_at b rva = text_at b rva >>= λ t. Ok (record { offset = rva + 4; length = length t })
