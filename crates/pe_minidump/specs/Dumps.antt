-- A dump: its header, and the directory of its streams.
use Rattle.std.specs.Prelude.{ℕ, ◌+◌, ◌*◌, ◌/◌, ◌%◌, ◌==◌, List, [], ◌∷◌, length, Option, Some, None, Result, Ok, Err, if◌then◌else◌}
use Rattle.std.specs.List.{find}
use Rattle.pe_core.specs.Bytes.{le, holds, range}
use Rattle.pe_core.specs.Refusals.{outcome, ◌>>=◌}
use Rattle.pe_minidump.specs.Records.{dump_header, directory_entry}
use Rattle.pe_minidump.specs.Refusals.{DumpRefusal, Short, Signature, Version, Directory, Location, Text}
use Rattle.pe_minidump.specs.Tables.{record_of, records}
use Rattle.pe_minidump.specs.declared.dump.DirectoryEntry.{DirectoryEntry}
use Rattle.pe_minidump.specs.declared.dump.Dump.{Dump}
use Rattle.pe_minidump.specs.declared.dump.DumpHeader.{DumpHeader}
use Rattle.pe_minidump.specs.declared.dump.TheConstants.{MINIDUMP_SIGNATURE, MINIDUMP_VERSION}

-- what callers see of a dump: the bytes of the file, the header, the bytes of the directory
pub record DumpView : Type 0 where
  pub bytes : List ℕ
  pub header : DumpHeader
  pub directory : List ℕ

abbrev pub dump_view : Dump → DumpView
dump_view d = record { bytes = d.bytes.now; header = d.header; directory = d.directory.now }

-- the bytes of the directory to which a header leads
abbrev pub directory_bytes : List ℕ → DumpHeader → Result (List ℕ) DumpRefusal
directory_bytes b h = outcome ((holds b h.stream_directory_rva (12 * h.number_of_streams), Directory) ∷ []) (range b h.stream_directory_rva (12 * h.number_of_streams))

-- the dump that is a file
unfoldable pub dump_of : List ℕ → Result DumpView DumpRefusal
dump_of b =
    outcome (
    (holds b 0 32, Short)
    ∷ (le b 0 4 == MINIDUMP_SIGNATURE, Signature)
    ∷ (le b 4 4 % 65536 == MINIDUMP_VERSION, Version)
    ∷ (holds b (le b 12 4) (12 * le b 8 4), Directory) ∷ []
    ) (record { bytes = b; header = dump_header b 0; directory = range b (le b 12 4) (12 * le b 8 4) })

-- the entries of the directory
abbrev pub directory_of : DumpView → List DirectoryEntry
directory_of d = records directory_entry d.directory 12 (length d.directory / 12)

-- the entry with an index
abbrev pub entry_at : DumpView → ℕ → Option DirectoryEntry
entry_at d i = record_of directory_entry d.directory 12 (length d.directory / 12) i

-- the bytes that stand so many bytes from an offset on
abbrev pub located : List ℕ → ℕ → ℕ → Result (List ℕ) DumpRefusal
located b rva size = outcome ((holds b rva size, Location) ∷ []) (range b rva size)

-- the first entry of a kind
abbrev pub first_entry : List ℕ → ℕ → Option DirectoryEntry
first_entry directory kind = find (λ e. e.stream_type == kind) (records directory_entry directory 12 (length directory / 12))

-- the bytes of an entry, if there is one
abbrev pub entry_bytes : List ℕ → Option DirectoryEntry → Result (Option (List ℕ)) DumpRefusal
entry_bytes b None = Ok None
entry_bytes b (Some e) = located b e.location.rva e.location.size >>= λ bytes. Ok (Some bytes)

-- the bytes of the stream of a kind: those of the first entry of the kind
abbrev pub stream : DumpView → ℕ → Result (Option (List ℕ)) DumpRefusal
stream d kind = entry_bytes d.bytes (first_entry d.directory kind)

-- what a stream says, if there is one
abbrev pub if_there : {X : Type 0} → (List ℕ → Result X DumpRefusal) → Option (List ℕ) → Result (Option X) DumpRefusal
if_there read None = Ok None
if_there read (Some b) = read b >>= λ x. Ok (Some x)

abbrev pub read_stream : {X : Type 0} → (List ℕ → Result X DumpRefusal) → DumpView → ℕ → Result (Option X) DumpRefusal
read_stream read d kind = stream d kind >>= if_there read

-- the string at an offset of the file: the number of its bytes, which is even, then the bytes
abbrev pub text_at : List ℕ → ℕ → Result (List ℕ) DumpRefusal
text_at b rva =
    located b rva 4 >>= λ n. if le n 0 4 % 2 == 0 then located b (rva + 4) (le n 0 4) else Err Text
