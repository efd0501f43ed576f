-- What calls return of program databases. A refusal is the number of the error.
use Rattle.std.specs.Prelude.{◌≡◌, ◌⊎◌, ℕ, ◌+◌, ◌==◌, Bool, true, false, List, [], ◌∷◌, ◌++◌, drop, length, min, nat_le, slice_get, Option, Some, None, Result, Ok, Err}
use Rattle.std.specs.Option.{option_map}
use Rattle.pe_core.specs.Bytes.{range, holds}
use Rattle.pe_core.specs.Refusals.{◌>>=◌, outcome}
use Rattle.pe_core.specs.Rows.{each}
use Rattle.pe_pdb.specs.Dbi.{dbi_header_of, debug_start, debug_stream}
use Rattle.pe_pdb.specs.Info.{info_of}
use Rattle.pe_pdb.specs.Msf.{MsfView, msf_of, superblock_of}
use Rattle.pe_pdb.specs.Refusals.{PdbRefusal, Short, Pdb20, PortablePdb, Magic, BlockSize, FileSize, BlockMap, Block, Directory, NoStream, StreamSize, Outside, InfoVersion, DbiSignature, DbiVersion, DbiParts, SectionHeaders, RecordSize, RecordTruncated, Name, ModuleSymbols, ModuleSignature, NamesSignature, ContributionsVersion, ContributionsSize, Annotation, InlineDepth, SymbolsSize, Room, pdb_kind_of}
use Rattle.pe_pdb.specs.Streams.{StreamView, contiguous_of, list_start, stream_bytes, stream_from, stream_of, streams}
use Rattle.pe_pdb.specs.declared.dbi.DbiHeader.{DbiHeader}
use Rattle.pe_pdb.specs.declared.dbi.TheConstants.{NO_STREAM}
use Rattle.pe_pdb.specs.declared.error.PdbError.{PdbError}
use Rattle.pe_pdb.specs.declared.info.PdbInfo.{PdbInfo}
use Rattle.pe_pdb.specs.declared.msf.SuperBlock.{SuperBlock}
use Rattle.calls_base.specs.Ranges.{no_bytes, range_of}
use Rattle.calls_base.specs.WrittenFiles.{numbered}
use Rattle.calls_headers.specs.declared.debug.records.SymbolKey.{SymbolKey}
use Rattle.calls_pdb.specs.declared.pdb.DbiStreams.{DbiStreams}
use Rattle.calls_pdb.specs.declared.pdb.Pdb.{Pdb}
use Rattle.calls_base.specs.declared.ranges.Range.{Range}
use Rattle.calls_base.specs.declared.results.TheConstants.{DONE, NOTHING, ROOM}

-- the number of a refusal of a PDB, written by tools/make_errors
abbrev pub pdb_number : PdbRefusal → ℕ
pdb_number Short = 2
pdb_number Pdb20 = 601
pdb_number PortablePdb = 602
pdb_number Magic = 603
pdb_number BlockSize = 604
pdb_number FileSize = 605
pdb_number BlockMap = 606
pdb_number Block = 607
pdb_number Directory = 608
pdb_number NoStream = 609
pdb_number StreamSize = 610
pdb_number Outside = 611
pdb_number InfoVersion = 612
pdb_number DbiSignature = 613
pdb_number DbiVersion = 614
pdb_number DbiParts = 615
pdb_number SectionHeaders = 616
pdb_number RecordSize = 617
pdb_number RecordTruncated = 618
pdb_number Name = 619
pdb_number ModuleSymbols = 620
pdb_number ModuleSignature = 621
pdb_number SymbolsSize = 622
pdb_number NamesSignature = 623
pdb_number ContributionsVersion = 624
pdb_number ContributionsSize = 625
pdb_number Annotation = 626
pdb_number InlineDepth = 627
pdb_number Room = ROOM

-- a result with the kind of its error
abbrev pub pdb_answer : {X : Type 0} → Result X PdbError → Result X PdbRefusal
pdb_answer (Ok x) = Ok x
pdb_answer (Err e) = Err (pdb_kind_of e)

-- DONE and the value; else the number of the refusal, and `out` is unchanged
abbrev pub PdbHandsOut : {Y : Type 0} → ℕ → Y → Y → Result Y PdbRefusal → Type 0
PdbHandsOut number old new (Ok value) = (number ≡ DONE) × (new ≡ value)
PdbHandsOut number old new (Err refusal) = (number ≡ pdb_number refusal) × (new ≡ old)

-- the same of a value that may be absent: then the number is NOTHING
abbrev pub PdbHandsOutIf : {Y : Type 0} → ℕ → Y → Y → Result (Option Y) PdbRefusal → Type 0
PdbHandsOutIf number old new (Ok (Some value)) = (number ≡ DONE) × (new ≡ value)
PdbHandsOutIf number old new (Ok None) = (number ≡ NOTHING) × (new ≡ old)
PdbHandsOutIf number old new (Err refusal) = (number ≡ pdb_number refusal) × (new ≡ old)

-- the bytes of a range, which has to be inside
abbrev pub part_of : List ℕ → Range → Result (List ℕ) PdbRefusal
part_of b r = outcome ((holds b r.offset r.length, Short) ∷ []) (range b r.offset r.length)

-- ---- what a PDB says of itself

-- the first bytes of a stream, n at most
abbrev pub head_of : StreamView → ℕ → List ℕ
head_of s n = range (stream_bytes s) 0 (min s.size n)

-- the head of the info stream, stream 1
abbrev pub info_in : MsfView → Result PdbInfo PdbRefusal
info_in m = stream_of m 1 >>= λ s. info_of (head_of s 28)

-- the number of a stream, or that of none
abbrev pub or_no_stream : Option ℕ → ℕ
or_no_stream None = NO_STREAM
or_no_stream (Some i) = i

-- what a header of the DBI stream says, with the numbers of streams in its last part
abbrev pub dbi_streams : DbiHeader → List ℕ → DbiStreams
dbi_streams h numbers = record {
  header = h;
  section_headers = or_no_stream (debug_stream numbers 5);
  original_section_headers = or_no_stream (debug_stream numbers 10);
  omap_to_source = or_no_stream (debug_stream numbers 3);
  omap_from_source = or_no_stream (debug_stream numbers 4);
}

-- those numbers, of which the first eleven are read
abbrev pub debug_numbers : StreamView → DbiHeader → List ℕ
debug_numbers s h = range (stream_bytes s) (debug_start h) (min h.debug_header_size 22)

-- the DBI stream, stream 3
abbrev pub dbi_in : MsfView → Result DbiStreams PdbRefusal
dbi_in m = do
  s ← stream_of m 3
  h ← dbi_header_of (head_of s 64) s.size
  Ok (dbi_streams h (debug_numbers s h))

-- what a PDB without a DBI stream says of itself
abbrev pub without_dbi : SuperBlock → ℕ → PdbInfo → ℕ → Pdb
without_dbi header streams info dbi_result = record {
  guid = info.guid;
  modules = no_bytes;
  contributions = no_bytes;
  version = info.version;
  time_stamp = info.time_stamp;
  age = info.age;
  dbi_age = 0;
  block_size = header.block_size;
  number_of_blocks = header.number_of_blocks;
  number_of_streams = streams;
  dbi_result = dbi_result;
  machine = 0;
  flags = 0;
  build = 0;
  symbol_stream = NO_STREAM;
  section_headers = NO_STREAM;
  original_section_headers = NO_STREAM;
  omap_to_source = NO_STREAM;
  omap_from_source = NO_STREAM;
}

-- the same with a DBI stream
abbrev pub with_dbi : Pdb → DbiStreams → Pdb
with_dbi pdb d = record pdb {
  modules = record { offset = 64; length = (d.header).modules_size };
  contributions = record { offset = 64 + (d.header).modules_size; length = (d.header).contributions_size };
  dbi_age = (d.header).age;
  machine = (d.header).machine;
  flags = (d.header).flags;
  build = (d.header).build;
  symbol_stream = (d.header).symbol_stream;
  section_headers = d.section_headers;
  original_section_headers = d.original_section_headers;
  omap_to_source = d.omap_to_source;
  omap_from_source = d.omap_from_source;
}

-- by whether the DBI stream is read
abbrev pub pdb_reported : SuperBlock → ℕ → PdbInfo → Result DbiStreams PdbRefusal → Pdb
pdb_reported header streams info (Ok d) = with_dbi (without_dbi header streams info DONE) d
pdb_reported header streams info (Err refusal) = without_dbi header streams info (pdb_number refusal)

abbrev pub pdb_at : List ℕ → Result Pdb PdbRefusal
pdb_at b = do
  header ← superblock_of b
  m ← msf_of b
  info ← info_in m
  Ok (pdb_reported header (streams m) info (dbi_in m))

-- ---- streams

-- by whether there is room: where the lists of blocks of all streams start, at the start of the room; else it is unchanged
abbrev pub PutsStartsIf : Bool → ℕ → List ℕ → List ℕ → MsfView → Type 0
PutsStartsIf true number old new m = (number ≡ DONE) × (new ≡ each (list_start m) (streams m) ++ drop (streams m) old)
PutsStartsIf false number old new m = (number ≡ ROOM) × (new ≡ old)

-- how many these are, whether there is room or not; else the number of the refusal, and all is unchanged
abbrev pub HandsOutStartsOf : ℕ → List ℕ → List ℕ → ℕ → ℕ → Result MsfView PdbRefusal → Type 0
HandsOutStartsOf number old new before written (Ok m) = PutsStartsIf (nat_le (streams m) (length old)) number old new m × (written ≡ streams m)
HandsOutStartsOf number old new before written (Err refusal) = (number ≡ pdb_number refusal) × (new ≡ old) × (written ≡ before)

abbrev pub HandsOutStarts : ℕ → List ℕ → List ℕ → ℕ → ℕ → List ℕ → Type 0
HandsOutStarts number old new before written b = HandsOutStartsOf number old new before written (msf_of b)

-- the stream with an index, by where the list of its blocks starts, if that is there
abbrev pub stream_by : MsfView → ℕ → Option ℕ → Result StreamView PdbRefusal
stream_by m i None = stream_of m i
stream_by m i (Some start) = stream_from m i start

abbrev pub stream_at : List ℕ → List ℕ → ℕ → Result StreamView PdbRefusal
stream_at b starts i = msf_of b >>= λ m. stream_by m i (slice_get starts i)

-- its bytes, or the number of the refusal
abbrev pub stream_numbered : List ℕ → List ℕ → ℕ → Result (List ℕ) ℕ
stream_numbered b starts i = numbered pdb_number (stream_at b starts i) >>= λ s. Ok (stream_bytes s)

-- the range of the file that has its bytes in their order, if its blocks follow one another
abbrev pub stream_range : List ℕ → List ℕ → ℕ → Result (Option Range) PdbRefusal
stream_range b starts i = stream_at b starts i >>= λ s. Ok (option_map range_of (contiguous_of s))

-- ---- the PDB of an image

-- the GUID and the age of the DBI stream are those of the key
abbrev pub IsPdbOf : SymbolKey → Pdb → Type 0
IsPdbOf key pdb = (key.guid ≡ pdb.guid) × (key.age ≡ pdb.dbi_age)

-- by whether the DBI stream is read
abbrev pub MatchesIf : Bool → SymbolKey → Pdb → ℕ → Type 0
MatchesIf true key pdb number = ((number ≡ DONE) × IsPdbOf key pdb) ⊎ ((number ≡ NOTHING) × (IsPdbOf key pdb → ⊥))
MatchesIf false key pdb number = number ≡ pdb.dbi_result

abbrev pub Matches : SymbolKey → Pdb → ℕ → Type 0
Matches key pdb number = MatchesIf (pdb.dbi_result == DONE) key pdb number
