-- What calls return of debug data.
use Rattle.std.specs.Prelude.{ℕ, ◌+◌, ◌==◌, List, length, min, Option, Some, None, Result, Ok, if◌then◌else◌, ◌≡◌, ◌-◌, [], ◌∷◌, Err}
use Rattle.std.specs.Option.{option_map}
use Rattle.pe_core.specs.Options.{default_options}
use Rattle.pe_core.specs.Refusals.{Refusal, ◌>>=◌, kind_of}
use Rattle.pe_core.specs.declared.section_table.SectionTable.{SectionTable}
use Rattle.pe_records.specs.DebugDirectory.{directory_range, directory_table, first_of_type}
use Rattle.pe_records.specs.DebugRecords.{Stamp, Buffer, record_offset}
use Rattle.pe_records.specs.DebugRecords as records
use Rattle.pe_records.specs.ManagedDebug as managed
use Rattle.pe_records.specs.declared.debug.ImageDebugDirectory.{ImageDebugDirectory}
use Rattle.pe_records.specs.declared.debug.records.VCFeatureInfo.{VCFeatureInfo}
use Rattle.calls_headers.specs.declared.debug.records.EmbeddedPdb.{EmbeddedPdb}
use Rattle.calls_headers.specs.declared.debug.records.PdbChecksum.{PdbChecksum}
use Rattle.calls_headers.specs.declared.debug.records.SymbolKey.{SymbolKey}
use Rattle.calls_headers.specs.declared.debug.records.Pdb20.{Pdb20}
use Rattle.calls_headers.specs.declared.debug.records.Repro.{Repro}
use Rattle.calls_headers.specs.declared.debug.records.Pogo.{Pogo}
use Rattle.calls_base.specs.declared.image.Image.{Image}
use Rattle.calls_base.specs.declared.ranges.Range.{Range}
use Rattle.calls_base.specs.Images.{debug_directory, is_absent}
use Rattle.calls_base.specs.Modes.{options_of, resolves}
use Rattle.calls_base.specs.Ranges.{bytes_at, no_bytes, range_of, IsRange, range_after}
use Rattle.pe_core.specs.declared.error.Error.{Error}
use Rattle.pe_core.specs.SectionMap.{rounded_up}
use Rattle.pe_records.specs.Pogo.{Entry, ReturnsPogoEntry}
use Rattle.pe_records.specs.declared.debug.pogo.POGOInfoEntry.{POGOInfoEntry}
use Rattle.calls_headers.specs.declared.debug.walks.PogoEntry.{PogoEntry}

-- the range of the entries of the debug directory, if an image has one; or what refuses their table
unfoldable pub debug_entries_range : List ℕ → Image → List SectionTable → ℕ → Result (Option Range) Refusal
debug_entries_range b image sections mode =
    if is_absent (debug_directory image) then Ok None
    else directory_range (options_of mode) b (debug_directory image) sections image.file_alignment >>= λ r. Ok (Some (range_of r))

-- the first entry of a type in the debug directory of an image, if there are both; or what refuses the table of entries
unfoldable pub first_entry : List ℕ → Image → List SectionTable → ℕ → Result (Option ImageDebugDirectory) Refusal
first_entry b image sections kind =
    if is_absent (debug_directory image) then Ok None
    else directory_table (options_of image.mode) b (debug_directory image) sections image.file_alignment >>= λ t. Ok (first_of_type 0 kind t)

-- what is read of the first entry of a type, and of no other
abbrev pub read_first : {Y : Type 0} → (List ℕ → ℕ → ImageDebugDirectory → Result (Option Y) Refusal) → ℕ → List ℕ → Image → List SectionTable → Result (Option Y) Refusal
read_first read kind b image sections = first_entry b image sections kind >>= records.of_entry (read b image.mode)

-- an entry, if it is of this type
unfoldable pub if_of_type : ℕ → ImageDebugDirectory → Option ImageDebugDirectory
if_of_type kind e = if e.data_type == kind then Some e else None

-- what is read of an entry of a type, and nothing of one of another type
abbrev pub read_by_type : {Y : Type 0} → (List ℕ → ℕ → ImageDebugDirectory → Result (Option Y) Refusal) → ℕ → List ℕ → ℕ → ImageDebugDirectory → Result (Option Y) Refusal
read_by_type read kind b mode e = records.of_entry (read b mode) (if_of_type kind e)

-- ---- the records of an entry, read in a mode

-- the range of a part that follows n bytes of the record of an entry
abbrev pub part_after : ℕ → ImageDebugDirectory → ℕ → List ℕ → Range
part_after mode e n part = record { offset = record_offset (resolves mode) e + n; length = length part }

-- PDB 7.0; the name follows 24 bytes
abbrev pub flat_key : ℕ → ImageDebugDirectory → records.Pdb70 → SymbolKey
flat_key mode e r = record { guid = r.signature; age = r.age; spare = 0; name = part_after mode e 24 r.filename }

abbrev pub key_of : List ℕ → ℕ → ImageDebugDirectory → Result (Option SymbolKey) Refusal
key_of b mode e = records.pdb70_of (options_of mode) b e >>= λ r. Ok (option_map (flat_key mode e) r)

-- PDB 2.0; the name follows 16 bytes
abbrev pub flat_pdb20 : ℕ → ImageDebugDirectory → records.Pdb20 → Pdb20
flat_pdb20 mode e r = record { name = part_after mode e 16 r.filename; offset = r.codeview_offset; signature = r.signature; age = r.age; spare = 0 }

abbrev pub pdb20_of : List ℕ → ℕ → ImageDebugDirectory → Result (Option Pdb20) Refusal
pdb20_of b mode e = records.pdb20_of (options_of mode) b e >>= λ r. Ok (option_map (flat_pdb20 mode e) r)

-- VC features
abbrev pub features_of : List ℕ → ℕ → ImageDebugDirectory → Result (Option VCFeatureInfo) Refusal
features_of b mode e = records.features_of (options_of mode) b e >>= λ r. Ok (Some r)

-- extended DLL characteristics
abbrev pub characteristics_of : List ℕ → ℕ → ImageDebugDirectory → Result (Option ℕ) Refusal
characteristics_of b mode e = records.characteristics_of (options_of mode) b e >>= λ r. Ok (Some r.characteristics_ex)

-- Repro; the hash follows 4 bytes
abbrev pub flat_repro : ℕ → ImageDebugDirectory → records.Repro → Repro
flat_repro mode e (Stamp stamp) = record { hash = no_bytes; has_hash = 0; spare = 0 }
flat_repro mode e (Buffer count bytes) = record { hash = part_after mode e 4 bytes; has_hash = 1; spare = 0 }

abbrev pub repro_of : List ℕ → ℕ → ImageDebugDirectory → Result (Option Repro) Refusal
repro_of b mode e = records.repro_of (options_of mode) b e >>= λ r. Ok (Some (flat_repro mode e r))

-- POGO; the entries follow 4 bytes
abbrev pub flat_pogo : ℕ → ImageDebugDirectory → records.Pogo → Pogo
flat_pogo mode e r = record { entries = part_after mode e 4 r.bytes; signature = r.signature; spare = 0 }

abbrev pub pogo_of : List ℕ → ℕ → ImageDebugDirectory → Result (Option Pogo) Refusal
pogo_of b mode e = records.pogo_of (options_of mode) b e >>= λ r. Ok (option_map (flat_pogo mode e) r)

-- the embedded PDB; the compressed data follow 8 bytes
abbrev pub flat_embedded : ℕ → ImageDebugDirectory → managed.Embedded → EmbeddedPdb
flat_embedded mode e r = record { compressed = part_after mode e 8 r.compressed; uncompressed_size = r.uncompressed_size; spare = 0 }

abbrev pub embedded_of : List ℕ → ℕ → ImageDebugDirectory → Result (Option EmbeddedPdb) Refusal
embedded_of b mode e = managed.embedded_of (options_of mode) b e >>= λ r. Ok (Some (flat_embedded mode e r))

-- the checksum of the PDB, which follows the name of the algorithm and a zero
abbrev pub flat_checksum : ℕ → ImageDebugDirectory → managed.Checksum → PdbChecksum
flat_checksum mode e r = record { algorithm = part_after mode e 0 r.algorithm; checksum = part_after mode e (length r.algorithm + 1) r.checksum }

abbrev pub checksum_of : List ℕ → ℕ → ImageDebugDirectory → Result (Option PdbChecksum) Refusal
checksum_of b mode e = managed.checksum_of (options_of mode) b e >>= λ r. Ok (Some (flat_checksum mode e r))

-- ---- a CodeView record that stands alone

-- an entry whose record starts at offset 0 and has n bytes
abbrev pub entry_of : ℕ → ImageDebugDirectory
entry_of n = record {
  characteristics = 0;
  time_date_stamp = 0;
  major_version = 0;
  minor_version = 0;
  data_type = 2;
  size_of_data = n;
  address_of_raw_data = 0;
  pointer_to_raw_data = 0;
}

-- the key of a record of PDB 7.0 that stands alone at a range
abbrev pub key_at : Range → records.Pdb70 → SymbolKey
key_at r k = record { guid = k.signature; age = k.age; spare = 0; name = record { offset = r.offset + 24; length = length k.filename } }

-- the key of the record at a range, which has less than 2^32 bytes; none where it is not one of PDB 7.0
abbrev pub codeview_at : List ℕ → Range → Result (Option SymbolKey) Refusal
codeview_at b r = bytes_at b r >>= λ d. records.pdb70_of default_options d (entry_of (min (length d) 4294967295)) >>= λ k. Ok (option_map (key_at r) k)

-- ---- walks over the entries of a POGO record

-- the walk after a step that took n bytes: it stays at its end, and is over after a refusal
abbrev pub pogo_after : Range → ℕ → Option (Result POGOInfoEntry Error) → Range
pogo_after w n None = w
pogo_after w n (Some (Ok e)) = range_after w n
pogo_after w n (Some (Err e)) = no_bytes

-- a step over these bytes returns their first entry, and leaves what follows it
abbrev pub StepsOverPogo : Result (List ℕ) Refusal → Range → Option (Result POGOInfoEntry Error) → Range → Type 0
StepsOverPogo (Ok left) w answer new = (rest : List ℕ) × ReturnsPogoEntry left answer rest × (new ≡ pogo_after w (length left - length rest) answer)
StepsOverPogo (Err refusal) w None new = ⊥
StepsOverPogo (Err refusal) w (Some (Ok e)) new = ⊥
StepsOverPogo (Err refusal) w (Some (Err e)) new = (kind_of e ≡ refusal) × (new ≡ no_bytes)

-- a step over the bytes that a walk has left, or `Short` where its range is not inside the bytes
abbrev pub StepsPogo : List ℕ → Range → Option (Result POGOInfoEntry Error) → Range → Type 0
StepsPogo b w answer new = StepsOverPogo (bytes_at b w) w answer new

-- the entry at the start of a walk: its name follows two numbers
abbrev pub pogo_entry : Range → POGOInfoEntry → PogoEntry
pogo_entry w e = record { name = record { offset = w.offset + 8; length = length e.name.now }; rva = e.rva; size = e.size }

-- the range of an entry's name is the name
abbrev pub IsNamed : List ℕ → Range → Option (Result POGOInfoEntry Error) → Type 0
IsNamed b w None = Unit {0}
IsNamed b w (Some (Ok e)) = IsRange b (pogo_entry w e).name e.name.now
IsNamed b w (Some (Err e)) = Unit {0}

-- the result of a step, as numbers
abbrev pub reported : Range → Option (Result POGOInfoEntry Error) → Result (Option PogoEntry) Refusal
reported w None = Ok None
reported w (Some (Ok e)) = Ok (Some (pogo_entry w e))
reported w (Some (Err e)) = Err (kind_of e)

-- a step of a walk, by its result as numbers; the name of the entry is in its range
abbrev pub StepsPogoEntries : List ℕ → Range → Result (Option PogoEntry) Refusal → Range → Type 0
StepsPogoEntries b w answer new = (given : Option (Result POGOInfoEntry Error)) × StepsPogo b w given new × (answer ≡ reported w given) × IsNamed b w given

-- the entries of a stream as a walk returns them: each takes two numbers and its name, padded to a multiple of 4
abbrev pub entries_reported : Range → List (Result Entry Refusal) → List (Result PogoEntry Refusal)
entries_reported w [] = []
entries_reported w (Ok e ∷ items) =
    Ok (record { name = record { offset = w.offset + 8; length = length e.name }; rva = e.rva; size = e.size }) ∷ entries_reported (range_after w (rounded_up (8 + length e.name) 4)) items
entries_reported w (Err refusal ∷ items) = Err refusal ∷ entries_reported w items
