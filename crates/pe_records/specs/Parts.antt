-- Where those parts of debug records stand that are ranges of the bytes.
use Rattle.std.specs.Prelude.{ℕ, ◌+◌, List, Option, Some, None}
use Rattle.std.specs.Option.{option_map}
use Rattle.pe_core.specs.Offsets.{StandAt}
use Rattle.pe_core.specs.declared.options.ParseOptions.{ParseOptions}
use Rattle.pe_records.specs.DebugDirectory.{first_of_type}
use Rattle.pe_records.specs.declared.debug.constants.TheConstants.{IMAGE_DEBUG_TYPE_CODEVIEW, IMAGE_DEBUG_TYPE_POGO, IMAGE_DEBUG_TYPE_REPRO}
use Rattle.pe_records.specs.DebugRecords.{DebugFields, Repro, Stamp, Buffer, record_offset}
use Rattle.pe_records.specs.declared.debug.ImageDebugDirectory.{ImageDebugDirectory}

-- the part of a record, if there is one, starts n bytes after the offset to which the entry leads
abbrev pub StandsAfter : ParseOptions → List ℕ → ℕ → Option ImageDebugDirectory → Option (List ℕ) → Type 0
StandsAfter o b n entry None = Unit {0}
StandsAfter o b n None (Some part) = ⊥
StandsAfter o b n (Some e) (Some part) = StandAt b (record_offset o.resolve_rva e + n) part

-- the hash of a Repro record that has one
abbrev pub hash_of : Option Repro → Option (List ℕ)
hash_of None = None
hash_of (Some (Stamp stamp)) = None
hash_of (Some (Buffer count bytes)) = Some bytes

-- the parts of the records of the first entries: the two file names, the hash and the POGO entries
pub record DebugPartsStand (o : ParseOptions) (b : List ℕ) (d : DebugFields) : Type 0 where
  pub pdb70 : StandsAfter o b 24 (first_of_type d.fixup IMAGE_DEBUG_TYPE_CODEVIEW d.table) (option_map (λ r. r.filename) d.pdb70)
  pub pdb20 : StandsAfter o b 16 (first_of_type d.fixup IMAGE_DEBUG_TYPE_CODEVIEW d.table) (option_map (λ r. r.filename) d.pdb20)
  pub repro : StandsAfter o b 4 (first_of_type d.fixup IMAGE_DEBUG_TYPE_REPRO d.table) (hash_of d.repro)
  pub pogo : StandsAfter o b 4 (first_of_type d.fixup IMAGE_DEBUG_TYPE_POGO d.table) (option_map (λ r. r.bytes) d.pogo)
