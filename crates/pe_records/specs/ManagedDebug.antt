-- The debug records of .NET. (PE-COFF of .NET: embedded portable PDB, PDB checksum; the order of the tests is this project's
-- profile.)
use Rattle.std.specs.Prelude.{ℕ, ◌+◌, ◌-◌, ◌==◌, List, [], ◌∷◌, take, drop, position, Option, Some, None, Result, Ok, Err, nat_le}
use Rattle.pe_core.specs.Bytes.{le, range, holds}
use Rattle.pe_core.specs.Refusals.{Refusal, Short, BadMagic, DebugSize, DebugData, outcome, ◌>>=◌}
use Rattle.pe_core.specs.declared.options.ParseOptions.{ParseOptions}
use Rattle.pe_records.specs.DebugRecords.{record_offset}
use Rattle.pe_records.specs.declared.debug.ImageDebugDirectory.{ImageDebugDirectory}
use Rattle.pe_records.specs.declared.debug.managed.EmbeddedPdb.{EmbeddedPdb}
use Rattle.pe_records.specs.declared.debug.managed.PdbChecksum.{PdbChecksum}
use Rattle.pe_records.specs.declared.debug.managed.TheConstants.{EMBEDDED_PDB_MAGIC}

-- ---- the embedded PDB

-- what callers see of it
pub record Embedded : Type 0 where
  pub uncompressed_size : ℕ
  pub compressed : List ℕ

abbrev pub embedded_view : EmbeddedPdb → Embedded
embedded_view r = record { uncompressed_size = r.uncompressed_size; compressed = r.compressed.now }

-- the record at offset p in this many bytes: MPDB, the size of the PDB, and the PDB, compressed
unfoldable pub embedded_record : List ℕ → ℕ → ℕ → Result Embedded Refusal
embedded_record b p size =
    outcome ((nat_le 8 size, DebugSize) ∷ (holds b p 8, Short) ∷ (le b p 4 == EMBEDDED_PDB_MAGIC, BadMagic) ∷ (holds b (p + 8) (size - 8), DebugData) ∷ [])
    (record { uncompressed_size = le b (p + 4) 4; compressed = range b (p + 8) (size - 8) })

-- ---- the checksum of the PDB

-- what callers see of it
pub record Checksum : Type 0 where
  pub algorithm : List ℕ
  pub checksum : List ℕ

abbrev pub checksum_view : PdbChecksum → Checksum
checksum_view r = record { algorithm = r.algorithm.now; checksum = r.checksum.now }

-- the bytes of a record before its first zero, and those after it
abbrev pub checksum_after : List ℕ → Option ℕ → Result Checksum Refusal
checksum_after x None = Err DebugSize
checksum_after x (Some n) = Ok (record { algorithm = take n x; checksum = drop (n + 1) x })

-- the record of these bytes: the name of an algorithm up to the first zero, then the checksum
abbrev pub checksum_in : List ℕ → Result Checksum Refusal
checksum_in x = checksum_after x (position (λ c. c == 0) x)

-- the record at offset p in this many bytes
unfoldable pub checksum_record : List ℕ → ℕ → ℕ → Result Checksum Refusal
checksum_record b p size = outcome ((holds b p size, DebugData) ∷ []) (range b p size) >>= checksum_in

-- ---- the records of entries

abbrev pub embedded_of : ParseOptions → List ℕ → ImageDebugDirectory → Result Embedded Refusal
embedded_of o b e = embedded_record b (record_offset o.resolve_rva e) e.size_of_data

abbrev pub checksum_of : ParseOptions → List ℕ → ImageDebugDirectory → Result Checksum Refusal
checksum_of o b e = checksum_record b (record_offset o.resolve_rva e) e.size_of_data
