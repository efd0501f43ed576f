-- The source files of a module: records of a subsection, each with the name of a file and its checksum.
use Rattle.std.specs.Prelude.{ℕ, ◌+◌, List, [], ◌∷◌, Result}
use Rattle.pe_core.specs.Bytes.{le, range, holds}
use Rattle.pe_core.specs.Refusals.{outcome}
use Rattle.pe_pdb.specs.Refusals.{PdbRefusal, Short, RecordTruncated}
use Rattle.pe_pdb.specs.declared.checksum.FileChecksum.{FileChecksum}

-- what callers see of one
pub record ChecksumView : Type 0 where
  pub name_offset : ℕ
  pub kind : ℕ
  pub hash : List ℕ

abbrev pub checksum_view : FileChecksum → ChecksumView
checksum_view c = record { name_offset = c.name_offset; kind = c.kind; hash = c.hash.now }

-- the record at an offset
unfoldable pub checksum_at : List ℕ → ℕ → Result ChecksumView PdbRefusal
checksum_at b p =
    outcome (
    (holds b p 6, Short) ∷ (holds b (p + 6) (le b (p + 4) 1), RecordTruncated) ∷ []
    ) (record { name_offset = le b p 4; kind = le b (p + 5) 1; hash = range b (p + 6) (le b (p + 4) 1) })
