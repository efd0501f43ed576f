-- The certificate table of what is written. (PE format: attribute certificate table.)
use Rattle.std.specs.Prelude.{◌≡◌, ℕ, ◌+◌, ◌%◌, List, length}
use Rattle.pe_core.specs.Offsets.{StandAt, bytes_in}
use Rattle.pe_core.specs.SectionMap.{rounded_up}
use Rattle.pe_core.specs.declared.byte_range.ByteRange.{ByteRange}

-- the file f ends with a table from offset p on, a multiple of eight, that is these bytes with their padding
pub record TableIs (certificate f : List ℕ) (p : ℕ) : Type 0 where
  pub aligned : p % 8 ≡ 0
  pub stands : StandAt f p certificate
  pub end : length f ≡ p + rounded_up (length certificate) 8

-- the table in this range, which was the end of the file b, is in the file f as it was; its padding, and then these bytes
-- with theirs, follow it up to the end
pub record TableContinues (b certificate f : List ℕ) (table : ByteRange) : Type 0 where
  pub aligned : table.offset % 8 ≡ 0
  pub last : length b ≡ table.offset + table.length
  pub stays : StandAt f table.offset (bytes_in b table)
  pub stands : StandAt f (table.offset + rounded_up table.length 8) certificate
  pub end : length f ≡ table.offset + (rounded_up table.length 8 + rounded_up (length certificate) 8)
