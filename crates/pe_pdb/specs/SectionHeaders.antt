-- The section headers of the image, and the RVA at an offset in one of them.
use Rattle.std.specs.Prelude.{ℕ, ◌+◌, ◌-◌, ◌*◌, ◌/◌, ◌%◌, ◌^◌, ◌==◌, ◌&&◌, List, [], ◌∷◌, length, nat_le, nat_lt, Option, Some, None, Result, if◌then◌else◌}
use Rattle.pe_core.specs.Records.{section_table}
use Rattle.pe_core.specs.Refusals.{outcome}
use Rattle.pe_pdb.specs.Refusals.{PdbRefusal, SectionHeaders}

-- the bytes of section headers, which are whole
abbrev pub headers_of : List ℕ → Result (List ℕ) PdbRefusal
headers_of b = outcome ((length b % 40 == 0, SectionHeaders) ∷ []) b

-- where the section with a number starts, as an RVA
abbrev pub start_of : List ℕ → ℕ → ℕ
start_of b section = (section_table b (40 * (section - 1))).virtual_address

-- the RVA at an offset in the section with a number, from 1 on; RVAs have 32 bits
unfoldable pub rva_of : List ℕ → ℕ → ℕ → Option ℕ
rva_of b section offset =
    if nat_lt 0 section && nat_le section (length b / 40) && nat_lt (start_of b section + offset) (2 ^ 32)
    then Some (start_of b section + offset)
    else None
