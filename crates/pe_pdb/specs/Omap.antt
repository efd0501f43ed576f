-- OMAP tables: where code is that a tool moved after the link.
use Rattle.std.specs.Prelude.{ℕ, ◌+◌, ◌-◌, ◌^◌, ◌==◌, ◌||◌, List, filter, nat_le, Option, Some, None, if◌then◌else◌}
use Rattle.std.specs.Option.{option_and_then}
use Rattle.pe_core.specs.Bytes.{le}
use Rattle.pe_core.specs.Rows.{whole_entries}
use Rattle.pe_pdb.specs.Frames.{greatest}
use Rattle.pe_pdb.specs.declared.omap.OmapRow.{OmapRow}

-- a row, 8 bytes
unfoldable pub omap_row : List ℕ → ℕ → OmapRow
omap_row b p = record { rva = le b p 4; rva_to = le b (p + 4) 4 }

-- the whole rows of a table
abbrev pub omap : List ℕ → List OmapRow
omap b = whole_entries omap_row 8 b

-- where the code at an RVA is by a row; RVAs have 32 bits
abbrev pub moved_by : ℕ → OmapRow → Option ℕ
moved_by rva x =
    if x.rva_to == 0 || nat_le (2 ^ 32) (x.rva_to + (rva - x.rva)) then None else Some (x.rva_to + (rva - x.rva))

-- by the last row at or before it
abbrev pub moved_to : List OmapRow → ℕ → Option ℕ
moved_to xs rva = option_and_then (moved_by rva) (greatest (λ x. x.rva) (filter (λ x. nat_le x.rva rva) xs))
