-- How many rows of an inlined function are left at most.
use Rattle.std.specs.Prelude.{ℕ, ◌+◌, ◌-◌, length, Option, Some, None}
use Rattle.pe_pdb.specs.declared.inline_rows.InlineRows.{InlineRows}
use Rattle.pe_pdb.specs.declared.inline_rows.OpenRow.{OpenRow}

-- one for the last row that was started
abbrev pub started : Option OpenRow → ℕ
started None = 0
started (Some r) = 1

abbrev pub rows_bound : InlineRows → ℕ
rows_bound s = (length s.bytes.now - s.next) + started s.last
