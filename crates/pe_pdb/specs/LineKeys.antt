-- The order of lines in an index.
use Rattle.std.specs.Prelude.{ℕ, ◌+◌, ◌*◌, ◌^◌}
use Rattle.pe_pdb.specs.declared.line_entries.LineEntry.{LineEntry}

-- by RVAs, and at one RVA by their order in the module
abbrev pub line_key : LineEntry → ℕ
line_key e = e.line.rva * 2 ^ 32 + e.index
