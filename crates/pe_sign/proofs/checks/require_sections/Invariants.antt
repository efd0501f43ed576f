use Rattle.std.proofs.Common.{◌≡◌, true}
use Rattle.pe_sign.proofs.Cited.{list_all, section_table, rows, data_ends_by}
use Rattle.pe_sign.proofs.checks.require_sections.Given as goal

-- the sections so far pass
abbrev pub invariant-loop-index : goal.invariant-loop-index
invariant-loop-index l = list_all (data_ends_by l.end) (rows (section_table l.bytes) 40 l.start l.index) ≡ true
