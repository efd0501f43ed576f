use Rattle.std.proofs.Common.{◌≡◌, true, take}
use Rattle.pe_version.proofs.Cited.{list_all, table_fits}
use Rattle.pe_version.proofs.record.tables_fit.Given as goal

-- the tables so far fit
abbrev pub invariant-loop-index : goal.invariant-loop-index
invariant-loop-index l = list_all (table_fits l.strings) (take l.index l.tables) ≡ true
