use Rattle.std.proofs.Common.{◌≡◌, true, take}
use Rattle.pe_version.proofs.Cited.{list_all, string_fits}
use Rattle.pe_version.proofs.record.strings_fit.Given as goal

-- the strings so far fit
abbrev pub invariant-loop-index : goal.invariant-loop-index
invariant-loop-index l = list_all (string_fits l.texts) (take l.index l.strings) ≡ true
