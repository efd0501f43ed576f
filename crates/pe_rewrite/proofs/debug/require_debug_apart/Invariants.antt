use Rattle.std.proofs.Common.{◌≡◌, true}
use Rattle.pe_rewrite.proofs.Cited.{list_all, each, entry_apart}
use Rattle.pe_rewrite.proofs.debug.require_debug_apart.Given as goal

-- the data of the entries so far are apart
abbrev pub invariant-loop-index : goal.invariant-loop-index
invariant-loop-index l = list_all (entry_apart l.bytes l.section l.entries) (each (λ k. k) l.index) ≡ true
