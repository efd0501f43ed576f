use Rattle.std.proofs.Common.{◌≡◌, true}
use Rattle.pe_rewrite.proofs.Cited.{list_all, each, data_before}
use Rattle.pe_rewrite.proofs.removal.require_debug_before.Given as goal

-- the data of the entries so far are before the section's
abbrev pub invariant-loop-index : goal.invariant-loop-index
invariant-loop-index l = list_all (data_before l.bytes l.last) (each (λ k. k) l.index) ≡ true
