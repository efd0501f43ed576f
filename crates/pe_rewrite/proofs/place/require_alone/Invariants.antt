use Rattle.std.proofs.Common.{◌≡◌, true}
use Rattle.pe_rewrite.proofs.Cited.{list_all, each, leads_out}
use Rattle.pe_rewrite.proofs.place.require_alone.Given as goal

-- the directories so far lead out of the section
abbrev pub invariant-loop-index : goal.invariant-loop-index
invariant-loop-index l = list_all (leads_out l.section l.rows) (each (λ k. k) l.index) ≡ true
