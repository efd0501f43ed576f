use Rattle.std.proofs.Common.{◌≡◌, true}
use Rattle.pe_rewrite.proofs.Cited.{list_all, header_view, each, is_clear}
use Rattle.pe_rewrite.proofs.place.require_clear.Given as goal

-- the sections so far are apart in memory
abbrev pub invariant-loop-other : goal.invariant-loop-other
invariant-loop-other l = list_all (is_clear l.bytes (header_view l.header) l.size l.index) (each (λ k. k) l.other) ≡ true
