use Rattle.std.proofs.Common.{◌≡◌, true}
use Rattle.pe_rewrite.proofs.Cited.{list_all, header_view, each, is_apart}
use Rattle.pe_rewrite.proofs.place.require_apart.Given as goal

-- the sections so far are apart
abbrev pub invariant-loop-other : goal.invariant-loop-other
invariant-loop-other l = list_all (is_apart l.bytes (header_view l.header) l.alignment l.index) (each (λ k. k) l.other) ≡ true
