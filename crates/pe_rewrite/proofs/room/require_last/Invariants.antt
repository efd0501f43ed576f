use Rattle.std.proofs.Common.{◌≡◌, true}
use Rattle.pe_rewrite.proofs.Cited.{list_all, header_view, each, is_before_or_same}
use Rattle.pe_rewrite.proofs.room.require_last.Given as goal

-- the sections so far are before it
abbrev pub invariant-loop-other : goal.invariant-loop-other
invariant-loop-other l = list_all (is_before_or_same l.bytes (header_view l.header) l.target l.last) (each (λ k. k) l.other) ≡ true
