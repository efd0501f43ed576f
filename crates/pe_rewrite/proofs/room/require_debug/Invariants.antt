use Rattle.std.proofs.Common.{◌≡◌, true}
use Rattle.pe_rewrite.proofs.Cited.{list_all, each, entry_moves}
use Rattle.pe_rewrite.proofs.room.require_debug.Given as goal

-- the data of the entries so far stay or move
abbrev pub invariant-loop-index : goal.invariant-loop-index
invariant-loop-index l = list_all (entry_moves l.bytes l.last) (each (λ k. k) l.index) ≡ true
