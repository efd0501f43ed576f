use Rattle.std.proofs.Common.{◌≡◌, true, take}
use Rattle.std.specs.List.{list_all}
use Rattle.pe_core.specs.Bytes.{holds}
use Rattle.pe_frame.proofs.memory_list.require_inside.Given as goal

-- the pieces so far lie in the bytes
abbrev pub invariant-loop-piece : goal.invariant-loop-piece
invariant-loop-piece l = list_all (λ p. holds l.bytes p.offset p.length) (take l.piece-index l.pieces) ≡ true
