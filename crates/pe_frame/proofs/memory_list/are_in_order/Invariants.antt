use Rattle.std.proofs.Common.{◌≡◌, ◌+◌, true, take}
use Rattle.std.specs.List.{list_all}
use Rattle.pe_core.specs.Bytes.{holds}
use Rattle.pe_lookup.specs.AddressRanges.{FirstAscend}
use Rattle.pe_lookup.proofs.Lookups.{EndsAt}
use Rattle.pe_frame.proofs.memory_list.are_in_order.Given as goal

-- the pieces so far lie in the bytes, and ascend
abbrev pub invariant-loop-piece : goal.invariant-loop-piece
invariant-loop-piece l = record {
  inside : list_all (λ p. holds l.bytes p.offset p.length) (take l.piece-index l.pieces) ≡ true;
  ascend : FirstAscend (λ p. p.start) (λ p. p.length) l.pieces l.piece-index;
  ends : EndsAt (λ p. p.start) (λ p. p.length) l.pieces l.piece-index (l.start + l.size);
}
