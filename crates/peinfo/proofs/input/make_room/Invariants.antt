use Rattle.std.proofs.Common.{◌≡◌, ◌+◌, ◌*◌, take, vec_len}
use Rattle.peinfo.proofs.input.make_room.Given as goal

abbrev pub invariant-loop : goal.invariant-loop
invariant-loop g l = record {
  grown : vec_len l.bytes ≡ vec_len l.fn.bytes + 1024 * l.counter;
  front : take l.filled l.bytes.items ≡ take l.filled l.fn.bytes.items;
}
