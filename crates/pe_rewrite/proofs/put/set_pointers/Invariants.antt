use Rattle.std.proofs.Common.{◌≡◌, length}
use Rattle.pe_rewrite.specs.Edited.{pointers_moved}
use Rattle.pe_rewrite.proofs.put.set_pointers.Given as goal

-- the pointers so far are written
abbrev pub invariant-loop-index : goal.invariant-loop-index
invariant-loop-index l = record {
  written : l.out ≡ pointers_moved l.room l.bytes l.index l.fn.out;
  size : length l.out ≡ length l.fn.out;
}
