use Rattle.std.proofs.Common.{◌≡◌, ◌-◌, ◌≤◌, drop, length}
use Rattle.pe_pdb.specs.InlineSites.{frames_left}
use Rattle.pe_pdb.specs.InlineStacks.{inlined_at, stacked}
use Rattle.pe_pdb.proofs.inline_stack.inlined_at.Given as goal

-- what was found stands from `first` on
abbrev pub invariant-loop-frame : goal.invariant-loop-frame
invariant-loop-frame l = record {
  same : inlined_at (length l.fn.room) l.bytes l.procedure l.offset ≡ stacked l.first (drop l.first l.room) (frames_left l.walk);
  size : length l.room ≡ length l.fn.room;
  few : l.first ≤ length l.fn.room;
}

abbrev pub decreases-loop-frame : goal.decreases-loop-frame
decreases-loop-frame l = length l.walk.bytes.now - l.walk.next
