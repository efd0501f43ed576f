use Rattle.std.proofs.Common.{◌≡◌}
use Rattle.pe_stacks.proofs.stacks.Stacks.walk.Given as goal

-- the frames so far
abbrev pub invariant-loop-frame : goal.invariant-loop-frame
invariant-loop-frame g l = l.frames.items ≡ l.yielded
