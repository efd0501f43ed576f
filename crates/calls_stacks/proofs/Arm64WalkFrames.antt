-- Frames in the records of walks on ARM64: what is written there is read again.
use Rattle.std.proofs.Common.{◌≡◌, ◌-◌, true, Ok, refl, ap}
use Rattle.pe_frame.specs.FrameWalks.{Process, walk_after}
use Rattle.pe_frame.specs.declared.arm64.walk.Arm64StackFrame.{Arm64StackFrame}
use Rattle.pe_frame.specs.declared.walk.WalkEnd.TheVariants as ends
use Rattle.calls_stacks.specs.FrameCalls.{state_in}
use Rattle.calls_stacks.specs.Arm64StackWalks.{after_frame, arm64_stack_walks, frame_in}
use Rattle.calls_stacks.specs.declared.arm64.stack_walk.Arm64StackWalk.{Arm64StackWalk}
use Rattle.calls_stacks.proofs.FrameRuns.{KeepWalks}
use Rattle.calls_stacks.proofs.MarkedWalks.{KeepMarks}
use Rattle.calls_stacks.proofs.WalkFrames.{same_bit, same_way}

pub kept : (w : Arm64StackWalk) (s : Arm64StackFrame) → frame_in (after_frame w s) ≡ s
kept w s = rw (same_way s.way, same_bit s.has_called, same_bit s.is_guess) refl

-- where the walk is then
pub position_after : (p : Process) (w : Arm64StackWalk) (s : Arm64StackFrame) → state_in arm64_stack_walks p (after_frame w s) ≡ walk_after (state_in arm64_stack_walks p w) (Ok s)
position_after p w s =
    ap (λ (f : Arm64StackFrame). record { process = p; frame = f; has_returned = true; remaining = w.remaining - 1; end = ends.Bound }) (kept w s)

pub keep_walks : KeepWalks arm64_stack_walks
keep_walks = record {
  returned = λ w s. refl;
  counted = λ w s. refl;
  unended = λ w s. refl;
  over = λ w e. refl;
  ended = λ w e. refl;
}

pub keep_marks : KeepMarks arm64_stack_walks
keep_marks = record {
  has = λ w. refl;
  twice = λ w. refl;
  left = λ w. refl;
  frame = λ w. refl;
  state = λ p w. refl;
  framed = λ w s. refl;
  ended = λ w e. refl;
  ending = λ w. refl;
  after = λ w s. refl;
  over = λ w e. refl;
}
