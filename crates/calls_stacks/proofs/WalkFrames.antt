-- Frames in the records of walks: what is written there is read again.
use Rattle.std.proofs.Common.{◌≡◌, ℕ, ◌+◌, ◌-◌, ◌*◌, ◌/◌, ◌%◌, ◌^◌, ◌<◌, Bool, true, false, List, length, slice_index, Ok, refl, ap, sym, ◌∙◌, subst, arith}
use Rattle.std.specs.Prelude.{◌==◌}
use Rattle.std.proofs.lemmas.List.{ext_get_or}
use Rattle.std.proofs.lemmas.Bool.Decides.{nat_tests}
use Rattle.std.proofs.lemmas.Nat.{div-add-mod'}
use Rattle.pe_core.specs.Rows.{each}
use Rattle.pe_core.proofs.EntryItems.{get_or-each, length-each}
use Rattle.pe_frame.specs.FrameWalks.{Process, walk_after}
use Rattle.pe_frame.specs.declared.walk.StackFrame.{StackFrame}
use Rattle.pe_frame.specs.declared.walk.WalkEnd.TheVariants as ends
use Rattle.pe_frame.specs.declared.walk.Way.{Way}
use Rattle.pe_frame.specs.declared.walk.Way.TheVariants.{Top, Records, Leaf, Interrupt, Scanned, FramePointer}
use Rattle.calls_stacks.specs.StackFrames.{half_xmm, whole_xmm}
use Rattle.calls_stacks.specs.FrameCalls.{bit_of, is_set, state_in, way_number, way_of}
use Rattle.calls_stacks.specs.StackWalks.{after_frame, frame_in, stack_walks}
use Rattle.calls_stacks.specs.declared.stack.walk.StackWalk.{StackWalk}
use Rattle.calls_stacks.proofs.FrameRuns.{KeepWalks}
use Rattle.calls_stacks.proofs.MarkedWalks.{KeepMarks}

-- ---- registers

low_half : (xmm : List ℕ) (i : ℕ) → half_xmm xmm (2 * i) ≡ slice_index xmm i % 2 ^ 64
low_half xmm i =
    let even : (2 * i % 2 == 0) ≡ true = grind (arith, nat_tests) in
    let same : 2 * i / 2 ≡ i = omega arith in
    rw (even, same) refl

high_half : (xmm : List ℕ) (i : ℕ) → half_xmm xmm (2 * i + 1) ≡ slice_index xmm i / 2 ^ 64
high_half xmm i =
    let odd : ((2 * i + 1) % 2 == 0) ≡ false = grind (arith, nat_tests) in
    let same : (2 * i + 1) / 2 ≡ i = omega arith in
    rw (odd, same) refl

whole_of_halves : (xmm : List ℕ) (i : ℕ) → i < 16 → whole_xmm (each (half_xmm xmm) 32) i ≡ slice_index xmm i
whole_of_halves xmm i lt =
    let low : slice_index (each (half_xmm xmm) 32) (2 * i) ≡ slice_index xmm i % 2 ^ 64 = get_or-each (half_xmm xmm) 32 (2 * i) 0 (omega (arith, lt)) ∙ low_half xmm i in
    let high : slice_index (each (half_xmm xmm) 32) (2 * i + 1) ≡ slice_index xmm i / 2 ^ 64 = get_or-each (half_xmm xmm) 32 (2 * i + 1) 0 (omega (arith, lt)) ∙ high_half xmm i in
    omega (arith, low, high, div-add-mod' (slice_index xmm i) (2 ^ 64))

-- the XMM registers of their halves
pub registers_of_halves : (xmm : List ℕ) → length xmm ≡ 16 → each (whole_xmm (each (half_xmm xmm) 32)) 16 ≡ xmm
registers_of_halves xmm all =
    let count = length-each (whole_xmm (each (half_xmm xmm) 32)) 16 in
    ext_get_or 0 (each (whole_xmm (each (half_xmm xmm) 32)) 16) xmm (count ∙ sym all) (λ i lt.
    let less : i < 16 = subst (λ (n : ℕ). i < n) count lt in
    get_or-each (whole_xmm (each (half_xmm xmm) 32)) 16 i 0 less ∙ whole_of_halves xmm i less)

-- ---- numbers

pub same_way : (way : Way) → way_of (way_number way) ≡ way
unfolding way_of
same_way Top = refl
same_way Records = refl
same_way Leaf = refl
same_way Interrupt = refl
same_way Scanned = refl
same_way FramePointer = refl

pub same_bit : (b : Bool) → is_set (bit_of b) ≡ b
same_bit true = refl
same_bit false = refl

-- ---- the frame

pub kept : (w : StackWalk) (s : StackFrame) → length (s.registers).xmm ≡ 16 → frame_in (after_frame w s) ≡ s
kept w s all = rw (registers_of_halves (s.registers).xmm all, same_way s.way, same_bit s.has_called, same_bit s.is_guess) refl

-- where the walk is then
pub position_after : (p : Process) (w : StackWalk) (s : StackFrame) → length (s.registers).xmm ≡ 16 → state_in stack_walks p (after_frame w s) ≡ walk_after (state_in stack_walks p w) (Ok s)
position_after p w s all =
    ap (λ (f : StackFrame). record { process = p; frame = f; has_returned = true; remaining = w.remaining - 1; end = ends.Bound }) (kept w s all)

pub keep_walks : KeepWalks stack_walks
keep_walks = record {
  returned = λ w s. refl;
  counted = λ w s. refl;
  unended = λ w s. refl;
  over = λ w e. refl;
  ended = λ w e. refl;
}

pub keep_marks : KeepMarks stack_walks
keep_marks = record {
  has = λ w. refl;
  twice = λ w. refl;
  left = λ w. refl;
  frame = λ w. refl;
  state = λ p w. refl;
  framed = λ w s. refl;
  ended = λ w e. refl;
  ending = λ w. refl;
  after = λ w s. refl;
  over = λ w e. refl;
}
