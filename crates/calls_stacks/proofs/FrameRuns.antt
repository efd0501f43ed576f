-- Whole walks of stacks, a frame a call.
use Rattle.std.proofs.Common.{◌≡◌, ℕ, zero, suc, ◌-◌, Bool, true, List, [], ◌∷◌, Result, Ok, Err, refl, ap, sym, ◌∙◌, subst, arith}
use Rattle.pe_frame.specs.FrameWalks.{Follows, FrameWalk, IsWalk, IsWalkBy, Process, walk_after}
use Rattle.pe_frame.specs.declared.walk.WalkEnd.{WalkEnd}
use Rattle.pe_frame.specs.declared.walk.WalkEnd.TheVariants as ends
use Rattle.calls_stacks.specs.FrameCalls.{HandsOutBy, HandsOutFound, HasEnd, IsOpen, ReturnsFrames, WalkRecords, numbers_of_end, state_in}

-- what the records of a machine keep: a frame counts and ends nothing, and the end is written
pub record KeepWalks {W F : Type 0} (m : WalkRecords W F) : Type 0 where
  pub returned : (w : W) (s : F) → m.has_returned (m.after_frame w s) ≡ true
  pub counted : (w : W) (s : F) → m.remaining (m.after_frame w s) ≡ m.remaining w - 1
  pub unended : (w : W) (s : F) → m.ending (m.after_frame w s) ≡ m.ending w
  pub over : (w : W) (e : WalkEnd) → m.remaining (m.after_end w e) ≡ 0
  pub ended : (w : W) (e : WalkEnd) → m.ending (m.after_end w e) ≡ numbers_of_end e

module _ {W F : Type 0} (Calls : Process → F → Result F WalkEnd → Type 0) (m : WalkRecords W F) (keep : KeepWalks m) (p : Process) where
  abbrev at : W → FrameWalk Process F
  at w = state_in m p w

  -- ---- the call that returns nothing

  ended_by : (n : ℕ) (w last : W) (found : Result F WalkEnd) → Follows Calls (at w) found → HandsOutFound Calls m 100 w last found → (end : WalkEnd) × IsWalkBy Calls (suc n) (at w) [] end × HasEnd m last end
  ended_by n w last (Ok s) follows h = absurd (omega (arith, h.0))
  ended_by n w last (Err e) follows h =
      (e, follows, (ap m.remaining h.1 ∙ keep.over w e, ap m.ending h.1 ∙ keep.ended w e))

  ended : (n : ℕ) (w last : W) → m.remaining w ≡ n → IsOpen m w → HandsOutBy Calls m n p 100 w last → (end : WalkEnd) × IsWalkBy Calls n (at w) [] end × HasEnd m last end
  ended zero w last left still h =
      (ends.Bound, (refl, refl), (ap m.remaining h.1 ∙ left, ap m.ending h.1 ∙ still))
  ended (suc n) w last left still h = ended_by n w last h.0 h.1 h.2

  -- ---- a call that returns a frame

  -- the walk that a record stands for, by its parts
  abbrev state_with : F → Bool → ℕ → FrameWalk Process F
  state_with f returned remaining =
      record { process = p; frame = f; has_returned = returned; remaining = remaining; end = ends.Bound }

  next_state : (w next : W) (s x : F) → next ≡ m.after_frame w s → x ≡ m.frame next → at next ≡ walk_after (at w) (Ok x)
  next_state w next s x is same =
      let here : m.frame (m.after_frame w s) ≡ x = sym (same ∙ ap m.frame is) in
      ap at is
      ∙ (ap (λ (f : F). state_with f (m.has_returned (m.after_frame w s)) (m.remaining (m.after_frame w s))) here
      ∙ (ap (λ (b : Bool). state_with x b (m.remaining (m.after_frame w s))) (keep.returned w s)
      ∙ ap (λ (n : ℕ). state_with x true n) (keep.counted w s)))

  next_open : (w next : W) (s : F) → next ≡ m.after_frame w s → IsOpen m w → IsOpen m next
  next_open w next s is still = ap m.ending is ∙ (keep.unended w s ∙ still)

  abbrev Rest : W → List F → W → Type 0
  Rest w frames last =
      (n : ℕ) → m.remaining w ≡ n → IsOpen m w → (end : WalkEnd) × IsWalkBy Calls n (at w) frames end × HasEnd m last end

  more_by : (n : ℕ) (w next last : W) (x : F) (frames : List F) (found : Result F WalkEnd) → m.remaining w ≡ suc n → IsOpen m w → Follows Calls (at w) found → HandsOutFound Calls m 0 w next found → x ≡ m.frame next → Rest next frames last → (end : WalkEnd) × IsWalkBy Calls (suc n) (at w) (x ∷ frames) end × HasEnd m last end
  more_by n w next last x frames (Ok s) left still follows h same rest =
      let fewer : m.remaining next ≡ n = ap m.remaining h.1 ∙ (keep.counted w s ∙ omega (arith, left)) in
      let it = rest n fewer (next_open w next s h.1 still) in
      let this : s ≡ x = sym (same ∙ h.2) in (
        it.0,
        (
          subst (λ (f : F). Follows Calls (at w) (Ok f)) this follows,
          subst (λ (v : FrameWalk Process F). IsWalkBy Calls n v frames it.0) (next_state w next s x h.1 same) it.1,
        ),
        it.2,
      )
  more_by n w next last x frames (Err e) left still follows h same rest = absurd (omega (arith, h.0))

  more : (n : ℕ) (w next last : W) (x : F) (frames : List F) → m.remaining w ≡ n → IsOpen m w → HandsOutBy Calls m n p 0 w next → x ≡ m.frame next → Rest next frames last → (end : WalkEnd) × IsWalkBy Calls n (at w) (x ∷ frames) end × HasEnd m last end
  more zero w next last x frames left still h same rest = absurd (omega (arith, h.0))
  more (suc n) w next last x frames left still h same rest =
      more_by n w next last x frames h.0 left still h.1 h.2 same rest

  -- ---- all calls

  run : (w last : W) (frames : List F) → ReturnsFrames Calls m p w frames last → Rest w frames last
  run w last [] h n left still = ended n w last left still (subst (λ (k : ℕ). HandsOutBy Calls m k p 100 w last) left h)
  run w last (x ∷ frames) h n left still =
      more n w h.0 last x frames left still (subst (λ (k : ℕ). HandsOutBy Calls m k p 0 w h.0) left h.1) h.2 (run h.0 last frames h.3)

  pub whole : (w last : W) (frames : List F) → IsOpen m w → ReturnsFrames Calls m p w frames last → (end : WalkEnd) × IsWalk Calls (at w) frames end × HasEnd m last end
  whole w last frames still h = run w last frames h (m.remaining w) refl still
