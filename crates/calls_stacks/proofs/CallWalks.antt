-- Whole walks of stacks by calls, of which the first may set the mark that the pieces of memory were tested.
use Rattle.std.proofs.Common.{◌≡◌, ℕ, zero, suc, Bool, true, false, List, [], ◌∷◌, Result, Ok, Err, ap, subst, ◌∙◌, refl}
use Rattle.std.specs.List.{list_all}
use Rattle.pe_frame.specs.FrameWalks.{FrameWalk, IsWalk, Process}
use Rattle.pe_frame.specs.MemoryLists.{are_inside, ascend, listed_word}
use Rattle.pe_frame.specs.declared.memory_list.MemoryPiece.{MemoryPiece}
use Rattle.pe_frame.specs.declared.walk.WalkEnd.{WalkEnd}
use Rattle.calls_stacks.specs.FrameCalls.{CallsReturn, HandsOutBy, HandsOutFound, HandsOutFrame, HandsOutNext, HasEnd, IsOpen, ReturnsFrames, WalkRecords, marked_if, state_in}
use Rattle.calls_stacks.specs.WalkModules.{has_table, modules_of}
use Rattle.calls_stacks.specs.declared.stack.walk.ModuleView.{ModuleView}
use Rattle.calls_stacks.proofs.FrameRuns.{KeepWalks, whole}
use Rattle.calls_stacks.proofs.MarkedWalks.{KeepMarks, from_marked, from_unmarked}

-- ---- the mark stays

module _ {W F : Type 0} (Calls : Process → F → Result F WalkEnd → Type 0) (m : WalkRecords W F) (marks : KeepMarks m) (p : Process) (number : ℕ) where
  found_keeps : (old new : W) (found : Result F WalkEnd) → HandsOutFound Calls m number old new found → m.is_searched new ≡ m.is_searched old
  found_keeps old new (Ok s) h = ap m.is_searched h.1 ∙ marks.after old s
  found_keeps old new (Err e) h = ap m.is_searched h.1 ∙ marks.over old e

  by_keeps : (n : ℕ) (old new : W) → HandsOutBy Calls m n p number old new → m.is_searched new ≡ m.is_searched old
  by_keeps zero old new h = ap m.is_searched h.1
  by_keeps (suc n) old new h = found_keeps old new h.0 h.2

  pub next_keeps : (old new : W) → HandsOutNext Calls m p number old new → m.is_searched new ≡ m.is_searched old
  next_keeps old new h = by_keeps (m.remaining old) old new h

-- ---- all calls

module _ {W F : Type 0} (Calls : Process → F → Result F WalkEnd → Type 0) (m : WalkRecords W F) (walks : KeepWalks m) (marks : KeepMarks m) (views : List ModuleView) (memory : List ℕ) (pieces : List MemoryPiece) (tables : list_all has_table views ≡ true) (inside : are_inside memory pieces ≡ true) where
  -- what the walk is over
  abbrev listed : Process
  listed = record { memory = listed_word memory pieces; modules = modules_of views }

  marked_call : ascend pieces ≡ true → (number : ℕ) (v new : W) → m.is_searched v ≡ true → HandsOutFrame Calls m views memory pieces number v new → HandsOutNext Calls m listed number v new
  marked_call up number v new has h =
      from_marked m number views memory pieces (λ p w. HandsOutNext Calls m p number w new) tables inside v has up (new ≡ v) h

  unmarked_call : (number : ℕ) (v new : W) → m.is_searched v ≡ false → HandsOutFrame Calls m views memory pieces number v new → HandsOutNext Calls m listed number (marked_if m (ascend pieces) v) new
  unmarked_call number v new without h =
      from_unmarked m number views memory pieces (λ p w. HandsOutNext Calls m p number w new) tables inside v without (new ≡ v) h

  -- those of a walk with the mark
  marked_calls : ascend pieces ≡ true → (v last : W) (frames : List F) → m.is_searched v ≡ true → CallsReturn Calls m views memory pieces v frames last → ReturnsFrames Calls m listed v frames last
  marked_calls up v last [] has h = marked_call up 100 v last has h
  marked_calls up v last (s ∷ frames) has h =
      let next = marked_call up 0 v h.0 has h.1 in
      (h.0, next, h.2, marked_calls up h.0 last frames (next_keeps Calls m marks listed 0 v h.0 next ∙ has) h.3)

  -- those of a walk that never gets it
  unmarked_calls : ascend pieces ≡ false → (v last : W) (frames : List F) → m.is_searched v ≡ false → CallsReturn Calls m views memory pieces v frames last → ReturnsFrames Calls m listed v frames last
  unmarked_calls not v last [] without h =
      subst (λ (b : Bool). HandsOutNext Calls m listed 100 (marked_if m b v) last) not (unmarked_call 100 v last without h)
  unmarked_calls not v last (s ∷ frames) without h =
      let next = subst (λ (b : Bool). HandsOutNext Calls m listed 0 (marked_if m b v) h.0) not (unmarked_call 0 v h.0 without h.1) in
      (h.0, next, h.2, unmarked_calls not h.0 last frames (next_keeps Calls m marks listed 0 v h.0 next ∙ without) h.3)

  -- those of a walk that gets it by the first call
  first_marks : ascend pieces ≡ true → (v last : W) (frames : List F) → m.is_searched v ≡ false → CallsReturn Calls m views memory pieces v frames last → ReturnsFrames Calls m listed (m.marked v) frames last
  first_marks up v last [] without h =
      subst (λ (b : Bool). HandsOutNext Calls m listed 100 (marked_if m b v) last) up (unmarked_call 100 v last without h)
  first_marks up v last (s ∷ frames) without h =
      let next = subst (λ (b : Bool). HandsOutNext Calls m listed 0 (marked_if m b v) h.0) up (unmarked_call 0 v h.0 without h.1) in
      (h.0, next, h.2, marked_calls up h.0 last frames (next_keeps Calls m marks listed 0 (m.marked v) h.0 next ∙ marks.has v) h.3)

  abbrev Whole : W → W → List F → Type 0
  Whole w last frames = (end : WalkEnd) × IsWalk Calls (state_in m listed w) frames end × HasEnd m last end

  by_order : (b : Bool) (w last : W) (frames : List F) → ascend pieces ≡ b → IsOpen m w → m.is_searched w ≡ false → CallsReturn Calls m views memory pieces w frames last → Whole w last frames
  by_order false w last frames not still without h =
      whole Calls m walks listed w last frames still (unmarked_calls not w last frames without h)
  by_order true w last frames up still without h =
      let it : Whole (m.marked w) last frames = whole Calls m walks listed (m.marked w) last frames (marks.ending w ∙ still) (first_marks up w last frames without h) in
      (it.0, subst (λ (v : FrameWalk Process F). IsWalk Calls v frames it.0) (marks.state listed w) it.1, it.2)

  pub whole_by_calls : (w last : W) (frames : List F) → IsOpen m w → m.is_searched w ≡ false → CallsReturn Calls m views memory pieces w frames last → Whole w last frames
  whole_by_calls w last frames still without h = by_order (ascend pieces) w last frames refl still without h
