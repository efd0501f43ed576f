-- What is returned over runs of memory is what is returned over the pieces that they are made of, up to the mark of the walk.
use Rattle.std.proofs.Common.{◌≡◌, ◌⊎◌, inl, inr, ⊎_elim, ℕ, Bool, true, false, List, Option, Result, Ok, Err, refl, ap, subst, sym, ◌∙◌}
use Rattle.pe_core.specs.Refusals.{Refusal}
use Rattle.pe_frame.specs.FrameWalks.{Process}
use Rattle.pe_frame.specs.MemoryLists.{are_inside, ascend, listed_word}
use Rattle.pe_frame.specs.declared.memory_list.MemoryPiece.{MemoryPiece}
use Rattle.pe_frame.specs.declared.walk.WalkEnd.{WalkEnd}
use Rattle.pe_lookup.proofs.Lookups.{test_passed}
use Rattle.pe_frame.proofs.Searches.{words_listed}
use Rattle.pe_stacks.proofs.FullMemory.{runs_word}
use Rattle.pe_stacks.specs.MemoryRuns.{AreRuns}
use Rattle.calls_stacks.specs.FrameCalls.{HandsOutFrame, HandsOutNext, OverMemory, OverModules, WalkRecords, is_set, marked_if}
use Rattle.calls_stacks.specs.StackFrames.{OverPieces}
use Rattle.calls_stacks.specs.WalkModules.{modules_of, viewed}
use Rattle.calls_stacks.specs.declared.stack.walk.ModuleView.{ModuleView}
use Rattle.calls_stacks.proofs.MarkedWalks.{KeepMarks, pieces_there, unmarked, with_mark, without_mark}

module _ {W F : Type 0} (Calls : Process → F → Result F WalkEnd → Type 0) (m : WalkRecords W F) (keep : KeepMarks m) (number : ℕ) (memory : List ℕ) where
  -- a call over these words, for the walk that has the mark or not
  abbrev Next : List ModuleView → (ℕ → Option ℕ) → W → W → Type 0
  Next views word w v = HandsOutNext Calls m (record { memory = word; modules = modules_of views }) number w v

  -- a call over these pieces
  abbrev By : List MemoryPiece → W → W → Result (List ModuleView) Refusal → Type 0
  By listed w v =
      OverModules (v ≡ w) number (λ modules. OverMemory m (m.is_searched w) (v ≡ w) number memory listed w (λ word w. HandsOutNext Calls m (record { memory = word; modules = modules }) number w v))

  -- a call over the words of a list, once the modules are there, for a walk that is this one but for the mark
  abbrev Listed : List ModuleView → List MemoryPiece → W → W → Type 0
  Listed views listed w v = (u : W) × (m.marked u ≡ m.marked w) × Next views (listed_word memory listed) u v

  marked_too : (b : Bool) (w : W) → m.marked (marked_if m b w) ≡ m.marked w
  marked_too true w = keep.twice w
  marked_too false w = refl

  from_by : (views : List ModuleView) (listed : List MemoryPiece) (w v : W) (b : Bool) → are_inside memory listed ≡ true → ascend listed ≡ true
      → OverMemory m b (v ≡ w) number memory listed w (λ word w. Next views word w v) → Listed views listed w v
  from_by views listed w v true there up given = (w, refl, subst (λ (word : ℕ → Option ℕ). Next views word w v) (words_listed memory listed there up) given)
  from_by views listed w v false there up given = (
    marked_if m (ascend listed) w,
    marked_too (ascend listed) w,
    subst (OverPieces (v ≡ w) number (λ word. Next views word (marked_if m (ascend listed) w) v)) (pieces_there memory listed there) given,
  )

  -- what is returned for one of two walks that are equal but for the mark is returned for the other, up to the mark
  alike : (p : Process) (old older new : W) → m.marked old ≡ m.marked older → HandsOutNext Calls m p number old new
      → (newer : W) × HandsOutNext Calls m p number older newer × (m.marked newer ≡ m.marked new)
  alike p old older new same given =
      let up = subst (λ (w : W). HandsOutNext Calls m p number w (m.marked new)) same (with_mark Calls m keep p number old new given) in
      let it = without_mark Calls m keep p number older (m.marked new) up in
      (it.0, it.1, it.2 ∙ keep.twice new)

  to_by : (views : List ModuleView) (listed : List MemoryPiece) (w : W) (b : Bool) → are_inside memory listed ≡ true → (b ≡ false) ⊎ (ascend listed ≡ true)
      → (new u : W) → m.marked u ≡ m.marked w → Next views (listed_word memory listed) u new
      → (newer : W) × OverMemory m b (newer ≡ w) number memory listed w (λ word w. Next views word w newer) × (m.marked newer ≡ m.marked new)
  to_by views listed w true there either new u same given =
      let up : ascend listed ≡ true = ⊎_elim (λ (no : true ≡ false). absurd cc) (λ (up : ascend listed ≡ true). up) either in
      let it = alike (record { memory = listed_word memory listed; modules = modules_of views }) u w new same given in
      (it.0, subst (λ (word : ℕ → Option ℕ). Next views word w it.0) (sym (words_listed memory listed there up)) it.1, it.2)
  to_by views listed w false there either new u same given =
      let it = alike (record { memory = listed_word memory listed; modules = modules_of views }) u (marked_if m (ascend listed) w) new (same ∙ sym (marked_too (ascend listed) w)) given in (
        it.0,
        subst (OverPieces (it.0 ≡ w) number (λ word. Next views word (marked_if m (ascend listed) w) it.0)) (sym (pieces_there memory listed there)) it.1,
        it.2,
      )

  by_views : (pieces runs : List MemoryPiece) (old older new : W) → AreRuns pieces runs → are_inside memory pieces ≡ true → m.marked older ≡ m.marked old
      → (m.is_searched older ≡ false) ⊎ (ascend pieces ≡ true) → (views : Result (List ModuleView) Refusal)
      → By runs old new views → (newer : W) × By pieces older newer views × (m.marked newer ≡ m.marked new)
  by_views pieces runs old older new are inside same either (Err refusal) given = (older, (given.0, refl), same ∙ sym (ap m.marked given.1))
  by_views pieces runs old older new are inside same either (Ok views) given =
      let up : ascend runs ≡ true = test_passed (λ (p : MemoryPiece). p.start) (λ (p : MemoryPiece). p.length) runs are.ascending in
      let over = from_by views runs old new (m.is_searched old) (are.inside memory inside) up given in
      let there = subst (λ (word : ℕ → Option ℕ). Next views word over.0 new) (runs_word memory pieces runs are) over.2 in
      to_by views pieces older (m.is_searched older) inside either new over.0 (over.1 ∙ sym same) there

  pub over_runs : (pieces runs : List MemoryPiece) (old older new : W) → AreRuns pieces runs → are_inside memory pieces ≡ true → m.marked older ≡ m.marked old
      → (m.is_searched older ≡ false) ⊎ (ascend pieces ≡ true) → (views : List ModuleView)
      → HandsOutFrame Calls m views memory runs number old new → (newer : W) × HandsOutFrame Calls m views memory pieces number older newer × (m.marked newer ≡ m.marked new)
  over_runs pieces runs old older new are inside same either views given = by_views pieces runs old older new are inside same either (viewed views) given

-- a walk without the mark, or pieces that ascend
pub either_way : (n : ℕ) (up : Bool) → (n ≡ 0) ⊎ (up ≡ true) → (is_set n ≡ false) ⊎ (up ≡ true)
either_way n up (inl none) = inl (unmarked n none)
either_way n up (inr is) = inr is
