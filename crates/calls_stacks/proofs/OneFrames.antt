-- A call for several frames with room for one returns the next frame of the walk.
use Rattle.std.proofs.Common.{◌≡◌, ◌⊎◌, ◌<◌, inl, inr, ℕ, Bool, true, false, List, [], ◌∷◌, length, take, nat_lt, if◌then◌else◌, Option, Result, Ok, Err, sym, ap, ◌∙◌, subst, arith}
use Rattle.pe_core.specs.Refusals.{Refusal}
use Rattle.pe_frame.specs.FrameWalks.{Process}
use Rattle.pe_frame.specs.MemoryLists.{ascend, memory_of}
use Rattle.pe_frame.specs.SearchedMemory.{searched_word}
use Rattle.pe_frame.specs.declared.memory_list.MemoryPiece.{MemoryPiece}
use Rattle.pe_frame.specs.declared.modules.Module.{Module}
use Rattle.pe_frame.specs.declared.walk.WalkEnd.{WalkEnd}
use Rattle.calls_stacks.specs.FrameCalls.{ComesTo, FillsFrames, HandsOutFrame, HandsOutFrames, HandsOutNext, OverMemory, OverModules, OverProcess, WalkRecords, marked_if}
use Rattle.calls_stacks.specs.StackFrames.{OverPieces}
use Rattle.calls_stacks.specs.WalkModules.{modules_of, viewed}
use Rattle.calls_stacks.specs.declared.stack.walk.ModuleView.{ModuleView}

-- ---- over what a caller passes

module _ {W F : Type 0} (m : WalkRecords W F) (number : ℕ) (memory : List ℕ) (pieces : List MemoryPiece) (A B : Type 0) (less : A → B) (From To : Process → W → Type 0) (step : (p : Process) (w : W) → From p w → To p w) where
  abbrev over : List Module → (ℕ → Option ℕ) → Process
  over modules word = record { memory = word; modules = modules }

  by_pieces : (modules : List Module) (v : W) (found : Result (List ℕ × List MemoryPiece) Refusal) → OverPieces A number (λ word. From (over modules word) v) found → OverPieces B number (λ word. To (over modules word) v) found
  by_pieces modules v (Err e) h = (h.0, less h.1)
  by_pieces modules v (Ok found) h = step _ v h

  by_mark : (modules : List Module) (b : Bool) (v : W) → OverMemory m b A number memory pieces v (λ word w. From (over modules word) w) → OverMemory m b B number memory pieces v (λ word w. To (over modules word) w)
  by_mark modules true v h = step (over modules (searched_word memory pieces)) v h
  by_mark modules false v h = by_pieces modules (marked_if m (ascend pieces) v) (memory_of memory pieces) h

  by_views : (v : W) (views : Result (List ModuleView) Refusal) → OverModules A number (λ modules. OverMemory m (m.is_searched v) A number memory pieces v (λ word w. From (over modules word) w)) views → OverModules B number (λ modules. OverMemory m (m.is_searched v) B number memory pieces v (λ word w. To (over modules word) w)) views
  by_views v (Err e) h = (h.0, less h.1)
  by_views v (Ok views) h = by_mark (modules_of views) (m.is_searched v) v h

  over_process : (views : List ModuleView) (v : W) → OverProcess m A number views memory pieces v From → OverProcess m B number views memory pieces v To
  over_process views v h = by_views v (viewed views) h

-- ---- one slot

module _ {W F : Type 0} (Calls : Process → F → Result F WalkEnd → Type 0) (m : WalkRecords W F) where
  first_of : (p : Process) (w reached : W) (filled : List W) → length filled ≡ 1 → ComesTo Calls m p w (take 1 filled) reached → HandsOutNext Calls m p 0 w reached
  first_of p w reached [] same h = absurd (omega (arith, same))
  first_of p w reached (x ∷ xs) same h = subst (λ (v : W). HandsOutNext Calls m p 0 w v) (sym h.1) h.0

  one_by : (p : Process) (number n : ℕ) (w reached new : W) (filled : List W) → length filled ≡ 1 → ComesTo Calls m p w (take n filled) reached
      → ((n ≡ 1) × (new ≡ reached)) ⊎ ((n < 1) × HandsOutNext Calls m p 100 reached new) → number ≡ (if nat_lt n 1 then 100 else 0) → HandsOutNext Calls m p number w new
  one_by p number n w reached new filled same h (inl (all, is)) said =
      let first = first_of p w reached filled same (subst (λ (k : ℕ). ComesTo Calls m p w (take k filled) reached) all h) in
      let done : number ≡ 0 = said ∙ ap (λ (k : ℕ). if nat_lt k 1 then 100 else 0) all in
      subst (λ (k : ℕ). HandsOutNext Calls m p k w new) (sym done) (subst (λ (v : W). HandsOutNext Calls m p 0 w v) (sym is) first)
  one_by p number n w reached new filled same h (inr (lt, last)) said =
      let none : n ≡ 0 = omega (arith, lt) in
      let here : reached ≡ w = subst (λ (k : ℕ). ComesTo Calls m p w (take k filled) reached) none h in
      let over : number ≡ 100 = said ∙ ap (λ (k : ℕ). if nat_lt k 1 then 100 else 0) none in
      subst (λ (k : ℕ). HandsOutNext Calls m p k w new) (sym over) (subst (λ (v : W). HandsOutNext Calls m p 100 v new) here last)

  pub one_frame : (views : List ModuleView) (memory : List ℕ) (pieces : List MemoryPiece) (number count : ℕ) (slot : W) (filled : List W × ℕ) (w new : W) → HandsOutFrames Calls m views memory pieces number (slot ∷ [], count) filled w new → HandsOutFrame Calls m views memory pieces number w new
  one_frame views memory pieces number count slot filled w new h =
      over_process m number memory pieces ((new ≡ w) × (filled ≡ (slot ∷ [], count))) (new ≡ w) (λ both. both.0)
      (λ p v. FillsFrames Calls m p filled.1 (slot ∷ []) filled.0 v new × (number ≡ (if nat_lt filled.1 1 then 100 else 0))) (λ p v. HandsOutNext Calls m p number v new)
      (λ p v it. one_by p number filled.1 v it.0.reached new filled.0 it.0.same it.0.frames it.0.ending it.1) views w h
