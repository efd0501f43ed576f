-- Walks with the mark that their pieces of memory were tested: over the same memory a call returns the same, up to the mark.
use Rattle.std.proofs.Common.{◌≡◌, ◌↔◌, ℕ, zero, suc, Bool, true, false, List, Option, Result, Ok, Err, refl, ap, sym, ◌∙◌, subst}
use Rattle.std.specs.List.{list_all}
use Rattle.pe_core.specs.Refusals.{Refusal}
use Rattle.pe_frame.specs.FrameWalks.{Follows, FrameWalk, Process}
use Rattle.pe_frame.specs.MemoryLists.{are_inside, ascend, listed_word, memory_of}
use Rattle.pe_frame.specs.declared.memory_list.MemoryPiece.{MemoryPiece}
use Rattle.pe_frame.specs.declared.walk.WalkEnd.{WalkEnd}
use Rattle.pe_frame.proofs.Searches.{words_listed}
use Rattle.calls_stacks.specs.FrameCalls.{HandsOutBy, HandsOutFound, HandsOutNext, OverMemory, OverModules, OverProcess, WalkRecords, is_set, marked_if, state_in}
use Rattle.calls_stacks.specs.StackFrames.{OverPieces}
use Rattle.calls_stacks.specs.WalkModules.{has_table, modules_of, viewed}
use Rattle.calls_stacks.specs.declared.stack.walk.ModuleView.{ModuleView}

-- what the mark leaves: it is no part of the walk that a record stands for, and stays
pub record KeepMarks {W F : Type 0} (m : WalkRecords W F) : Type 0 where
  pub has : (w : W) → m.is_searched (m.marked w) ≡ true
  pub twice : (w : W) → m.marked (m.marked w) ≡ m.marked w
  pub left : (w : W) → m.remaining (m.marked w) ≡ m.remaining w
  pub frame : (w : W) → m.frame (m.marked w) ≡ m.frame w
  pub state : (p : Process) (w : W) → state_in m p (m.marked w) ≡ state_in m p w
  pub framed : (w : W) (s : F) → m.after_frame (m.marked w) s ≡ m.marked (m.after_frame w s)
  pub ended : (w : W) (e : WalkEnd) → m.after_end (m.marked w) e ≡ m.marked (m.after_end w e)
  pub ending : (w : W) → m.ending (m.marked w) ≡ m.ending w
  pub after : (w : W) (s : F) → m.is_searched (m.after_frame w s) ≡ m.is_searched w
  pub over : (w : W) (e : WalkEnd) → m.is_searched (m.after_end w e) ≡ m.is_searched w

-- pieces that lie in the memory
pub pieces_there : (memory : List ℕ) (pieces : List MemoryPiece) → are_inside memory pieces ≡ true → memory_of memory pieces ≡ Ok (memory, pieces)
pieces_there memory pieces inside = rw inside refl

-- modules whose tables lie in their bytes
pub views_there : (views : List ModuleView) → list_all has_table views ≡ true → viewed views ≡ Ok views
views_there views tables = rw tables refl

pub unmarked : (n : ℕ) → n ≡ 0 → is_set n ≡ false
unmarked n none = rw none refl

-- ---- the mark changes nothing

module _ {W F : Type 0} (m : WalkRecords W F) (number : ℕ) (views : List ModuleView) (memory : List ℕ) (pieces : List MemoryPiece) (steps : Process → W → Type 0) (tables : list_all has_table views ≡ true) (inside : are_inside memory pieces ≡ true) where
  abbrev over : (ℕ → Option ℕ) → W → Type 0
  over word = steps (record { memory = word; modules = modules_of views })

  abbrev by_views : Type 0 → W → Result (List ModuleView) Refusal → Type 0
  by_views unchanged v =
      OverModules unchanged number (λ modules. OverMemory m (m.is_searched v) unchanged number memory pieces v (λ word. steps (record { memory = word; modules = modules })))

  abbrev by_mark : Type 0 → W → Bool → Type 0
  by_mark unchanged v b = OverMemory m b unchanged number memory pieces v over

  abbrev by_pieces : Type 0 → W → Result (List ℕ × List MemoryPiece) Refusal → Type 0
  by_pieces unchanged v = OverPieces unchanged number (λ word. over word (marked_if m (ascend pieces) v))

  -- for a walk with the mark it is a call over the words of the list, where the pieces ascend
  pub from_marked : (v : W) → m.is_searched v ≡ true → ascend pieces ≡ true → (unchanged : Type 0) → OverProcess m unchanged number views memory pieces v steps → over (listed_word memory pieces) v
  from_marked v has up unchanged given =
      let it = subst (by_views unchanged v) (views_there views tables) given in
      let searched = subst (by_mark unchanged v) has it in
      subst (λ (word : ℕ → Option ℕ). over word v) (words_listed memory pieces inside up) searched

  to_marked : (v : W) → m.is_searched v ≡ true → ascend pieces ≡ true → (unchanged : Type 0) → over (listed_word memory pieces) v → OverProcess m unchanged number views memory pieces v steps
  to_marked v has up unchanged given =
      let searched = subst (λ (word : ℕ → Option ℕ). over word v) (sym (words_listed memory pieces inside up)) given in
      let it = subst (by_mark unchanged v) (sym has) searched in
      subst (by_views unchanged v) (sym (views_there views tables)) it

  -- for one without it, it is one for the walk that has it if they ascend
  pub from_unmarked : (v : W) → m.is_searched v ≡ false → (unchanged : Type 0) → OverProcess m unchanged number views memory pieces v steps → over (listed_word memory pieces) (marked_if m (ascend pieces) v)
  from_unmarked v without unchanged given =
      let it = subst (by_views unchanged v) (views_there views tables) given in
      let tested = subst (by_mark unchanged v) without it in
      subst (by_pieces unchanged v) (pieces_there memory pieces inside) tested

  to_unmarked : (v : W) → m.is_searched v ≡ false → (unchanged : Type 0) → over (listed_word memory pieces) (marked_if m (ascend pieces) v) → OverProcess m unchanged number views memory pieces v steps
  to_unmarked v without unchanged given =
      let tested = subst (by_pieces unchanged v) (sym (pieces_there memory pieces inside)) given in
      let it = subst (by_mark unchanged v) (sym without) tested in
      subst (by_views unchanged v) (sym (views_there views tables)) it

  pub same_over : KeepMarks m → (w : W) → ascend pieces ≡ true → m.is_searched w ≡ false → (unchanged other : Type 0) → (OverProcess m unchanged number views memory pieces (m.marked w) steps ↔ OverProcess m other number views memory pieces w steps)
  same_over keep w up without unchanged other =
      let marked : marked_if m (ascend pieces) w ≡ m.marked w = ap (λ (b : Bool). marked_if m b w) up in (
        λ given. to_unmarked w without other (subst (over (listed_word memory pieces)) (sym marked) (from_marked (m.marked w) (keep.has w) up unchanged given)),
        λ given. to_marked (m.marked w) (keep.has w) up unchanged (subst (over (listed_word memory pieces)) marked (from_unmarked w without other given)),
      )

-- ---- a call for a walk with the mark and without it

module _ {W F : Type 0} (Calls : Process → F → Result F WalkEnd → Type 0) (m : WalkRecords W F) (keep : KeepMarks m) (p : Process) (number : ℕ) where
  found_up : (old new : W) (found : Result F WalkEnd) → HandsOutFound Calls m number old new found → HandsOutFound Calls m number (m.marked old) (m.marked new) found
  found_up old new (Ok s) h = (h.0, ap m.marked h.1 ∙ sym (keep.framed old s), keep.frame new ∙ h.2)
  found_up old new (Err e) h = (h.0, ap m.marked h.1 ∙ sym (keep.ended old e))

  up_by : (n : ℕ) (old new : W) → HandsOutBy Calls m n p number old new → HandsOutBy Calls m n p number (m.marked old) (m.marked new)
  up_by zero old new h = (h.0, ap m.marked h.1)
  up_by (suc n) old new h = (
    h.0,
    subst (λ (v : FrameWalk Process F). Follows Calls v h.0) (sym (keep.state p old)) h.1,
    found_up old new h.0 h.2,
  )

  pub with_mark : (old new : W) → HandsOutNext Calls m p number old new → HandsOutNext Calls m p number (m.marked old) (m.marked new)
  with_mark old new h =
      subst (λ (n : ℕ). HandsOutBy Calls m n p number (m.marked old) (m.marked new)) (sym (keep.left old)) (up_by (m.remaining old) old new h)

  abbrev pub IsLike : (W → Type 0) → W → Type 0
  IsLike Is new = (other : W) × Is other × (m.marked other ≡ m.marked new)

  like : (old new made : W) → new ≡ m.marked made → m.marked made ≡ m.marked new
  like old new made is = sym (ap m.marked is ∙ keep.twice made)

  found_down : (old new : W) (found : Result F WalkEnd) → HandsOutFound Calls m number (m.marked old) new found → IsLike (λ other. HandsOutFound Calls m number old other found) new
  found_down old new (Ok s) h =
      let is : new ≡ m.marked (m.after_frame old s) = h.1 ∙ keep.framed old s in
      (m.after_frame old s, (h.0, refl, sym (keep.frame (m.after_frame old s)) ∙ (sym (ap m.frame is) ∙ h.2)), like old new (m.after_frame old s) is)
  found_down old new (Err e) h =
      let is : new ≡ m.marked (m.after_end old e) = h.1 ∙ keep.ended old e in
      (m.after_end old e, (h.0, refl), like old new (m.after_end old e) is)

  down_by : (n : ℕ) (old new : W) → HandsOutBy Calls m n p number (m.marked old) new → IsLike (λ other. HandsOutBy Calls m n p number old other) new
  down_by zero old new h = (old, (h.0, refl), like old new old h.1)
  down_by (suc n) old new h =
      let it = found_down old new h.0 h.2 in
      (it.0, (h.0, subst (λ (v : FrameWalk Process F). Follows Calls v h.0) (keep.state p old) h.1, it.1), it.2)

  pub without_mark : (old new : W) → HandsOutNext Calls m p number (m.marked old) new → IsLike (λ other. HandsOutNext Calls m p number old other) new
  without_mark old new h =
      down_by (m.remaining old) old new (subst (λ (n : ℕ). HandsOutBy Calls m n p number (m.marked old) new) (keep.left old) h)
