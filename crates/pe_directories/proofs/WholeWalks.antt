-- Whole walks, whatever they are over.
use Rattle.std.proofs.Common.{◌≡◌, ℕ, zero, suc, ◌+◌, ◌<◌, List, [], ◌∷◌, map, Option, Some, None, Result, Ok, Err, refl, ap, sym, ◌∙◌, subst, arith}
use Rattle.pe_directories.proofs.Cited.{Yields, DirectoryRefusal, directory_answer, directory_kind_of, First, Items, ItemsLeft, HasOneList}
use Rattle.pe_directories.proofs.Cited.{Steps, DirectoryError}

-- each item makes what is left smaller
abbrev pub Shrinks : {X S : Type 0} → (S → ℕ) → (S → First X S) → Type 0
Shrinks {X} {S} size first = (s : S) (x : X) (t : S) → first s ≡ Some (Ok (x, t)) → size t < size s

-- ---- one list

items_once : {X S : Type 0} (first : S → First X S) (s : S) (xs ys : List (Result X DirectoryRefusal)) → Items first s xs → Items first s ys → xs ≡ ys
items_once first s [] [] h k = refl
items_once first s [] (Ok y ∷ ys) h k = absurd (cc (h, k.1))
items_once first s [] (Err e ∷ ys) h k = absurd (cc (h, k.0))
items_once first s (Ok x ∷ xs) [] h k = absurd (cc (h.1, k))
items_once {X} {S} first s (Ok x ∷ xs) (Ok y ∷ ys) h k =
    let pair : (x, h.0) ≡ (y, k.0) = cc (h.1, k.1) in
    let left : h.0 ≡ k.0 = ap (λ (p : X × S). p.1) pair in
    let same : x ≡ y = ap (λ (p : X × S). p.0) pair in
    let rest : xs ≡ ys = items_once first h.0 xs ys h.2 (subst (λ (t : S). Items first t ys) (sym left) k.2) in
    ap (λ (z : X). Ok z ∷ xs) same ∙ ap (λ (zs : List (Result X DirectoryRefusal)). Ok y ∷ zs) rest
items_once first s (Ok x ∷ xs) (Err e ∷ ys) h k = absurd (cc (h.1, k.0))
items_once first s (Err e ∷ xs) [] h k = absurd (cc (h.0, k))
items_once first s (Err e ∷ xs) (Ok y ∷ ys) h k = absurd (cc (h.0, k.1))
items_once first s (Err e ∷ xs) (Err f ∷ ys) h k = let same : e ≡ f = cc (h.0, k.0) in cc (same, h.1, k.1)

abbrev pub Listed : {X S : Type 0} → (S → First X S) → S → Type 0
Listed {X} {S} first s = (xs : List (Result X DirectoryRefusal)) × Items first s xs

listed_step : {X S : Type 0} (first : S → First X S) (s : S) (found : First X S) → first s ≡ found → ((x : X) (t : S) → first s ≡ Some (Ok (x, t)) → Listed first t) → Listed first s
listed_step first s None e more = ([], e)
listed_step first s (Some (Ok x)) e more = let rest = more x.0 x.1 e in (Ok x.0 ∷ rest.0, (x.1, e, rest.1))
listed_step first s (Some (Err r)) e more = (Err r ∷ [], (e, refl))

listed_of : {X S : Type 0} (size : S → ℕ) (first : S → First X S) → Shrinks size first → (n : ℕ) (s : S) → size s < n → Listed first s
listed_of size first shrinks zero s few = absurd (omega (arith, few))
listed_of size first shrinks (suc n) s few =
    listed_step first s (first s) refl (λ x t e. listed_of size first shrinks n t (omega (arith, few, shrinks s x t e)))

pub one_list : {X S : Type 0} (size : S → ℕ) (first : S → First X S) → Shrinks size first → HasOneList first
one_list size first shrinks = record {
  exists = λ s. listed_of size first shrinks (size s + 1) s (omega arith);
  once = items_once first;
}

-- ---- whole runs, seen by what an iterator has left

pub ended : {X S Y : Type 0} (view : Y → X) (first : S → First X S) (left after : Option S) → Steps view first left None after → ItemsLeft first left []
ended view first left after h = grind arith

pub one_more : {X S Y : Type 0} (view : Y → X) (first : S → First X S) (left after : Option S) (y : Y) (items : List (Result X DirectoryRefusal)) → Steps view first left (Some (Ok y)) after → ItemsLeft first after items → ItemsLeft first left (Ok (view y) ∷ items)
one_more view first left after y items h more = grind arith

pub refused : {X S Y : Type 0} (view : Y → X) (first : S → First X S) (left after : Option S) (e : DirectoryError) (items : List (Result X DirectoryRefusal)) → Steps view first left (Some (Err e)) after → ItemsLeft first after items → ItemsLeft first left (Err (directory_kind_of e) ∷ items)
refused view first left after e items h more = grind arith

module _ {I X S Y : Type 0} (view : Y → X) (first : I → S → First X S) (left : I → Option S) (steps : I → Option (Result Y DirectoryError) → I → Type 0) where
  -- a call of next is a step, and keeps what defines the items
  abbrev pub Walks : Type 0
  Walks = (s : I) (r : Option (Result Y DirectoryError)) (t : I) → steps s r t → Steps view (first s) (left s) r (left t) × (first t ≡ first s)

  pub whole : Walks → (s t u : I) (xs : List (Result Y DirectoryError)) → Yields steps s xs t → steps t None u → ItemsLeft (first s) (left s) (map (directory_answer view) xs)
  whole is s t u [] y end =
      subst (λ (r : I). ItemsLeft (first r) (left r) []) (sym y) (ended view (first t) (left t) (left u) (is t None u end).0)
  whole is s t u (Ok x ∷ xs) y end =
      let step = is s (Some (Ok x)) y.0 y.1 in
      let more = subst (λ (f : S → First X S). ItemsLeft f (left y.0) (map (directory_answer view) xs)) step.1 (whole is y.0 t u xs y.2 end) in
      one_more view (first s) (left s) (left y.0) x (map (directory_answer view) xs) step.0 more
  whole is s t u (Err e ∷ xs) y end =
      let step = is s (Some (Err e)) y.0 y.1 in
      let more = subst (λ (f : S → First X S). ItemsLeft f (left y.0) (map (directory_answer view) xs)) step.1 (whole is y.0 t u xs y.2 end) in
      refused view (first s) (left s) (left y.0) e (map (directory_answer view) xs) step.0 more
