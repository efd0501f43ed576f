-- Whole walks by what stands first in what a walk has left, whatever they are over.
use Rattle.std.proofs.Common.{◌≡◌, ℕ, ◌-◌, ◌≤◌, List, [], ◌∷◌, length, drop, Option, Some, None, Result, Ok, Err, length-drop, refl, sym, ap, subst, ◌∙◌, arith}
use Rattle.calls_directories.proofs.Cited.{Refusal, DirectoryRefusal, Image, First, Items, bytes_there, nothing_there, same_range}
use Rattle.calls_directories.proofs.Cited.{size_of, Makes, gives_first, gives_nothing, gives_refusal, StepsBy, first_in, left_after}
use Rattle.calls_directories.proofs.Cited.{range_left, read_first, step_of, bytes_at, no_bytes, range_after, EachHas, IsOver}
use Rattle.calls_directories.proofs.Cited.{ReturnsItems, and_after, read_in_turn, read_items, Range}
use Rattle.calls_base.proofs.LeftBytes as left

-- ---- what a step returns and leaves, by what stands first

abbrev pub answered : {X Y S : Type 0} → (X → Result Y DirectoryRefusal) → First X S → Result (Option Y) DirectoryRefusal
answered {X} {Y} read f = step_of (λ (y : Y). y) (read_first read f)

abbrev pub unless : {W Y : Type 0} → Result Y DirectoryRefusal → W → W → W
unless (Ok y) next over = next
unless (Err r) next over = over

abbrev pub moved : {W X Y S : Type 0} → (X → Result Y DirectoryRefusal) → (X → S → W) → W → W → First X S → W
moved read after over w None = w
moved read after over w (Some (Ok x)) = unless (read x.0) (after x.0 x.1) over
moved read after over w (Some (Err r)) = over

-- a walk whose steps are by what stands first in what it has left: each item is read, and the walk moves past it
pub record IsWalk {W X Y S : Type 0} (Steps : W → Result (Option Y) DirectoryRefusal → W → Type 0) (first : S → First X S) (first_at : W → First X S)
    (read : W → X → Result Y DirectoryRefusal) (move : W → X → W) (after : W → X → S → W) (over : W → W) (Holds : W → S → Type 0) : Type 0 where
  pub sees : (w : W) (s : S) → Holds w s → first_at w ≡ first s
  pub makes : (w : W) (f : First X S) → first_at w ≡ f → Makes Steps w (answered (read w) f) (moved (read w) (after w) (over w) w f)
  pub goes_on : (w : W) (s : S) (x : X) (t : S) → Holds w s → first s ≡ Some (Ok (x, t)) → (after w x t ≡ move w x) × Holds (move w x) t
  pub ends : (w : W) → first_at (over w) ≡ None

module _ {W X Y S : Type 0} (Steps : W → Result (Option Y) DirectoryRefusal → W → Type 0) (first : S → First X S) (first_at : W → First X S) (read : W → X → Result Y DirectoryRefusal) (move : W → X → W) (after : W → X → S → W) (over : W → W) (Holds : W → S → Type 0) (walk : IsWalk Steps first first_at read move after over Holds) where
  is_over : (w : W) → IsOver Steps (over w)
  is_over w = walk.makes (over w) None (walk.ends w)

  one_more : (w : W) (x : X) (t : S) (a : Result Y DirectoryRefusal) (items : List (Result Y DirectoryRefusal)) →
      Makes Steps w (answered (λ (z : X). a) (Some (Ok (x, t)))) (unless a (after w x t) (over w)) → after w x t ≡ move w x → ReturnsItems Steps (move w x) items → ReturnsItems Steps w (and_after a items)
  one_more w x t (Ok y) items makes same more = gives_first Steps w (after w x t) y items makes (subst (λ (v : W). ReturnsItems Steps v items) (sym same) more)
  one_more w x t (Err r) items makes same more = gives_refusal Steps w (over w) r makes (is_over w)

  pub in_turn : (w : W) (s : S) (items : List (Result X DirectoryRefusal)) → Holds w s → Items first s items → ReturnsItems Steps w (read_in_turn read move w items)
  in_turn w s [] h f = let over : IsOver Steps w = walk.makes w None (walk.sees w s h ∙ f) in gives_nothing Steps w w over over
  in_turn w s (Ok x ∷ items) h f =
      let on = walk.goes_on w s x f.0 h f.1 in
      one_more w x f.0 (read w x) (read_in_turn read move (move w x) items) (walk.makes w (Some (Ok (x, f.0))) (walk.sees w s h ∙ f.1)) on.0 (in_turn (move w x) f.0 items on.1 f.2)
  in_turn w s (Err r ∷ items) h f = gives_refusal Steps w (over w) r (walk.makes w (Some (Err r)) (walk.sees w s h ∙ f.0)) (is_over w)

  pub refused : (w : W) (r : DirectoryRefusal) → first_at w ≡ Some (Err r) → ReturnsItems Steps w (Err r ∷ [])
  refused w r e = gives_refusal Steps w (over w) r (walk.makes w (Some (Err r)) e) (is_over w)

  -- each item that is returned has its parts, if it has them wherever it stands first
  has_by : (Has : Y → X → Type 0) (w : W) (x : X) (a : Result Y DirectoryRefusal) (ys : List (Result Y DirectoryRefusal)) (items : List (Result X DirectoryRefusal)) →
      ((y : Y) → a ≡ Ok y → Has y x) → EachHas Has ys items → EachHas Has (and_after a ys) (Ok x ∷ items)
  has_by Has w x (Ok y) ys items has more = (has y refl, more)
  has_by Has w x (Err r) ys items has more = tt

  pub each_has : (Has : Y → X → Type 0) → ((w : W) (s : S) (x : X) (t : S) (y : Y) → Holds w s → first s ≡ Some (Ok (x, t)) → read w x ≡ Ok y → Has y x) →
      (w : W) (s : S) (items : List (Result X DirectoryRefusal)) → Holds w s → Items first s items → EachHas Has (read_in_turn read move w items) items
  each_has Has has w s [] h f = tt
  each_has Has has w s (Ok x ∷ items) h f =
      has_by Has w x (read w x) (read_in_turn read move (move w x) items) items (λ y e. has w s x f.0 y h f.1 e)
      (each_has Has has (move w x) f.0 items (walk.goes_on w s x f.0 h f.1).1 f.2)
  each_has Has has w s (Err r ∷ items) h f = tt

-- ---- lists that do not depend on where the walk stands

pub same_read : {W X Y : Type 0} (read : X → Result Y DirectoryRefusal) (move : W → X → W) (w : W) (items : List (Result X DirectoryRefusal)) → read_in_turn (λ (v : W). read) move w items ≡ read_items read items
same_read read move w [] = refl
same_read {Y = Y} read move w (Ok x ∷ items) = ap (λ (ys : List (Result Y DirectoryRefusal)). and_after (read x) ys) (same_read read move (move w x) items)
same_read read move w (Err r ∷ items) = refl

-- items that are not read further are returned as they are
pub as_they_are : {X S : Type 0} (first : S → First X S) (s : S) (items : List (Result X DirectoryRefusal)) → Items first s items → read_items (λ (x : X). Ok x) items ≡ items
as_they_are first s [] f = refl
as_they_are {X} first s (Ok x ∷ items) f = ap (λ (xs : List (Result X DirectoryRefusal)). Ok x ∷ xs) (as_they_are first f.0 items f.2)
as_they_are {X} first s (Err r ∷ items) f = ap (λ (xs : List (Result X DirectoryRefusal)). Err r ∷ xs) (sym f.1)

-- ---- steps by their definitions

pub makes_reported : {W X Y S : Type 0} (report : W → X → Y) (first_at : W → First X S) (after : W → First X S → W) (next : W → X → S → W) (over : W → W) →
    ((w : W) (f : First X S) → after w f ≡ moved (λ (x : X). Ok (report w x)) (next w) (over w) w f) →
    (w : W) (f : First X S) → first_at w ≡ f → Makes (StepsBy report first_at after) w (answered (λ (x : X). Ok (report w x)) f) (moved (λ (x : X). Ok (report w x)) (next w) (over w) w f)
makes_reported report first_at after next over moves w f e = grind arith

-- an item that is read further
pub makes_read : {W X Y S : Type 0} (read : W → X → Result Y DirectoryRefusal) (first_at : W → First X S) (after : W → First Y S → W) (next : W → X → S → W) (over : W → W) →
    ((w : W) (f : First X S) → after w (read_first (read w) f) ≡ moved (read w) (next w) (over w) w f) →
    (w : W) (f : First X S) → first_at w ≡ f → Makes (StepsBy (λ (v : W) (y : Y). y) (λ (v : W). read_first (read v) (first_at v)) after) w (answered (read w) f) (moved (read w) (next w) (over w) w f)
makes_read read first_at after next over moves w f e = grind arith

-- ---- walks that are ranges

abbrev pub next_range : {X : Type 0} → Range → X → List ℕ → Range
next_range w x t = range_left w (length t)

abbrev pub over_range : Range → Range
over_range w = no_bytes

pub moves_reported : {X Y : Type 0} (report : Range → X → Y) (w : Range) (f : First X (List ℕ)) → left_after w f ≡ moved (λ (x : X). Ok (report w x)) (next_range w) no_bytes w f
moves_reported report w f = grind arith

pub moves_read : {X Y : Type 0} (read : Range → X → Result Y DirectoryRefusal) (w : Range) (f : First X (List ℕ)) → left_after w (read_first (read w) f) ≡ moved (read w) (next_range w) no_bytes w f
moves_read read w f = grind arith

-- an item takes so many bytes from the front
abbrev pub Takes : {X : Type 0} → (List ℕ → First X (List ℕ)) → (X → ℕ) → Type 0
Takes {X} first size = (s : List ℕ) (x : X) (t : List ℕ) → first s ≡ Some (Ok (x, t)) → (t ≡ drop (size x) s) × (size x ≤ length s)

pub goes_on : (b : List ℕ) (w : Range) (s t : List ℕ) (n : ℕ) → bytes_at b w ≡ Ok s → t ≡ drop n s → n ≤ length s →
    (range_left w (length t) ≡ range_after w n) × (bytes_at b (range_after w n) ≡ Ok t)
goes_on b w s t n e is some =
    let size : length s ≡ w.length = size_of b w s e in
    let rest : length t ≡ length s - n = ap length is ∙ length-drop n s in
    let next : bytes_at b (range_after w n) ≡ Ok (drop (length s - (w.length - n)) s) = left.left_after b w (range_after w n) s e (omega arith) (omega (arith, size, some)) in
    let all : length s - (w.length - n) ≡ n = omega (arith, size, some) in (
      same_range (range_left w (length t)) (range_after w n) (omega (arith, size, rest, some)) (omega (arith, size, rest)),
      next ∙ ap (λ (k : ℕ). Ok (drop k s)) all ∙ ap (λ (d : List ℕ). Ok d) (sym is),
    )

pub no_bytes_at : (b : List ℕ) → bytes_at b no_bytes ≡ Ok []
no_bytes_at b = bytes_there b no_bytes (omega arith) ∙ ap (λ (d : List ℕ). Ok d) (nothing_there b)

pub sees : {X : Type 0} (first : List ℕ → First X (List ℕ)) (b : List ℕ) (w : Range) (s : List ℕ) → bytes_at b w ≡ Ok s → first_in first b w ≡ first s
sees first b w s e = rw e refl

pub sees_refusal : {X : Type 0} (first : List ℕ → First X (List ℕ)) (b : List ℕ) (w : Range) (r : Refusal) → bytes_at b w ≡ Err r → first_in first b w ≡ Some (Err (Image r))
sees_refusal first b w r e = rw e refl

pub over_has_none : {X : Type 0} (first : List ℕ → First X (List ℕ)) (b : List ℕ) → first [] ≡ None → first_in first b no_bytes ≡ None
over_has_none first b e = sees first b no_bytes [] (no_bytes_at b) ∙ e

-- the walk over a range whose items are returned without being read further
abbrev pub Reported : {X Y : Type 0} → List ℕ → (List ℕ → First X (List ℕ)) → (Range → X → Y) → (X → ℕ) → Type 0
Reported b first report size =
    IsWalk (StepsBy report (first_in first b) left_after) first (first_in first b) (λ w x. Ok (report w x)) (λ w x. range_after w (size x)) next_range over_range (λ w s. bytes_at b w ≡ Ok s)

pub reported : {X Y : Type 0} (b : List ℕ) (first : List ℕ → First X (List ℕ)) (report : Range → X → Y) (size : X → ℕ) → Takes first size → first [] ≡ None → Reported b first report size
reported b first report size takes none = record {
  sees = sees first b;
  makes = makes_reported report (first_in first b) left_after next_range over_range (moves_reported report);
  goes_on = λ w s x t h e. goes_on b w s t (size x) h (takes s x t e).0 (takes s x t e).1;
  ends = λ w. over_has_none first b none;
}

-- the same where they are read further
abbrev pub Read : {X Y : Type 0} → List ℕ → (List ℕ → First X (List ℕ)) → (Range → X → Result Y DirectoryRefusal) → (X → ℕ) → Type 0
Read {X} {Y} b first read size =
    IsWalk (StepsBy (λ (w : Range) (y : Y). y) (λ (w : Range). read_first (read w) (first_in first b w)) left_after) first (first_in first b) read (λ w x. range_after w (size x)) next_range over_range (λ w s. bytes_at b w ≡ Ok s)

pub read_further : {X Y : Type 0} (b : List ℕ) (first : List ℕ → First X (List ℕ)) (read : Range → X → Result Y DirectoryRefusal) (size : X → ℕ) → Takes first size → first [] ≡ None → Read b first read size
read_further b first read size takes none = record {
  sees = sees first b;
  makes = makes_read read (first_in first b) left_after next_range over_range (moves_read read);
  goes_on = λ w s x t h e. goes_on b w s t (size x) h (takes s x t e).0 (takes s x t e).1;
  ends = λ w. over_has_none first b none;
}
