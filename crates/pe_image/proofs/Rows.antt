-- Pieces of records that stand one after the other: what is left of them while they are gone over.
use Rattle.std.proofs.Common.{◌≡◌, ℕ, ◌+◌, ◌<◌, ◌&&◌, Bool, true, false, Ok, Err, List, [], ◌∷◌, ◌++◌, length, get_or, drop, refl, ap, sym, ◌∙◌, arith}
use Rattle.pe_image.proofs.Cited.{list_all, drop_more, Refusal, WriteFit, outcome, Piece, fits, all_fit, overlay, in_a_row, row_end}
use Rattle.pe_image.proofs.Cited.{put_in_turn}
use Rattle.pe_image.proofs.Overlays.{put_append, overlay_in_turn}

pub and_assoc : (a b c : Bool) → (a && (b && c)) ≡ ((a && b) && c)
and_assoc a b c = grind arith

pub and_left : (a b : Bool) → (a && b) ≡ true → a ≡ true
and_left a b h = grind arith

pub and_right : (a b : Bool) → (a && b) ≡ true → b ≡ true
and_right a b h = grind arith

list_all-append : {X : Type 0} (p : X → Bool) (xs ys : List X) → list_all p (xs ++ ys) ≡ (list_all p xs && list_all p ys)
list_all-append p [] ys = refl
list_all-append p (x ∷ xs) ys = rw (list_all-append p xs ys) (and_assoc (p x) (list_all p xs) (list_all p ys))

pub all_fit_append : (n : ℕ) (xs ys : List Piece) → all_fit n (xs ++ ys) ≡ (all_fit n xs && all_fit n ys)
all_fit_append n xs ys = list_all-append (fits n) xs ys

-- what is still to be put leaves the same bytes, and all of it fits
pub record Goes {X : Type 0} (f : ℕ → X → List Piece) (w : X → ℕ) (b : List ℕ) (start : ℕ) (xs : List X) (now : List ℕ) (offset : ℕ) (rest : List X) : Type 0 where
  pub same : put_in_turn now (in_a_row f w offset rest) ≡ put_in_turn b (in_a_row f w start xs)
  pub fit : all_fit (length b) (in_a_row f w offset rest) ≡ true
  pub ends : row_end w offset rest ≡ row_end w start xs

pub goes_fits : {X : Type 0} (f : ℕ → X → List Piece) (w : X → ℕ) (b : List ℕ) (start : ℕ) (xs : List X) (now : List ℕ) (offset : ℕ) (x : X) (rest : List X) → Goes f w b start xs now offset (x ∷ rest) → all_fit (length b) (f offset x) ≡ true
goes_fits f w b start xs now offset x rest g = and_left _ _ (sym (all_fit_append (length b) (f offset x) (in_a_row f w (offset + w x) rest)) ∙ g.fit)

pub goes_next : {X : Type 0} (f : ℕ → X → List Piece) (w : X → ℕ) (b : List ℕ) (start : ℕ) (xs : List X) (now next : List ℕ) (offset : ℕ) (x : X) (rest : List X) → Goes f w b start xs now offset (x ∷ rest) → next ≡ put_in_turn now (f offset x) → Goes f w b start xs next (offset + w x) rest
goes_next f w b start xs now next offset x rest g e = grind (arith, put_append, and_right, all_fit_append)

pub goes_last : {X : Type 0} (f : ℕ → X → List Piece) (w : X → ℕ) (b : List ℕ) (start : ℕ) (xs : List X) (now : List ℕ) (offset : ℕ) → Goes f w b start xs now offset [] → now ≡ put_in_turn b (in_a_row f w start xs)
unfolding put_in_turn
goes_last f w b start xs now offset g = g.same

-- the rest of a list from element i on
pub rest_at : {X : Type 0} (xs : List X) (i : ℕ) (d : X) → i < length xs → drop i xs ≡ get_or xs i d ∷ drop (i + 1) xs
rest_at xs i d h = drop_more xs i d h

-- ---- answers and refusals

pub fits_if : {Y : Type 0} (t : Bool) (x y : Y) → outcome ((t, WriteFit) ∷ []) x ≡ Ok y → t ≡ true
fits_if t x y h = grind arith

pub unfit_if : {Y : Type 0} (t : Bool) (x : Y) (r : Refusal) → outcome ((t, WriteFit) ∷ []) x ≡ Err r → t ≡ false
unfit_if t x r h = grind arith

pub refused_if : {Y Z : Type 0} (t u : Bool) (x : Y) (z : Z) (r : Refusal) → outcome ((t, WriteFit) ∷ []) x ≡ Err r → u ≡ false → outcome ((u, WriteFit) ∷ []) z ≡ Err r
refused_if t u x z r h e = grind arith

-- the same tests return another value where they return one, and refuse it where they refuse
pub accepted_too : {X Y : Type 0} (tests : List (Bool × Refusal)) (x z : X) (y : Y) → outcome tests x ≡ Ok z → outcome tests y ≡ Ok y
accepted_too [] x z y h = refl
accepted_too ((true, k) ∷ tests) x z y h = accepted_too tests x z y h
accepted_too ((false, k) ∷ tests) x z y h = absurd cc

pub refused_too : {X Y : Type 0} (tests : List (Bool × Refusal)) (x : X) (y : Y) (k : Refusal) → outcome tests x ≡ Err k → outcome tests y ≡ Err k
refused_too [] x y k h = absurd cc
refused_too ((true, j) ∷ tests) x y k h = refused_too tests x y k h
refused_too ((false, j) ∷ tests) x y k h = let e : j ≡ k = cc in ap (λ r. Err r) e

-- the answer with the bytes that are left
pub written_too : (tests : List (Bool × Refusal)) (x z : ℕ) (s t : List ℕ) → outcome tests x ≡ Ok z → t ≡ s → outcome {Y = ℕ × List ℕ} tests (x, s) ≡ Ok (z, t)
written_too [] x z s t h e = let same : x ≡ z = cc in rw (same, e) refl
written_too ((true, k) ∷ tests) x z s t h e = written_too tests x z s t h e
written_too ((false, k) ∷ tests) x z s t h e = absurd cc

pub wrote : (b now : List ℕ) (pieces : List Piece) (x z : ℕ) → outcome ((all_fit (length b) pieces, WriteFit) ∷ []) x ≡ Ok z → now ≡ put_in_turn b pieces → outcome {Y = ℕ × List ℕ} ((all_fit (length b) pieces, WriteFit) ∷ []) (x, overlay b pieces) ≡ Ok (z, now)
wrote b now pieces x z h e = grind (arith, written_too, overlay_in_turn, fits_if)
