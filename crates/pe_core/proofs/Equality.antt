-- Lists whose elements are equal one by one.
use Rattle.std.proofs.Common.{◌≡◌, Bool, true, false, List, [], ◌∷◌, refl, ap, sym, ◌∙◌}
use Rattle.std.specs.Prelude.{◌&&◌}
use lib.Pointwise.{pointwise}

pub both : (a b : Bool) → (a && b) ≡ true → (a ≡ true) × (b ≡ true)
both true true e = (refl, refl)
both true false e = absurd cc
both false b e = absurd cc

pub and_true : (a b : Bool) → a ≡ true → b ≡ true → (a && b) ≡ true
and_true a b e f = ap (λ (c : Bool). c && b) e ∙ f

pub same_rows : {X : Type 0} (E : X → X → Bool) → ((x y : X) → E x y ≡ true → x ≡ y) → (xs ys : List X) → pointwise E xs ys ≡ true → xs ≡ ys
same_rows E same [] [] e = refl
same_rows E same [] (y ∷ ys) e = absurd cc
same_rows E same (x ∷ xs) [] e = absurd cc
same_rows {X} E same (x ∷ xs) (y ∷ ys) e =
    let h = both (E x y) (pointwise E xs ys) e in
    ap (λ (z : X). z ∷ xs) (same x y h.0) ∙ ap (λ (zs : List X). y ∷ zs) (same_rows E same xs ys h.1)

equal_rows : {X : Type 0} (E : X → X → Bool) → ((x : X) → E x x ≡ true) → (xs : List X) → pointwise E xs xs ≡ true
equal_rows E equal [] = refl
equal_rows E equal (x ∷ xs) = and_true (E x x) (pointwise E xs xs) (equal x) (equal_rows E equal xs)

pub rows_equal : {X : Type 0} (E : X → X → Bool) → ((x : X) → E x x ≡ true) → (xs ys : List X) → xs ≡ ys → pointwise E xs ys ≡ true
rows_equal {X} E equal xs ys e = ap (λ (zs : List X). pointwise E xs zs) (sym e) ∙ equal_rows E equal xs
