-- A list by its first elements.
use Rattle.std.proofs.Common.{◌≡◌, ◌≤◌, arith, List, [], ◌∷◌, length, get_or, drop, map, refl}

pub map-none : {X Y : Type 0} (f : X → Y) (xs : List X) → length xs ≡ 0 → map f xs ≡ []
map-none f [] e = refl
map-none f (x ∷ xs) e = absurd (omega arith)

pub map-one : {X Y : Type 0} (f : X → Y) (xs : List X) (a : X) → length xs ≡ 1 → a ≡ get_or xs 0 a → map f xs ≡ f a ∷ []
map-one f [] a e at = absurd (omega arith)
map-one f (x ∷ []) a e at = cc
map-one f (x ∷ y ∷ xs) a e at = absurd (omega arith)

pub map-two : {X Y : Type 0} (f : X → Y) (xs : List X) (a b : X) → 2 ≤ length xs → a ≡ get_or xs 0 a → b ≡ get_or xs 1 b → map f xs ≡ f a ∷ f b ∷ map f (drop 2 xs)
map-two f [] a b e at0 at1 = absurd (omega arith)
map-two f (x ∷ []) a b e at0 at1 = absurd (omega arith)
map-two f (x ∷ y ∷ xs) a b e at0 at1 = cc

pub ruleset shapes = (map-none, map-one, map-two)
