-- Equality and clones of a type.
use Rattle.std.specs.Prelude.{◌≡◌, ◌↔◌, Bool, IsTrue}

-- two values are equal exactly if they are the same
abbrev pub IsEquality : {X : Type 0} → (X → X → Bool) → Type 0
IsEquality {X} eq = (x y : X) → IsTrue (eq x y) ↔ (x ≡ y)

-- two values are equal exactly if their views are the same
abbrev pub ComparesBy : {X Y : Type 0} → (X → Y) → (X → X → Bool) → Type 0
ComparesBy {X} view eq = (x y : X) → IsTrue (eq x y) ↔ (view x ≡ view y)

-- a clone is its original
abbrev pub Copies : {X : Type 0} → (X → X → Type 0) → Type 0
Copies {X} is_clone = (x y : X) → is_clone x y → y ≡ x
