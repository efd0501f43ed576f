-- States that follow one another by steps. A state may have no next one.
use Rattle.std.specs.Prelude.{◌≡◌, ◌<◌, ℕ, zero, suc, Option, Some, IsSome, option_and_then}

-- the state after k steps, if there is one
abbrev pub after : {X : Type 0} → (X → Option X) → ℕ → X → Option X
after step zero x = Some x
after step (suc k) x = option_and_then (after step k) (step x)

-- the steps go on without end
abbrev pub NeverStops : {X : Type 0} → (X → Option X) → X → Type 0
NeverStops step x = (k : ℕ) → IsSome (after step k x)

-- the states after two states with equal keys are equal
abbrev pub FollowsKey : {X : Type 0} → (X → Option X) → (X → ℕ) → Type 0
FollowsKey {X} step key = (x y a b : X) → key x ≡ key y → step x ≡ Some a → step y ≡ Some b → a ≡ b

-- every state that has a next one has a key below n
abbrev pub HasKeysBelow : {X : Type 0} → (X → Option X) → (X → ℕ) → ℕ → Type 0
HasKeysBelow {X} step key n = (x a : X) → step x ≡ Some a → key x < n

-- states with equal keys have the same step, or both have none
abbrev pub KeyDecides : {X : Type 0} → (X → Option X) → (X → ℕ) → Type 0
KeyDecides {X} step key = (x y : X) → key x ≡ key y → step x ≡ step y
