-- Lookup of an RVA in a table whose entries each start at one. It goes by the starts alone; whether the entry at which it
-- stops covers the RVA is asked of that one alone. (x64 and ARM64 exception handling: function tables.)
use Rattle.std.specs.Prelude.{◌≡◌, ℕ, ◌<◌, ◌≤◌, ⊤, List, [], ◌∷◌, ◌++◌, Option, None, nat_le, filter, length, AllPairs, Contains, IfSome}
use Rattle.std.specs.List.{last_or}
use Rattle.std.specs.Int.Digits.{digits_of}

-- the table is sorted by start RVA
abbrev pub IsSortedBy : {X : Type 0} → (X → ℕ) → List X → Type 0
IsSortedBy start fs = AllPairs (λ e f. start e ≤ start f) fs

-- what a linear scan comes to: the last entry that starts at or before the RVA
abbrev pub last_start : {X : Type 0} → (X → ℕ) → List X → ℕ → Option X
last_start start fs a = last_or None (filter (λ f. nat_le (start f) a) fs)

-- the entries start with one that starts after the RVA, if there is one
abbrev pub StartsAfter : {X : Type 0} → (X → ℕ) → ℕ → List X → Type 0
StartsAfter start a [] = ⊤
StartsAfter start a (f ∷ fs) = a < start f

-- where lookup stops, in any table: the entry before that position starts at or before the RVA, the entry after it starts
-- after the RVA, and lookup comes to the one before it. A table sorted by start RVA has one such position.
unfoldable pub StopsAfter : {X : Type 0} → (X → ℕ) → List X → ℕ → Option X → Type 0
StopsAfter {X} start fs a last =
    (before : List X) × (after : List X) × (fs ≡ before ++ after)
    × IfSome (last_or None before) (λ f. start f ≤ a)
    × StartsAfter start a after
    × (last ≡ last_or None before)

-- the entry to which lookup comes: one that starts at or before the RVA, or none; in a table sorted by start RVA, that to
-- which a linear scan comes
pub record FindsStart {X : Type 0} (start : X → ℕ) (fs : List X) (a : ℕ) (last : Option X) : Type 0 where
  pub entry : IfSome last (Contains fs)
  pub starts : IfSome last (λ f. start f ≤ a)
  pub stops : StopsAfter start fs a last
  pub scanned : IsSortedBy start fs → last ≡ last_start start fs a

-- how many binary digits a number has; 0 has none
unfoldable pub digits : ℕ → ℕ
digits n = length (digits_of 2 n)
