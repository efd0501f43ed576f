-- Tables of address ranges, each with a start and a size, and what has an address in them.
pub use Rattle.pe_core.specs.RangeIndexes.{has_address}
use Rattle.std.specs.Prelude.{ℕ, zero, suc, ◌+◌, ◌-◌, ◌^◌, ◌≤◌, ◌<◌, ◌&&◌, nat_le, Bool, true, List, [], ◌∷◌, length, slice_index_or, Option, Some, None, if◌then◌else◌}

-- of the first n ranges each ends at or before the start of each later one
abbrev pub FirstAscend : {X : Type 0} → (X → ℕ) → (X → ℕ) → List X → ℕ → Type 0
FirstAscend {X} start size xs n =
    (j k : ℕ) (d : X) → j < k → k < n → start (slice_index_or xs j d) + size (slice_index_or xs j d) ≤ start (slice_index_or xs k d)

-- all of them do
abbrev pub AreAscending : {X : Type 0} → (X → ℕ) → (X → ℕ) → List X → Type 0
AreAscending start size xs = FirstAscend start size xs (length xs)

-- the test whether they do: each starts at or after the end of the one before it, the first at or after this address
unfoldable pub rise_from : {X : Type 0} → (X → ℕ) → (X → ℕ) → ℕ → List X → Bool
rise_from start size end [] = true
rise_from start size end (x ∷ xs) = nat_le end (start x) && rise_from start size (start x + size x) xs

-- the range at this index is the first that starts before the end of the one before it
pub record IsOverlap {X : Type 0} (start : X → ℕ) (size : X → ℕ) (xs : List X) (i : ℕ) : Type 0 where
  pub after : 0 < i
  pub within : i < length xs
  pub before : FirstAscend start size xs i
  pub overlaps : (d : X) → start (slice_index_or xs i d) < start (slice_index_or xs (i - 1) d) + size (slice_index_or xs (i - 1) d)

-- the index of that range; none where all ascend
abbrev pub Overlaps : {X : Type 0} → (X → ℕ) → (X → ℕ) → List X → Option ℕ → Type 0
Overlaps start size xs None = AreAscending start size xs
Overlaps start size xs (Some i) = IsOverlap start size xs i

-- the first n ranges start at or before an address, and the others after it
pub record IsCountUpTo {X : Type 0} (start : X → ℕ) (a : ℕ) (xs : List X) (n : ℕ) : Type 0 where
  pub within : n ≤ length xs
  pub before : (k : ℕ) (d : X) → k < n → start (slice_index_or xs k d) ≤ a
  pub after : (k : ℕ) (d : X) → n ≤ k → k < length xs → a < start (slice_index_or xs k d)

-- ---- a search by halving, on ranges in any order

-- there are so many ranges, and the last of them starts at or before an address
abbrev pub start_by : {X : Type 0} → (X → ℕ) → X → List X → ℕ → ℕ → Bool
start_by start d xs a m = nat_le m (length xs) && nat_le (start (slice_index_or xs (m - 1) d)) a

-- how many ranges start at or before an address, where they are sorted by start: the greatest number whose last range does, bit by
-- bit from the highest of n bits on, after k ranges that do. On any list it is some number of them, and 0 or one whose last range
-- does.
unfoldable pub started : {X : Type 0} → (X → ℕ) → X → List X → ℕ → ℕ → ℕ → ℕ
started start d xs a zero k = k
started start d xs a (suc n) k =
    started start d xs a n (if start_by start d xs a (k + 2 ^ n) then k + 2 ^ n else k)
