-- Lookup by halves in entries that start at addresses, and how many of them it reads.
use Rattle.std.specs.Prelude.{ℕ, ◌<◌, ◌≤◌, List, length, slice_index_or}
use Rattle.std.specs.Int.Digits.{digits_of}
use Rattle.std.specs.List.Sorted.{IsNonDecreasingBy}

-- how many binary digits a number has; 0 has none
unfoldable pub digits : ℕ → ℕ
digits n = length (digits_of 2 n)

-- in entries that ascend the first `low` start at or before an address, and those from `high` on start after it
pub record IsCut {X : Type 0} (start : X → ℕ) (xs : List X) (address low high : ℕ) : Type 0 where
  pub ordered : low ≤ high
  pub within : high ≤ length xs
  pub before : IsNonDecreasingBy start xs → (k : ℕ) (d : X) → k < low → start (slice_index_or xs k d) ≤ address
  pub after : IsNonDecreasingBy start xs → (k : ℕ) (d : X) → high ≤ k → k < length xs → address < start (slice_index_or xs k d)
