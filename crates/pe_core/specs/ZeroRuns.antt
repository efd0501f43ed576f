-- The bytes before the first zero, 16 at a time. Only private contracts cite this.
use Rattle.std.specs.Prelude.{◌≡◌, ℕ, ◌+◌, ◌≤◌, ◌<◌, ◌==◌, true, false, nat_le, List, length, slice_index_or, if◌then◌else◌}
use Rattle.std.specs.Int.{w64, trailing_zeros}

-- the index of the lowest bit that is set, or 16 if none is
abbrev pub lowest_bit : ℕ → ℕ
lowest_bit mask = if mask == 0 then 16 else trailing_zeros w64 mask

-- no byte from i up to j is zero
abbrev pub HasNoZero : List ℕ → ℕ → ℕ → Type 0
HasNoZero b i j = (k : ℕ) → i ≤ k → k < j → (slice_index_or b k 0 == 0) ≡ false

-- `run` of the 16 bytes from i on come before the first zero
pub record IsZeroRun (b : List ℕ) (i run : ℕ) : Type 0 where
  pub few : run ≤ 16
  pub passes : HasNoZero b i (i + run)
  pub stops : run < 16 → (slice_index_or b (i + run) 0 == 0) ≡ true

-- each byte from i up to j is ASCII
abbrev pub HasAscii : List ℕ → ℕ → ℕ → Type 0
HasAscii b i j = (k : ℕ) → i ≤ k → k < j → nat_le 128 (slice_index_or b k 0) ≡ false

-- `run` of the 16 bytes from i on come before the first that is not ASCII
pub record IsAsciiRun (b : List ℕ) (i run : ℕ) : Type 0 where
  pub few : run ≤ 16
  pub passes : HasAscii b i (i + run)
  pub stops : run < 16 → nat_le 128 (slice_index_or b (i + run) 0) ≡ true

-- the first zero at or after i is at `end`, and the bytes before it are ASCII
pub record IsAsciiText (b : List ℕ) (i end : ℕ) : Type 0 where
  pub starts : i ≤ end
  pub inside : end < length b
  pub passes : HasNoZero b i end
  pub stops : (slice_index_or b end 0 == 0) ≡ true
  pub ascii : HasAscii b i end
