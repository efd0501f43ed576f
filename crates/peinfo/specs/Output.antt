-- A writer that counts its failures.
use Rattle.std.specs.Prelude.{◌≡◌, ℕ, ◌+◌, ◌-◌, ◌^◌, ◌<◌, ◌⊎◌, min, List, length, take, Option}
use Rattle.std.specs.Io.KnownBytes.{Appends}
use Rattle.std.specs.declared.io.Error.{Error}
use Rattle.peinfo.specs.declared.counted_out.CountedOut.{CountedOut}

-- the writer itself
abbrev pub writer_of : {W : Type 0} → CountedOut W → W
writer_of out = out.writer

-- the count of failures
abbrev pub failures_of : {W : Type 0} → CountedOut W → ℕ
failures_of out = out.failures

-- the cause of the last failure, if it was not that nothing was taken
abbrev pub cause_of : {W : Type 0} → CountedOut W → Option Error
cause_of out = out.cause

-- the greatest value of the counter
abbrev pub MOST : ℕ
MOST = 2 ^ 64 - 1

-- one failure more, or still the greatest value
abbrev pub one_more_failure : ℕ → ℕ
one_more_failure n = min (n + 1) MOST

-- the count rose, or is at its greatest value
abbrev pub RoseOrFull : ℕ → ℕ → Type 0
RoseOrFull old new = (old < new) ⊎ (new ≡ MOST)

-- known bytes grew by a part of the text from its start on, and not by all of it
pub record AppendsBeginning (old new : Option (List ℕ)) (text : List ℕ) : Type 0 where
  pub count : ℕ
  pub within : count < length text
  pub written : Appends old new (take count text)
