-- Tables: records of one width, one after the other.
use Rattle.std.specs.Prelude.{◌≡◌, ℕ, zero, suc, ◌+◌, ◌*◌, ◌/◌, ◌%◌, ◌<◌, ◌==◌, ◌||◌, List, [], ◌∷◌, ◌++◌, length, map, drop, Option, Some, None, Result, Ok, Err, if◌then◌else◌}
use Rattle.pe_core.specs.Bytes.{holds}
use Rattle.pe_core.specs.Refusals.{Refusal, Short, kind_of, outcome}
use Rattle.pe_core.specs.declared.error.Error.{Error}

-- the list f 0, f 1, .., f (n - 1)
unfoldable pub each : {X : Type 0} → (ℕ → X) → ℕ → List X
each f zero = []
each f (suc n) = each f n ++ f n ∷ []

-- the n records of this width from offset p on, each read by `record_of`
abbrev pub rows : {X : Type 0} → (ℕ → X) → ℕ → ℕ → ℕ → List X
rows record_of width p n = each (λ i. record_of (p + width * i)) n

-- the same, or `Short` if they are truncated; no records are no read, at any offset
abbrev pub rows_at : {X : Type 0} → (List ℕ → ℕ → X) → ℕ → List ℕ → ℕ → ℕ → Result (List X) Refusal
rows_at record_at width b p n = outcome ((n == 0 || holds b p (width * n), Short) ∷ []) (rows (record_at b) width p n)

-- an entry after the first w bytes, which are dropped, is the entry at its offset in all of the bytes
abbrev pub ReadsAfter : {X : Type 0} → (List ℕ → ℕ → X) → ℕ → Type 0
ReadsAfter entry_at w = (b : List ℕ) (p q : ℕ) → q ≡ w + p → entry_at (drop w b) p ≡ entry_at b q

-- the whole entries of these bytes, each read by `entry_at`
abbrev pub whole_entries : {X : Type 0} → (List ℕ → ℕ → X) → ℕ → List ℕ → List X
whole_entries entry_at width b = each (λ i. entry_at b (width * i)) (length b / width)

-- the whole entries, then one `Short` if the last entry is truncated
unfoldable pub entry_items : {X : Type 0} → (List ℕ → ℕ → X) → ℕ → List ℕ → List (Result X Refusal)
entry_items entry_at width b = map (λ x. Ok x) (whole_entries entry_at width b) ++ (if length b % width == 0 then [] else Err Short ∷ [])

-- splitting an entry off the front of b returns the bytes from its start on, seen by view, and leaves those after it;
-- it returns one `Short` if the entry is truncated, and leaves none
abbrev pub SplitsEntry : {X : Type 0} → (X → List ℕ) → ℕ → List ℕ → Option (Result X Error) → List ℕ → Type 0
SplitsEntry view width b None left = (b ≡ []) × (left ≡ [])
SplitsEntry view width b (Some (Ok entry)) left = (length b ≡ width + length left) × (view entry ≡ b) × (left ≡ drop width b)
SplitsEntry view width b (Some (Err e)) left = (0 < length b) × (length b < width) × (kind_of e ≡ Short) × (left ≡ [])
