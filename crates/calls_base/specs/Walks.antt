-- Walks over entries of one width: a range of what is left, which each step makes shorter.
use Rattle.std.specs.Prelude.{◌≡◌, ℕ, ◌==◌, nat_lt, List, [], ◌∷◌, slice_get, Option, Some, None, Result, Ok, Err, if◌then◌else◌}
use Rattle.std.specs.Option.{option_map}
use Rattle.pe_core.specs.Bytes.{holds, range}
use Rattle.pe_core.specs.Refusals.{Refusal, Short, FunctionIndex, ◌>>=◌}
use Rattle.pe_core.specs.Rows.{entry_items}
use Rattle.calls_base.specs.Ranges.{no_bytes, range_after}
use Rattle.calls_base.specs.declared.ranges.Range.{Range}

-- the bytes that a walk has left, if any are: they start with its next entry. `Short` where that is truncated, or where
-- the range is not inside the bytes
abbrev pub left_entry : ℕ → List ℕ → Range → Result (Option (List ℕ)) Refusal
left_entry width b r =
    if holds b r.offset r.length
    then (if r.length == 0 then Ok None else (if nat_lt r.length width then Err Short else Ok (Some (range b r.offset r.length))))
    else Err Short

-- the next entry of a walk, if there is one
abbrev pub next_of : {X : Type 0} → (List ℕ → ℕ → X) → ℕ → List ℕ → Range → Result (Option X) Refusal
next_of entry_at width b r = left_entry width b r >>= λ left. Ok (option_map (λ d. entry_at d 0) left)

-- the walk after such a step: it stays at its end, and is over after a refusal
abbrev pub walk_after : ℕ → Result (Option (List ℕ)) Refusal → Range → Range
walk_after width (Ok None) r = r
walk_after width (Ok (Some left)) r = range_after r width
walk_after width (Err refusal) r = no_bytes

abbrev pub walk_of : ℕ → List ℕ → Range → Range
walk_of width b r = walk_after width (left_entry width b r) r

-- a step: the next entry, and the walk after it
abbrev pub StepsEntries : {X : Type 0} → (List ℕ → ℕ → X) → ℕ → List ℕ → Range → Result (Option X) Refusal → Range → Type 0
StepsEntries entry_at width b old answer new = (answer ≡ next_of entry_at width b old) × (new ≡ walk_of width b old)

-- the entries that a walk has left, and one refusal where the last is truncated; one alone where its range is not
-- inside the bytes
abbrev pub walk_items : {X : Type 0} → (List ℕ → ℕ → X) → ℕ → List ℕ → Range → List (Result X Refusal)
walk_items entry_at width b w = if holds b w.offset w.length then entry_items entry_at width (range b w.offset w.length) else Err Short ∷ []

-- ---- tables that are read by index

-- an entry, or `FunctionIndex` without one
abbrev pub or_no_index : {X : Type 0} → Option X → Result X Refusal
or_no_index None = Err FunctionIndex
or_no_index (Some x) = Ok x

-- the entry of a table with this index, or `FunctionIndex` where there is none
abbrev pub indexed : {X : Type 0} → List X → ℕ → Result X Refusal
indexed entries i = or_no_index (slice_get entries i)
