-- The walk through a resource tree: from an entry to the first entry of its directory, and on from there.
-- (PE format: the tree of resource directories; the walk is this project's profile.)
use Rattle.std.specs.Prelude.{◌≡◌, ℕ, ◌+◌, ◌*◌, ◌==◌, Bool, List, [], ◌∷◌, Option, Some, None, Result, Ok, Err, if◌then◌else◌}
use Rattle.std.specs.Borrow.{Bor}
use Rattle.std.specs.Fn.{FnReturnsAt, Shared}
use Rattle.pe_core.specs.Bytes.{holds}
use Rattle.pe_core.specs.Chains.{after, NeverStops}
use Rattle.pe_core.specs.Refusals.{Refusal, Short, ResourceCycle, outcome}
use Rattle.pe_resource.specs.declared.entry.ResourceEntry.{ResourceEntry}
use Rattle.pe_resource.specs.Directories.{directory_of, count}
use Rattle.pe_resource.specs.ResourceEntries.{entry_at, directory_offset}

-- the first entry of the directory at p, if it has entries; refused if the directory or its entries are truncated
unfoldable pub first_at : List ℕ → ℕ → Result (Option ResourceEntry) Refusal
first_at b p =
    outcome ((holds b p 16, Short) ∷ (holds b (p + 16) (8 * count (directory_of b p)), Short) ∷ [])
    (if count (directory_of b p) == 0 then None else Some (entry_at b (p + 16)))

-- the first entry of the directory that an entry leads to
abbrev pub step : List ℕ → ResourceEntry → Result (Option ResourceEntry) Refusal
step b e = first_at b (directory_offset e)

-- the result, if a step decides it: a refusal, the entry itself if its directory has no entries, or the next entry if
-- it fails the predicate
abbrev pub decided : (ResourceEntry → Bool) → ResourceEntry → Result (Option ResourceEntry) Refusal → Option (Result ResourceEntry Refusal)
decided p w (Err e) = Some (Err e)
decided p w (Ok None) = Some (Ok w)
decided p w (Ok (Some v)) = if p v then None else Some (Ok v)

-- the entry that the walk goes on with, if a step finds one that passes the predicate
abbrev pub passed_on : (ResourceEntry → Bool) → Result (Option ResourceEntry) Refusal → Option ResourceEntry
passed_on p (Err e) = None
passed_on p (Ok None) = None
passed_on p (Ok (Some v)) = if p v then Some v else None

-- the entry after entry w on the walk
abbrev pub passes : List ℕ → (ResourceEntry → Bool) → ResourceEntry → Option ResourceEntry
passes b p w = passed_on p (step b w)

-- no step of the walk decides the result
abbrev pub IsEndlessWalk : List ℕ → (ResourceEntry → Bool) → ResourceEntry → Type 0
IsEndlessWalk b p e = NeverStops (passes b p) e

-- after some entries a step decides this result
abbrev pub Decides : List ℕ → (ResourceEntry → Bool) → ResourceEntry → Result ResourceEntry Refusal → Type 0
Decides b p e r = (k : ℕ) × (w : ResourceEntry) × (after (passes b p) k e ≡ Some w) × (decided p w (step b w) ≡ Some r)

-- this is the result of the walk from an entry
abbrev pub Walks : List ℕ → (ResourceEntry → Bool) → ResourceEntry → Result ResourceEntry Refusal → Type 0
Walks b p e (Ok v) = Decides b p e (Ok v)
Walks b p e (Err Short) = Decides b p e (Err Short)
Walks b p e (Err ResourceCycle) = IsEndlessWalk b p e
Walks b p e (Err _) = ⊥

-- the result is never `Ok(None)`, and P holds for it
abbrev pub Found : {X : Type 0} → Result (Option X) Refusal → (Result X Refusal → Type 0) → Type 0
Found (Ok (Some x)) P = P (Ok x)
Found (Ok None) P = ⊥
Found (Err e) P = P (Err e)

-- the predicate f returns p e for each entry e
abbrev pub IsSteady : {F : Type 0} → Shared F (Bor ResourceEntry × Unit {0}) Bool → F → (ResourceEntry → Bool) → Type 0
IsSteady fn f p = (e : ResourceEntry) (r : Bool) → FnReturnsAt fn f e r → r ≡ p e
