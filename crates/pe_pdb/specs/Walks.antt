-- Walks: items that follow one another in some bytes. What a walk is over is defined by `item`: what stands at an offset, which
-- is an item and where the next one starts, or a refusal.
use Rattle.std.specs.Prelude.{◌≡◌, ℕ, zero, suc, ◌-◌, ◌<◌, List, [], ◌∷◌, nat_le, Option, Some, None, Result, Ok, Err, if◌then◌else◌}
use Rattle.pe_core.specs.Refusals.{◌>>=◌}
use Rattle.pe_pdb.specs.Refusals.{PdbRefusal, pdb_kind_of}
use Rattle.pe_pdb.specs.declared.error.PdbError.{PdbError}

-- what stands at each offset
abbrev pub ItemAt : Type 0 → Type 0
ItemAt X = ℕ → Result (X × ℕ) PdbRefusal

-- the same, where an item says where it ends
abbrev pub with_end : {X : Type 0} → (X → ℕ) → (ℕ → Result X PdbRefusal) → ItemAt X
with_end end at p = at p >>= λ x. Ok (x, end x)

-- an item, then the items that `more` finds where it ends; a refusal is the last
abbrev pub with_more : {X : Type 0} → (ℕ → List (Result X PdbRefusal)) → Result (X × ℕ) PdbRefusal → List (Result X PdbRefusal)
with_more more (Ok y) = Ok y.0 ∷ more y.1
with_more more (Err r) = Err r ∷ []

-- the items from an offset up to the end, at most n of them
unfoldable pub first_items : {X : Type 0} → ItemAt X → ℕ → ℕ → ℕ → List (Result X PdbRefusal)
first_items item end zero p = []
first_items item end (suc n) p = if nat_le end p then [] else with_more (first_items item end n) (item p)

-- all of them; each has a byte at least
unfoldable pub items : {X : Type 0} → ItemAt X → ℕ → ℕ → List (Result X PdbRefusal)
items item end p = first_items item end (end - p) p

-- each item ends after its start
abbrev pub Advances : {X : Type 0} → ItemAt X → Type 0
Advances {X} item = (p : ℕ) (y : X × ℕ) → item p ≡ Ok y → p < y.1

-- the result of a step, without the numbers of errors
abbrev pub step_view : {X Y : Type 0} → (Y → X) → Result Y PdbError → Result X PdbRefusal
step_view view (Ok y) = Ok (view y)
step_view view (Err e) = Err (pdb_kind_of e)

-- one step of a walk: it returns the first of the items that were left, and leaves the others
abbrev pub Takes : {X Y : Type 0} → (Y → X) → List (Result X PdbRefusal) → Option (Result Y PdbError) → List (Result X PdbRefusal) → Type 0
Takes view before None after = (before ≡ []) × (after ≡ [])
Takes view before (Some r) after = before ≡ step_view view r ∷ after
