-- Where a contribution stands, and a room with the ranges of contributions.
use Rattle.std.proofs.Common.{◌≡◌, ℕ, ◌+◌, ◌*◌, ◌/◌, ◌<◌, ◌≤◌, ◌++◌, Bool, length, List, drop, get_or, slice_set, ap, sym, ◌∙◌, arith}
use Rattle.std.proofs.lemmas.List.{same_lists, get_or-set_same, get_or-set_other}
use Rattle.pe_core.specs.Rows.{each}
use Rattle.pe_core.proofs.EntryItems.{get_or-each, length-each}
use Rattle.pe_pdb.specs.Contributions.{width}
use Rattle.pe_pdb.specs.declared.contribution.ModuleRange.{ModuleRange}

pub row_inside : (wide : Bool) (n i : ℕ) → i < n / width wide → width wide * i + 28 ≤ n
row_inside wide n i lt = grind arith

-- the first i entries of a room are written
abbrev pub Written : (ℕ → ModuleRange) → List ModuleRange → ℕ → Type 0
Written f room i = (k : ℕ) (d : ModuleRange) → k < i → get_or room k d ≡ f k

pub one_more : (f : ℕ → ModuleRange) (room : List ModuleRange) (i : ℕ) (x : ModuleRange) → i < length room → x ≡ f i → Written f room i → Written f (slice_set room i x) (i + 1)
one_more f room i x lt is before = grind (arith, get_or-set_other, get_or-set_same)

pub all_written : (f : ℕ → ModuleRange) (n : ℕ) (old ranges rest : List ModuleRange) → length ranges ≡ n → Written f ranges n → rest ≡ drop n old → ranges ++ rest ≡ each f n ++ drop n old
all_written f n old ranges rest len same e =
    let size : length (each f n) ≡ n = length-each f n in
    let made : ranges ≡ each f n = same_lists _ _ (len ∙ sym size) (λ j d lt.
    let low : j < n = omega (arith, lt, len) in
    same j d low ∙ sym (get_or-each f n j d low)) in
    ap (λ (xs : List ModuleRange). xs ++ rest) made ∙ ap (λ (ys : List ModuleRange). each f n ++ ys) e
