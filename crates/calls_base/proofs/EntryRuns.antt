-- A walk over entries of one width returns all of them.
use Rattle.std.proofs.Common.{◌≡◌, ℕ, zero, suc, ◌+◌, ◌-◌, ◌<◌, ◌≤◌, Bool, true, false, List, [], ◌∷◌, length, Some, None, Result, Ok, Err, refl, sym, ap, subst, ◌∙◌, arith}
use Rattle.calls_base.proofs.Cited.{◌==◌, nat_lt, nat_tests, length_range, rest_of_range, holds, range, Refusal, Short, range_after}
use Rattle.calls_base.proofs.Cited.{ReturnsItems, IsOver, Range}
use Rattle.pe_core.specs.Rows.{ReadsAfter, entry_items}
use Rattle.pe_core.proofs.EntryItems.{entry_items_more, entry_items_none, entry_items_cut}
use Rattle.calls_base.specs.Walks.{StepsEntries, walk_items, left_entry}

-- ---- one step

outside : (width : ℕ) (b : List ℕ) (r : Range) → holds b r.offset r.length ≡ false → left_entry width b r ≡ Err Short
outside width b r h = rw h refl

at_end : (width : ℕ) (b : List ℕ) (r : Range) → holds b r.offset r.length ≡ true → (r.length == 0) ≡ true → left_entry width b r ≡ Ok None
at_end width b r h e = rw h (rw e refl)

cut : (width : ℕ) (b : List ℕ) (r : Range) → holds b r.offset r.length ≡ true → (r.length == 0) ≡ false → nat_lt r.length width ≡ true → left_entry width b r ≡ Err Short
cut width b r h e l = rw h (rw e (rw l refl))

whole : (width : ℕ) (b : List ℕ) (r : Range) → holds b r.offset r.length ≡ true → (r.length == 0) ≡ false → nat_lt r.length width ≡ false → left_entry width b r ≡ Ok (Some (range b r.offset r.length))
whole width b r h e l = rw h (rw e (rw l refl))

-- ---- all steps

-- a walk at its end is over
end_is_over : {X : Type 0} (entry_at : List ℕ → ℕ → X) (width : ℕ) (b : List ℕ) (r : Range) → left_entry width b r ≡ Ok None → IsOver (StepsEntries entry_at width b) r
end_is_over entry_at width b r e answer next s = (s.0 ∙ rw e refl, s.1 ∙ rw e refl)

-- a refused step, after which the walk is over
refusal : {X : Type 0} (entry_at : List ℕ → ℕ → X) (width : ℕ) (b : List ℕ) (r : Range) → left_entry width b r ≡ Err Short → ReturnsItems (StepsEntries entry_at width b) r (Err Short ∷ [])
refusal entry_at width b r e = grind (arith, end_is_over, at_end, nat_tests)

-- the entries of the bytes of a range, by whether it is empty, and whether its first entry is truncated
by_tests : {X : Type 0} (entry_at : List ℕ → ℕ → X) (width : ℕ) (b : List ℕ) (r : Range) (empty short : Bool) → ReadsAfter entry_at width → 0 < width → r.offset + r.length ≤ length b →
    (r.length == 0) ≡ empty → nat_lt r.length width ≡ short →
    (width ≤ r.length → ReturnsItems (StepsEntries entry_at width b) (range_after r width) (entry_items entry_at width (range b (r.offset + width) (r.length - width)))) →
    ReturnsItems (StepsEntries entry_at width b) r (entry_items entry_at width (range b r.offset r.length))
by_tests {X} entry_at width b r true short reads some h e l more =
    let there : holds b r.offset r.length ≡ true = grind (arith, nat_tests) in
    let none : length (range b r.offset r.length) ≡ 0 = (let zero : r.length ≡ 0 = grind (arith, nat_tests) in length_range b r.offset r.length h ∙ zero) in
    let left : left_entry width b r ≡ Ok None = at_end width b r there e in
    subst (λ (items : List (Result X Refusal)). ReturnsItems (StepsEntries entry_at width b) r items) (sym (entry_items_none entry_at width (range b r.offset r.length) some none))
    (λ answer next s. (s.0 ∙ rw left refl, subst (λ (v : Range). IsOver (StepsEntries entry_at width b) v) (sym (s.1 ∙ rw left refl)) (end_is_over entry_at width b r left)))
by_tests {X} entry_at width b r false true reads some h e l more =
    let there : holds b r.offset r.length ≡ true = grind (arith, nat_tests) in
    let size : length (range b r.offset r.length) ≡ r.length = length_range b r.offset r.length h in
    let filled : 0 < r.length = grind (arith, nat_tests) in
    let less : r.length < width = grind (arith, nat_tests) in
    let items : entry_items entry_at width (range b r.offset r.length) ≡ Err Short ∷ [] =
    entry_items_cut entry_at width (range b r.offset r.length) [] (omega (arith, size)) (omega (arith, size)) refl
    ∙ ap (λ (xs : List (Result X Refusal)). Err Short ∷ xs) (entry_items_none entry_at width [] some refl) in
    subst (λ (xs : List (Result X Refusal)). ReturnsItems (StepsEntries entry_at width b) r xs) (sym items) (refusal entry_at width b r (cut width b r there e l))
by_tests {X} entry_at width b r false false reads some h e l more =
    grind (arith, nat_tests, length_range, whole, entry_items_more, rest_of_range)

gives_inside : {X : Type 0} (entry_at : List ℕ → ℕ → X) (width : ℕ) (b : List ℕ) (n : ℕ) (r : Range) → ReadsAfter entry_at width → 0 < width → r.offset + r.length ≤ length b → r.length ≤ n →
    ReturnsItems (StepsEntries entry_at width b) r (entry_items entry_at width (range b r.offset r.length))
gives_inside entry_at width b zero r reads some h le = grind (arith, by_tests)
gives_inside entry_at width b (suc n) r reads some h le =
    by_tests entry_at width b r (r.length == 0) (nat_lt r.length width) reads some h refl refl
    (λ fits. gives_inside entry_at width b n (range_after r width) reads some (omega arith) (omega arith))

pub gives_entries : {X : Type 0} (entry_at : List ℕ → ℕ → X) (width : ℕ) → ReadsAfter entry_at width → 0 < width → (b : List ℕ) (r : Range) →
    ReturnsItems (StepsEntries entry_at width b) r (walk_items entry_at width b r)
gives_entries entry_at width reads some b r = grind (arith, gives_inside, nat_tests, refusal, outside)

-- ---- the walks
