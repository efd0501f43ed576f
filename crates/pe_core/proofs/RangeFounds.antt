-- Lookup by an index is lookup in turn.
use Rattle.std.proofs.Common.{◌≡◌, ℕ, suc, ◌+◌, ◌-◌, ◌<◌, ◌^◌, Bool, true, false, cond, List, [], ◌∷◌, length, get_or, Some, None, refl, arith, sym, ◌∙◌}
use Rattle.std.specs.List.{find}
use Rattle.pe_core.specs.declared.range_index.RangeEntry.{RangeEntry}
use Rattle.pe_core.specs.RangeIndexes.{Indexes, has_address, first_number, number_at}

module _ {X : Type 0} (start size : X → ℕ) (a : ℕ) where
  -- what is found, by the number of a range in a list that starts with the index o
  abbrev Found : ℕ → List X → ℕ → Type 0
  Found o xs k = (i : ℕ) × (k ≡ o + i + 1) × (i < length xs) × ((d : X) → find (has_address start size a) xs ≡ Some (get_or xs i d))

  found_by : (b : Bool) (o k : ℕ) (x : X) (xs : List X) → has_address start size a x ≡ b → 0 < k → (first_number start size a (o + 1) xs ≡ k → Found (o + 1) xs k) → cond b (o + 1) (first_number start size a (o + 1) xs) ≡ k → Found o (x ∷ xs) k
  found_by true o k x xs has some more e = (0, omega (arith, e), omega arith, λ d. rw has refl)
  found_by false o k x xs has some more e = let f = more e in (suc f.0, omega (arith, f.1), omega (arith, f.2), λ d. rw has (f.3 d))

  found_from : (o k : ℕ) (xs : List X) → 0 < k → first_number start size a o xs ≡ k → Found o xs k
  found_from o k [] some e = absurd (omega (arith, some, e))
  found_from o k (x ∷ xs) some e = found_by (has_address start size a x) o k x xs refl some (λ h. found_from (o + 1) k xs some h) e

  none_by : (b : Bool) (o : ℕ) (x : X) (xs : List X) → has_address start size a x ≡ b → (first_number start size a (o + 1) xs ≡ 0 → find (has_address start size a) xs ≡ None) → cond b (o + 1) (first_number start size a (o + 1) xs) ≡ 0 → find (has_address start size a) (x ∷ xs) ≡ None
  none_by true o x xs has more e = absurd (omega (arith, e))
  none_by false o x xs has more e = rw has (more e)

  none_from : (o : ℕ) (xs : List X) → first_number start size a o xs ≡ 0 → find (has_address start size a) xs ≡ None
  none_from o [] e = refl
  none_from o (x ∷ xs) e = none_by (has_address start size a x) o x xs refl (λ h. none_from (o + 1) xs h) e

  -- the range with the number that was found is there
  pub index_within : (xs : List X) (es : List RangeEntry) (k : ℕ) → Indexes start size 0 xs es → a < 2 ^ 64 → number_at es a ≡ k → 0 < k → k - 1 < length xs
  index_within xs es k m small e some = let f = found_from 0 k xs some (sym (m.numbers a small) ∙ e) in omega (arith, f.1, f.2)

  -- it is the first that has the address
  pub index_found : (xs : List X) (es : List RangeEntry) (k : ℕ) (d : X) → Indexes start size 0 xs es → a < 2 ^ 64 → number_at es a ≡ k → 0 < k → find (has_address start size a) xs ≡ Some (get_or xs (k - 1) d)
  index_found xs es k d m small e some = let f = found_from 0 k xs some (sym (m.numbers a small) ∙ e) in let same : k - 1 ≡ f.0 = omega (arith, f.1) in rw same (f.3 d)

  -- without a number no range has the address
  pub index_none : (xs : List X) (es : List RangeEntry) → Indexes start size 0 xs es → a < 2 ^ 64 → number_at es a ≡ 0 → find (has_address start size a) xs ≡ None
  index_none xs es m small e = none_from 0 xs (sym (m.numbers a small) ∙ e)
