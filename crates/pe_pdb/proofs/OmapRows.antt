-- A lookup by halves in an OMAP table finds the row that reading the table from its start finds.
use Rattle.std.proofs.Common.{◌≡◌, ℕ, ◌+◌, ◌-◌, ◌*◌, ◌/◌, ◌^◌, ◌<◌, ◌≤◌, Bool, false, List, length, get_or, filter, Option, Some, None, leb, refl, ap, sym, ◌∙◌, arith}
use Rattle.std.specs.Option.{SomeIff, option_and_then}
use Rattle.std.specs.List.Sorted.{IsNonDecreasingBy}
use Rattle.std.proofs.lemmas.Bool.Decides.{nat_tests}
use Rattle.std.proofs.lemmas.Bool.{cases_lt}
use Rattle.pe_core.proofs.EntryItems.{count_of_whole_entries, get_or-whole_entries}
use Rattle.pe_pdb.specs.Frames.{greatest}
use Rattle.pe_pdb.specs.Lookups.{IsCut}
use Rattle.pe_pdb.specs.Omap.{moved_by, omap, omap_row}
use Rattle.pe_pdb.specs.declared.omap.OmapRow.{OmapRow}
use Rattle.pe_pdb.proofs.Frames.{Greatest, greatest_of}

-- ---- the greatest of what passes a test, in a list whose first items pass

none_passes : {X : Type 0} (key : X → ℕ) (p : X → Bool) (xs : List X) (o : Option X) → Greatest key p xs o → ((k : ℕ) (d : X) → k < length xs → p (get_or xs k d) ≡ false) → o ≡ None
none_passes key p xs None g fails = refl
none_passes key p xs (Some x) g fails =
    let f = fails g.0 x g.1.listed in let e = ap p (g.1.is x) in let t = g.1.passes in absurd (cc (f, e, t))

-- ---- rows

abbrev pub rva_of_row : OmapRow → ℕ
rva_of_row x = x.rva

pub row_in : (b : List ℕ) (i : ℕ) (x d : OmapRow) → i < length b / 8 → x ≡ omap_row b (8 * i) → x ≡ get_or (omap b) i d
row_in b i x d inside is = is ∙ sym (get_or-whole_entries omap_row 8 b i d inside)

pub count_of_rows : (b : List ℕ) → length (omap b) ≡ length b / 8
count_of_rows b = count_of_whole_entries omap_row 8 b

-- all start after the RVA
pub no_row : (b : List ℕ) (rva n : ℕ) → IsNonDecreasingBy (λ x. x.rva) (omap b) → IsCut (λ x. x.rva) (omap b) rva n n → n ≡ 0 → greatest (λ x. x.rva) (filter (λ x. leb x.rva rva) (omap b)) ≡ None
no_row b rva n up cut none = grind (arith, none_passes, greatest_of, nat_tests)

-- the first n start at or before it
pub last_row : (b : List ℕ) (rva n : ℕ) (x : OmapRow) → IsNonDecreasingBy (λ x. x.rva) (omap b) → IsCut (λ x. x.rva) (omap b) rva n n → 0 < n → x ≡ omap_row b (8 * (n - 1)) → greatest (λ x. x.rva) (filter (λ x. leb x.rva rva) (omap b)) ≡ Some x
last_row b rva n x up cut some is = grind (arith, row_in, count_of_rows, greatest_of, nat_tests, cases_lt)

-- ---- where a row leads to

pub gone : (rva : ℕ) (x : OmapRow) → x.rva_to ≡ 0 → moved_by rva x ≡ None
gone rva x none = grind (arith, nat_tests, none)

pub there : (rva : ℕ) (x : OmapRow) (o : Option ℕ) → (x.rva_to ≡ 0 → ⊥) → SomeIff o (x.rva_to + (rva - x.rva) < 2 ^ 32) (x.rva_to + (rva - x.rva)) → moved_by rva x ≡ o
there rva x o some is = grind (arith, nat_tests, some, is)

-- ---- the row that an RVA is by

pub by_row : (b : List ℕ) (rva i : ℕ) → IsNonDecreasingBy (λ x. x.rva) (omap b) → i < length (omap b) → (omap_row b (8 * i)).rva ≤ rva → (i + 1 < length (omap b) → rva < (omap_row b (8 * (i + 1))).rva) → option_and_then (moved_by rva) (greatest (λ x. x.rva) (filter (λ x. leb x.rva rva) (omap b))) ≡ moved_by rva (omap_row b (8 * i))
by_row b rva i up inside early late =
    let n = count_of_rows b in
    let row : (k : ℕ) (d : OmapRow) → k < length (omap b) → (get_or (omap b) k d).rva ≡ (omap_row b (8 * k)).rva = λ k d lt. ap (λ (y : OmapRow). y.rva) (sym (row_in b k (omap_row b (8 * k)) d (omega (arith, lt, n)) refl)) in
    let cut : IsCut (λ x. x.rva) (omap b) rva (i + 1) (i + 1) = record {
      ordered = omega arith;
      within = omega (arith, inside);
      before = λ o k d lt. let below = o k i d (omega (arith, lt)) inside in let e = row i d inside in omega (arith, below, e, early);
      after = λ o k d ge lt.
          let above = o (i + 1) k d ge lt in
          let e = row (i + 1) d (omega (arith, ge, lt)) in
          let l = late (omega (arith, ge, lt)) in omega (arith, above, e, l);
    } in
    ap (option_and_then (moved_by rva)) (last_row b rva (i + 1) (omap_row b (8 * i)) up cut (omega arith) (ap (λ (k : ℕ). omap_row b (8 * k)) (omega arith)))
