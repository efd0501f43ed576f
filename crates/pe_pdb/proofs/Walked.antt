-- Walks: more steps than there are bytes make no difference, so a walk is its first item, and the walk from there on.
use Rattle.std.proofs.Common.{◌*◌, ◌≡◌, ℕ, zero, suc, ◌+◌, ◌-◌, ◌<◌, ◌≤◌, false, List, [], ◌∷◌, length, leb, Result, Ok, Err, refl, ap, sym, ◌∙◌, arith, inl, inr}
use Rattle.std.proofs.lemmas.Bool.{cases_lt}
use Rattle.std.proofs.lemmas.Bool.Decides.{nat_tests}
use Rattle.std.specs.Prelude.{if◌then◌else◌}
use Rattle.pe_core.specs.Refusals.{◌>>=◌}
use Rattle.pe_pdb.specs.Refusals.{PdbRefusal}
use Rattle.pe_pdb.specs.Walks.{Advances, ItemAt, first_items, items, with_end, with_more}

first_none : {X : Type 0} (item : ItemAt X) (end n p : ℕ) → end ≤ p → first_items item end n p ≡ []
unfolding first_items
first_none item end n p past = grind (arith, nat_tests)

first_step : {X : Type 0} (item : ItemAt X) (end n p : ℕ) → p < end → first_items item end (suc n) p ≡ with_more (first_items item end n) (item p)
unfolding first_items
first_step item end n p before = let t : leb end p ≡ false = grind (arith, nat_tests) in rw t

with_same : {X : Type 0} (f g : ℕ → List (Result X PdbRefusal)) (r : Result (X × ℕ) PdbRefusal) → ((y : X × ℕ) → r ≡ Ok y → f y.1 ≡ g y.1) → with_more f r ≡ with_more g r
with_same f g r same = grind arith

first_enough : {X : Type 0} (item : ItemAt X) → Advances item → (end n m p : ℕ) → end ≤ p + n → end ≤ p + m → first_items item end n p ≡ first_items item end m p
first_enough item later end zero m p few enough = first_none item end zero p (omega (arith, few)) ∙ sym (first_none item end m p (omega (arith, few)))
first_enough item later end (suc n) zero p few enough = first_none item end (suc n) p (omega (arith, enough)) ∙ sym (first_none item end zero p (omega (arith, enough)))
first_enough {X} item later end (suc n) (suc m) p few enough = elim (cases_lt p end) [
  | inl lt ↦
      first_step item end n p lt
      ∙ with_same (first_items item end n) (first_items item end m) (item p) (λ (y : X × ℕ) e. let after = later p y e in first_enough item later end n m y.1 (omega (arith, few, after)) (omega (arith, enough, after)))
      ∙ sym (first_step item end m p lt)
  | inr ge ↦ first_none item end (suc n) p ge ∙ sym (first_none item end (suc m) p ge)
]

pub items_none : {X : Type 0} (item : ItemAt X) (end p : ℕ) → end ≤ p → items item end p ≡ []
unfolding items
items_none item end p past = first_none item end (end - p) p past

pub items_step : {X : Type 0} (item : ItemAt X) → Advances item → (end p : ℕ) → p < end → items item end p ≡ with_more (items item end) (item p)
unfolding items
items_step {X} item later end p before =
    let some : end - p ≡ suc (end - p - 1) = omega (arith, before) in
    ap (λ n. first_items item end n p) some
    ∙ first_step item end (end - p - 1) p before
    ∙ with_same (first_items item end (end - p - 1)) (λ q. first_items item end (end - q) q) (item p) (λ (y : X × ℕ) e. let after = later p y e in first_enough item later end (end - p - 1) (end - y.1) y.1 (omega (arith, after)) (omega arith))

-- ---- walks over items that say where they end, each of them after its start

abbrev pub EndsLater : {X : Type 0} → (X → ℕ) → (ℕ → Result X PdbRefusal) → Type 0
EndsLater {X} end at = (p : ℕ) (x : X) → at p ≡ Ok x → p < end x

advances : {X : Type 0} (end : X → ℕ) (at : ℕ → Result X PdbRefusal) → EndsLater end at → Advances (with_end end at)
advances end at later = grind arith

pub walk_none : {X : Type 0} (end : X → ℕ) (at : ℕ → Result X PdbRefusal) (n p : ℕ) → n ≤ p → items (with_end end at) n p ≡ []
walk_none end at n p past = items_none (with_end end at) n p past

pub walk_more : {X : Type 0} (end : X → ℕ) (at : ℕ → Result X PdbRefusal) → EndsLater end at → (n p : ℕ) (x : X) → p < n → at p ≡ Ok x →
    items (with_end end at) n p ≡ Ok x ∷ items (with_end end at) n (end x)
walk_more end at later n p x before is = grind (arith, items_step, advances)

pub walk_refused : {X : Type 0} (end : X → ℕ) (at : ℕ → Result X PdbRefusal) → EndsLater end at → (n p : ℕ) (r : PdbRefusal) → p < n → at p ≡ Err r →
    items (with_end end at) n p ≡ Err r ∷ []
walk_refused end at later n p r before is = grind (arith, items_step, advances)

-- a walk is its first item, and the walk from there on
pub walk_whole : {X : Type 0} (end : X → ℕ) (at : ℕ → Result X PdbRefusal) → EndsLater end at → (n p : ℕ) →
    items (with_end end at) n p ≡ (if leb n p then [] else with_more (items (with_end end at) n) (with_end end at p))
walk_whole end at later n p = grind (arith, cases_lt, nat_tests, items_step, advances, walk_none)

-- ---- few items, where each has so many bytes

abbrev pub HasWidth : {X : Type 0} → ℕ → ℕ → (X → ℕ) → (ℕ → Result X PdbRefusal) → Type 0
HasWidth {X} width n end at = (p : ℕ) (x : X) → at p ≡ Ok x → (p + width ≤ end x) × (p + width ≤ n)

few_more : {X : Type 0} (width n : ℕ) (end : X → ℕ) (at : ℕ → Result X PdbRefusal) → HasWidth width n end at → (more : ℕ → List (Result X PdbRefusal)) →
    ((q : ℕ) → width * length (more q) + 1 ≤ (n - q) + width) → (p : ℕ) → p < n → (r : Result X PdbRefusal) → at p ≡ r →
    width * length (with_more more (r >>= λ x. Ok (x, end x))) + 1 ≤ (n - p) + width
few_more width n end at wide more few p lt (Ok x) is = grind (arith)
few_more width n end at wide more few p lt (Err r) is =
    let one : width * 1 ≡ width = grind arith in omega (arith, one, lt)

unfolded_zero : {X : Type 0} (end : X → ℕ) (at : ℕ → Result X PdbRefusal) (n p : ℕ) → first_items (with_end end at) n zero p ≡ []
unfolding first_items
unfolded_zero end at n p = refl

few_first : {X : Type 0} (width n : ℕ) (end : X → ℕ) (at : ℕ → Result X PdbRefusal) → 0 < width → HasWidth width n end at → (k p : ℕ) →
    width * length (first_items (with_end end at) n k p) + 1 ≤ (n - p) + width
few_first width n end at some wide zero p = grind (arith, unfolded_zero)
few_first width n end at some wide (suc k) p = elim (cases_lt p n) [
  | inl lt ↦
      let e = ap length (first_step (with_end end at) n k p lt) in
      let same : width * length (first_items (with_end end at) n (suc k) p) ≡ width * length (with_more (first_items (with_end end at) n k) (with_end end at p)) = ap (λ m. width * m) e in
      let h = few_more width n end at wide (first_items (with_end end at) n k) (few_first width n end at some wide k) p lt (at p) refl in
      omega (arith, same, h)
  | inr ge ↦
      let none : width * 0 ≡ 0 = grind arith in
      let e = ap length (first_none (with_end end at) n (suc k) p ge) in
      let same : width * length (first_items (with_end end at) n (suc k) p) ≡ width * 0 = ap (λ m. width * m) e in
      omega (arith, none, same, some)
]

pub walk_few : {X : Type 0} (width n : ℕ) (end : X → ℕ) (at : ℕ → Result X PdbRefusal) → 0 < width → HasWidth width n end at → (p : ℕ) →
    width * length (items (with_end end at) n p) + 1 ≤ (n - p) + width
unfolding items
walk_few width n end at some wide p = few_first width n end at some wide (n - p) p
