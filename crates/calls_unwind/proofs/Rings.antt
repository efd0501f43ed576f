-- Ways that come to a place again.
use Rattle.std.proofs.Common.{[], ◌≡◌, ◌≢◌, ℕ, zero, suc, ◌+◌, ◌-◌, ◌<◌, ◌≤◌, true, false, List, ◌∷◌, length, eqb, ◌⊎◌, inl, inr, ⊎_elim, refl, ap, sym, subst, ◌∙◌, arith}
use Rattle.calls_unwind.proofs.Cited.{list_any, cases_Bool, cases_eq, nat_tests}
use Rattle.std.specs.List.{IsDistinct}
use Rattle.std.proofs.lemmas.Map.Keys.{IsDistinct-cons}
use Rattle.std.proofs.lemmas.Map.Steps.{length-le_from_distinct_below}
use Rattle.pe_core.proofs.Pigeonhole.{or_second}
use Rattle.pe_plan.proofs.Rings.{apart}
use Rattle.calls_unwind.proofs.Ways.{LeadsIn, as_many, joined}

-- a step has one end
abbrev pub HasOneEnd : (ℕ → ℕ → Type 0) → Type 0
HasOneEnd goes = (u v w : ℕ) → goes u v → goes u w → v ≡ w

-- steps end below n
abbrev pub EndsBelow : ℕ → (ℕ → ℕ → Type 0) → Type 0
EndsBelow n goes = (u v : ℕ) → goes u v → v < n

pub same_end : (goes : ℕ → ℕ → Type 0) → HasOneEnd goes → (n u v w : ℕ) → LeadsIn goes n u v → LeadsIn goes n u w → v ≡ w
same_end goes one zero u v w p q = sym p ∙ q
same_end goes one (suc n) u v w p q =
    let e : p.0 ≡ q.0 = one u p.0 q.0 p.1 q.1 in
    same_end goes one n q.0 v w (subst (λ (x : ℕ). LeadsIn goes n x v) e p.2) q.2

pub split : (goes : ℕ → ℕ → Type 0) (m n u w : ℕ) → LeadsIn goes (m + n) u w → (v : ℕ) × LeadsIn goes m u v × LeadsIn goes n v w
split goes zero n u w p = (u, refl, as_many goes (0 + n) n u w (omega arith) p)
split goes (suc m) n u w p =
    let q : LeadsIn goes (suc (m + n)) u w = as_many goes (suc m + n) (suc (m + n)) u w (omega arith) p in
    let rest = split goes m n q.0 w q.2 in
    (rest.0, (q.0, q.1, rest.1), rest.2)

-- a place is reached, and then again, within so many steps
pub record Ring (goes : ℕ → ℕ → Type 0) (u n : ℕ) : Type 0 where
  pub before : ℕ
  pub around : ℕ
  pub offset : ℕ
  pub to_offset : LeadsIn goes before u offset
  pub to_again : LeadsIn goes (suc around) offset offset
  pub within : before + suc around ≤ n

-- the places on a way
abbrev stops : (goes : ℕ → ℕ → Type 0) (k u v : ℕ) → LeadsIn goes k u v → List ℕ
stops goes zero u v p = u ∷ []
stops goes (suc k) u v p = u ∷ stops goes k p.0 v p.2

length-stops : (goes : ℕ → ℕ → Type 0) (k u v : ℕ) (p : LeadsIn goes k u v) → length (stops goes k u v p) ≡ suc k
length-stops goes zero u v p = refl
length-stops goes (suc k) u v p = ap suc (length-stops goes k p.0 v p.2)

comes_to : (goes : ℕ → ℕ → Type 0) (k u v q : ℕ) (p : LeadsIn goes k u v) → list_any (eqb q) (stops goes k u v p) ≡ true → (j : ℕ) × (j ≤ k) × LeadsIn goes j u q
comes_to goes zero u v q p e = grind arith
comes_to goes (suc k) u v q p e =
    ⊎_elim (λ (same : q ≡ u). (0, omega arith, sym same))
    (λ (other : q ≢ u).
    let rest = comes_to goes k p.0 v q p.2 (or_second (eqb q u) _ (grind (arith, nat_tests)) e) in
    (suc rest.0, omega (arith, rest.1), (p.0, p.1, rest.2)))
    (cases_eq q u)

distinct_or_ring : (goes : ℕ → ℕ → Type 0) (k u v : ℕ) (p : LeadsIn goes k u v) → IsDistinct eqb (stops goes k u v p) ⊎ Ring goes u k
unfolding IsDistinct
distinct_or_ring goes zero u v p = inl (tt, tt)
distinct_or_ring goes (suc k) u v p =
    ⊎_elim (λ (d : IsDistinct eqb (stops goes k p.0 v p.2)).
    ⊎_elim (λ (met : list_any (eqb u) (stops goes k p.0 v p.2) ≡ true).
    let back = comes_to goes k p.0 v u p.2 met in
    inr (record { before = 0; around = back.0; offset = u; to_offset = refl; to_again = (p.0, p.1, back.2); within = omega (arith, back.1) }))
    (λ (new : list_any (eqb u) (stops goes k p.0 v p.2) ≡ false).
    inl (IsDistinct-cons eqb u (stops goes k p.0 v p.2) (apart u (stops goes k p.0 v p.2) new) d))
    (cases_Bool (list_any (eqb u) (stops goes k p.0 v p.2))))
    (λ (r : Ring goes p.0 k). inr (record { before = suc r.before; around = r.around; offset = r.offset; to_offset = (p.0, p.1, r.to_offset); to_again = r.to_again; within = omega (arith, r.within) }))
    (distinct_or_ring goes k p.0 v p.2)

below : (goes : ℕ → ℕ → Type 0) (n : ℕ) → EndsBelow n goes → (k u v q : ℕ) (p : LeadsIn goes k u v) → u < n → list_any (eqb q) (stops goes k u v p) ≡ true → q < n
below goes n small zero u v q p h e = grind arith
below goes n small (suc k) u v q p h e =
    ⊎_elim (λ (same : q ≡ u). omega (arith, h))
    (λ (other : q ≢ u). below goes n small k p.0 v q p.2 (small u p.0 p.1) (or_second (eqb q u) _ (grind (arith, nat_tests)) e))
    (cases_eq q u)

-- as many steps as there are places
pub ring_within : (goes : ℕ → ℕ → Type 0) (n : ℕ) → EndsBelow n goes → (u v : ℕ) → u < n → LeadsIn goes n u v → Ring goes u n
ring_within goes n small u v h p =
    ⊎_elim
    (λ (d : IsDistinct eqb (stops goes n u v p)).
    absurd (omega (arith, length-stops goes n u v p, length-le_from_distinct_below (stops goes n u v p) n d (λ q. below goes n small n u v q p h))))
    (λ (r : Ring goes u n). r)
    (distinct_or_ring goes n u v p)

-- a place that is reached late comes again after a round
pub comes_again : (goes : ℕ → ℕ → Type 0) → HasOneEnd goes → (n u k a : ℕ) (r : Ring goes u n) → n ≤ k → LeadsIn goes k u a → LeadsIn goes (suc r.around) a a
comes_again goes one n u k a r h p =
    let after : ℕ = k - r.before in
    let parts = split goes r.before after u a (as_many goes k (r.before + after) u a (omega (arith, r.within, h)) p) in
    let there : parts.0 ≡ r.offset = same_end goes one r.before u parts.0 r.offset parts.1 r.to_offset in
    let to_end : LeadsIn goes after r.offset a = subst (λ (x : ℕ). LeadsIn goes after x a) there parts.2 in
    let round : LeadsIn goes (suc r.around + after) r.offset a = joined goes (suc r.around) after r.offset r.offset a r.to_again to_end in
    let whole : LeadsIn goes (r.before + (suc r.around + after)) u a = joined goes r.before (suc r.around + after) u r.offset a r.to_offset round in
    grind (arith, split, as_many goes (r.before + (suc r.around + after)) (k + suc r.around) u a (omega (arith, r.within, h)) whole, same_end)
