-- A chain that comes to an unwind address again never ends, and so does one with more records than there are addresses.
use Rattle.std.proofs.Common.{◌≡◌, ◌≢◌, ℕ, zero, suc, ◌<◌, ◌≤◌, true, false, List, [], ◌∷◌, ◌++◌, length, eqb, Option, Some, None, ◌⊎◌, inl, inr, ⊎_elim, refl, ap, sym, arith, length-append}
use Rattle.std.specs.List.{IsDistinct, AllByRecursion, list_any}
use Rattle.std.proofs.lemmas.Bool.{cases_Bool, cases_eq, false≢true}
use Rattle.std.proofs.lemmas.Bool.Decides.{nat_tests}
use Rattle.std.proofs.lemmas.Map.Keys.{IsDistinct-cons}
use Rattle.std.proofs.lemmas.Map.Steps.{length-le_from_distinct_below}
use Rattle.pe_core.proofs.Pigeonhole.{or_second}
use Rattle.pe_plan.proofs.Cited.{RuntimeFunction, Table, UnwindInfoView, IsChain, HasChained}
use Rattle.pe_plan.proofs.Chains.{joined, same_address, beginning}

-- the chain comes to a function, and from there on, by one record at least, to another with the same unwind address
pub record Ring (t : Table) (b : List ℕ) (start : Option RuntimeFunction) : Type 0 where
  pub first : RuntimeFunction
  pub again : RuntimeFunction
  pub front : List UnwindInfoView
  pub around : List UnwindInfoView
  pub some : 1 ≤ length around
  pub to_first : IsChain t b start front (Some first)
  pub to_again : IsChain t b (Some first) around (Some again)
  pub same : again.unwind_info_address ≡ first.unwind_info_address

-- n times round
record Rounds (t : Table) (b : List ℕ) (f : RuntimeFunction) (n : ℕ) : Type 0 where
  head : UnwindInfoView
  tail : List UnwindInfoView
  end : RuntimeFunction
  many : n ≤ length tail
  chain : IsChain t b (Some f) (head ∷ tail) (Some end)

rounds : (t : Table) (b : List ℕ) (f g : RuntimeFunction) (is : List UnwindInfoView) (n : ℕ) → 1 ≤ length is → IsChain t b (Some f) is (Some g) → g.unwind_info_address ≡ f.unwind_info_address → Rounds t b f n
rounds t b f g [] n some p same = absurd (omega arith)
rounds t b f g (i ∷ is) zero some p same = record { head = i; tail = is; end = g; many = omega arith; chain = p }
rounds t b f g (i ∷ is) (suc n) some p same =
    let rest : Rounds t b f n = rounds t b f g (i ∷ is) n some p same in
    record {
      head = i;
      tail = is ++ rest.head ∷ rest.tail;
      end = rest.end;
      many = omega (arith, rest.many, length-append is (rest.head ∷ rest.tail));
      chain = joined t b (Some f) (Some g) (Some rest.end) (i ∷ is) (rest.head ∷ rest.tail) p (same_address t b f g (Some rest.end) rest.head rest.tail (sym same) rest.chain);
    }

pub ring_goes_on : (t : Table) (b : List ℕ) (start : Option RuntimeFunction) → Ring t b start → (n : ℕ) → HasChained t b start n
ring_goes_on t b start r n =
    let more : Rounds t b r.first n = rounds t b r.first r.again r.around n r.some r.to_again r.same in
    beginning t b start more.end n (r.front ++ more.head ∷ more.tail) (joined t b start (Some r.first) (Some more.end) r.front (more.head ∷ more.tail) r.to_first more.chain)
    (omega (arith, more.many, length-append r.front (more.head ∷ more.tail)))

-- the unwind addresses of a chain, that of its end among them
abbrev pub addresses : Option RuntimeFunction → List UnwindInfoView → List ℕ
addresses None is = []
addresses (Some f) [] = f.unwind_info_address ∷ []
addresses (Some f) (i ∷ is) = f.unwind_info_address ∷ addresses i.chained_info is

length-addresses : (t : Table) (b : List ℕ) (start : Option RuntimeFunction) (g : RuntimeFunction) (is : List UnwindInfoView) → IsChain t b start is (Some g) → length (addresses start is) ≡ suc (length is)
length-addresses t b None g [] p = cc
length-addresses t b (Some f) g [] p = refl
length-addresses t b None g (i ∷ is) p = absurd p
length-addresses t b (Some f) g (i ∷ is) p = ap suc (length-addresses t b i.chained_info g is p.1)

-- the chain comes to each of its addresses
comes_to : (t : Table) (b : List ℕ) (start : Option RuntimeFunction) (g : RuntimeFunction) (is : List UnwindInfoView) (q : ℕ) → IsChain t b start is (Some g) → list_any (eqb q) (addresses start is) ≡ true
    → (h : RuntimeFunction) × (js : List UnwindInfoView) × IsChain t b start js (Some h) × (h.unwind_info_address ≡ q)
comes_to t b None g is q p e = absurd (false≢true e)
comes_to t b (Some f) g [] q p e = grind (arith, false≢true, or_second, nat_tests, cases_eq)
comes_to t b (Some f) g (i ∷ is) q p e =
    ⊎_elim (λ (same : q ≡ f.unwind_info_address). (f, [], refl, sym same))
    (λ (other : q ≢ f.unwind_info_address).
    let rest = comes_to t b i.chained_info g is q p.1 (or_second (eqb q f.unwind_info_address) _ (grind (arith, nat_tests)) e) in
    (rest.0, i ∷ rest.1, (p.0, rest.2), rest.3))
    (cases_eq q f.unwind_info_address)

pub apart : (q : ℕ) (xs : List ℕ) → list_any (eqb q) xs ≡ false → AllByRecursion (λ x. eqb q x ≡ false) xs
apart q [] e = tt
apart q (x ∷ xs) e =
    ⊎_elim (λ (same : eqb q x ≡ true). absurd (false≢true (sym (rw same at e))))
    (λ (other : eqb q x ≡ false). (other, apart q xs (rw other at e)))
    (cases_Bool (eqb q x))

-- one record before a ring
before_ring : (t : Table) (b : List ℕ) (f : RuntimeFunction) (g : Option RuntimeFunction) (i : UnwindInfoView) (is : List UnwindInfoView) → IsChain t b (Some f) (i ∷ is) g → Ring t b i.chained_info → Ring t b (Some f)
before_ring t b f g i is p r = record {
  first = r.first;
  again = r.again;
  front = i ∷ r.front;
  around = r.around;
  some = r.some;
  to_first = (p.0, r.to_first);
  to_again = r.to_again;
  same = r.same;
}

-- the addresses of a chain differ, or it is a ring
distinct_or_ring : (t : Table) (b : List ℕ) (start : Option RuntimeFunction) (g : RuntimeFunction) (is : List UnwindInfoView) → IsChain t b start is (Some g) → IsDistinct eqb (addresses start is) ⊎ Ring t b start
unfolding IsDistinct
distinct_or_ring t b None g is p = inl tt
distinct_or_ring t b (Some f) g [] p = inl (tt, tt)
distinct_or_ring t b (Some f) g (i ∷ is) p =
    ⊎_elim (λ (d : IsDistinct eqb (addresses i.chained_info is)).
    ⊎_elim (λ (met : list_any (eqb f.unwind_info_address) (addresses i.chained_info is) ≡ true).
    let back = comes_to t b i.chained_info g is f.unwind_info_address p.1 met in
    inr (record { first = f; again = back.0; front = []; around = i ∷ back.1; some = omega arith; to_first = refl; to_again = (p.0, back.2); same = back.3 }))
    (λ (new : list_any (eqb f.unwind_info_address) (addresses i.chained_info is) ≡ false).
    inl (IsDistinct-cons eqb f.unwind_info_address (addresses i.chained_info is) (apart f.unwind_info_address (addresses i.chained_info is) new) d))
    (cases_Bool (list_any (eqb f.unwind_info_address) (addresses i.chained_info is))))
    (λ (r : Ring t b i.chained_info). inr (before_ring t b f (Some g) i is p r))
    (distinct_or_ring t b i.chained_info g is p.1)

-- all addresses of a chain are below n
abbrev pub AreBelow : ℕ → Option RuntimeFunction → List UnwindInfoView → Type 0
AreBelow n None is = Unit {0}
AreBelow n (Some f) [] = f.unwind_info_address < n
AreBelow n (Some f) (i ∷ is) = (f.unwind_info_address < n) × AreBelow n i.chained_info is

pub below_more : (t : Table) (b : List ℕ) (n : ℕ) (start : Option RuntimeFunction) (g : RuntimeFunction) (is : List UnwindInfoView) (i : UnwindInfoView) → IsChain t b start is (Some g) → AreBelow n start is → AreBelow n i.chained_info [] → AreBelow n start (is ++ i ∷ [])
below_more t b n None g is i p small last = tt
below_more t b n (Some f) g [] i p small last = (small, last)
below_more t b n (Some f) g (j ∷ is) i p small last = (small.0, below_more t b n j.chained_info g is i p.1 small.1 last)

below : (n : ℕ) (start : Option RuntimeFunction) (is : List UnwindInfoView) (q : ℕ) → AreBelow n start is → list_any (eqb q) (addresses start is) ≡ true → q < n
below n None is q small e = absurd (false≢true e)
below n (Some f) [] q small e = grind (arith, false≢true, or_second, nat_tests, cases_eq)
below n (Some f) (i ∷ is) q small e =
    ⊎_elim (λ (same : q ≡ f.unwind_info_address). omega (arith, small.0))
    (λ (other : q ≢ f.unwind_info_address). below n i.chained_info is q small.1 (or_second (eqb q f.unwind_info_address) _ (grind (arith, nat_tests)) e))
    (cases_eq q f.unwind_info_address)

-- as many chained records as there are addresses
pub many_go_on : (t : Table) (b : List ℕ) (n : ℕ) (start : Option RuntimeFunction) (g : RuntimeFunction) (is : List UnwindInfoView) → IsChain t b start is (Some g) → AreBelow n start is → n ≤ length is → (m : ℕ) → HasChained t b start m
many_go_on t b n start g is p small many =
    ⊎_elim
    (λ (d : IsDistinct eqb (addresses start is)).
    absurd (omega (arith, length-addresses t b start g is p, length-le_from_distinct_below (addresses start is) n d (λ q. below n start is q small))))
    (λ (r : Ring t b start). ring_goes_on t b start r)
    (distinct_or_ring t b start g is p)
