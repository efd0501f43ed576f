-- Chains of records: one after the other, and the beginnings of one.
use Rattle.std.proofs.Common.{◌≡◌, ℕ, zero, suc, ◌≤◌, List, [], ◌∷◌, ◌++◌, length, Option, Some, None, Ok, refl, ap, sym, subst, arith}
use Rattle.pe_plan.proofs.Cited.{RuntimeFunction, Table, UnwindInfoView, Unwinds, IsChain, HasChained}

-- a chain that starts where another ends
pub joined : (t : Table) (b : List ℕ) (start middle end : Option RuntimeFunction) (is js : List UnwindInfoView) → IsChain t b start is middle → IsChain t b middle js end → IsChain t b start (is ++ js) end
joined t b start middle end [] js p q = subst (λ (o : Option RuntimeFunction). IsChain t b o js end) (sym p) q
joined t b None middle end (i ∷ is) js p q = absurd p
joined t b (Some f) middle end (i ∷ is) js p q = (p.0, joined t b i.chained_info middle end is js p.1 q)

-- one record more
pub one_more : (t : Table) (b : List ℕ) (start : Option RuntimeFunction) (g : RuntimeFunction) (is : List UnwindInfoView) (i : UnwindInfoView) → IsChain t b start is (Some g) → Unwinds t b g.unwind_info_address (Ok i) → IsChain t b start (is ++ i ∷ []) i.chained_info
one_more t b start g is i p u = joined t b start (Some g) i.chained_info is (i ∷ []) p (u, refl)

-- what follows is decided by the unwind address
pub same_address : (t : Table) (b : List ℕ) (f g : RuntimeFunction) (end : Option RuntimeFunction) (i : UnwindInfoView) (is : List UnwindInfoView) → f.unwind_info_address ≡ g.unwind_info_address → IsChain t b (Some f) (i ∷ is) end → IsChain t b (Some g) (i ∷ is) end
same_address t b f g end i is same p = (subst (λ (u : ℕ). Unwinds t b u (Ok i)) same p.0, p.1)

-- a beginning of chained records
pub beginning : (t : Table) (b : List ℕ) (start : Option RuntimeFunction) (g : RuntimeFunction) (n : ℕ) (is : List UnwindInfoView) → IsChain t b start is (Some g) → n ≤ length is → HasChained t b start n
beginning t b start g zero [] p h = ([], g, refl, p)
beginning t b None g zero (i ∷ is) p h = absurd p
beginning t b (Some f) g zero (i ∷ is) p h = ([], f, refl, refl)
beginning t b start g (suc n) [] p h = absurd (omega arith)
beginning t b None g (suc n) (i ∷ is) p h = absurd p
beginning t b (Some f) g (suc n) (i ∷ is) p h =
    let rest : HasChained t b i.chained_info n = beginning t b i.chained_info g n is p.1 (omega arith) in
    (i ∷ rest.0, rest.1, ap suc rest.2, (p.0, rest.3))
