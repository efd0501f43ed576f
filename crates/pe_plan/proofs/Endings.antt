-- Chains that come to an end: they go on for ever neither in records nor in links.
use Rattle.std.proofs.Common.{◌≡◌, ◌≢◌, ℕ, suc, ◌≤◌, List, [], ◌∷◌, length, Option, Some, None, Result, Ok, Err, ⊎_elim, ◌↔◌, refl, sym, ◌∙◌, subst, arith}
use Rattle.pe_plan.proofs.Cited.{Refusal, Memory, FunctionCycle, RuntimeFunction, Table, IsEndless, UnwindInfoView, Unwinds, IsChain}
use Rattle.pe_plan.proofs.Cited.{ComesTo, HasChained, NeverEnds, PlansFrom}
use Rattle.pe_plan.proofs.RecordLaw.{RecordLaw}

-- where a chain ends: after a root, or at a function whose record is refused, but for a cycle
abbrev pub IsEnd : Table → List ℕ → Option RuntimeFunction → Type 0
IsEnd t b None = Unit {0}
IsEnd t b (Some g) = (k : Refusal) × (k ≢ FunctionCycle) × Unwinds t b g.unwind_info_address (Err k)

-- no record stands there
pub no_record : (law : RecordLaw) (t : Table) (b : List ℕ) (start end final : Option RuntimeFunction) (i : UnwindInfoView) (is : List UnwindInfoView) → start ≡ end → IsEnd t b end → IsChain t b start (i ∷ is) final → ⊥
no_record law t b None end final i is same stop p = p
no_record law t b (Some f) end final i is same stop p =
    let here : IsEnd t b (Some f) = subst (IsEnd t b) (sym same) stop in
    let clash = law.one t b f.unwind_info_address (Err here.0) (Ok i) here.2 p.0 in
    cc

-- the same record
pub same_record : (law : RecordLaw) (t : Table) (b : List ℕ) (u : ℕ) (i j : UnwindInfoView) → Unwinds t b u (Ok i) → Unwinds t b u (Ok j) → i ≡ j
same_record law t b u i j v w = let same = law.one t b u (Ok i) (Ok j) v w in cc

-- what follows the same record
pub follows_same : (law : RecordLaw) (t : Table) (b : List ℕ) (f : RuntimeFunction) (i j : UnwindInfoView) (end : Option RuntimeFunction) (is js : List UnwindInfoView) (other : Option RuntimeFunction) → IsChain t b (Some f) (i ∷ is) end → IsChain t b (Some f) (j ∷ js) other → IsChain t b i.chained_info js other
follows_same law t b f i j end is js other p q =
    subst (λ (r : UnwindInfoView). IsChain t b r.chained_info js other) (same_record law t b f.unwind_info_address j i q.0 p.0) q.1

-- no chained records go on after the end
not_longer : (law : RecordLaw) (t : Table) (b : List ℕ) (start end : Option RuntimeFunction) (g : RuntimeFunction) (is js : List UnwindInfoView) → IsChain t b start is end → IsEnd t b end → IsChain t b start js (Some g) → length js ≤ length is
not_longer law t b start end g is [] p stop q = omega arith
not_longer law t b start end g [] (j ∷ js) p stop q = absurd (no_record law t b start end (Some g) j js p stop q)
not_longer law t b None end g (i ∷ is) (j ∷ js) p stop q = absurd p
not_longer law t b (Some f) end g (i ∷ is) (j ∷ js) p stop q =
    omega (arith, not_longer law t b i.chained_info end g is js p.1 stop (follows_same law t b f i j end is js (Some g) p q))

-- a cycle of links in place of a record
cycle_of : (law : RecordLaw) (t : Table) (b : List ℕ) (u : ℕ) (x : Result UnwindInfoView Refusal) → IsEndless t u → Unwinds t b u x → x ≡ Err FunctionCycle
cycle_of law t b u x endless w = (law.cycle t b u x w).1 endless

-- the links of none of its functions never end
no_endless_links : (law : RecordLaw) (t : Table) (b : List ℕ) (start end : Option RuntimeFunction) (g : RuntimeFunction) (is js : List UnwindInfoView) → IsChain t b start is end → IsEnd t b end → IsChain t b start js (Some g) → IsEndless t g.unwind_info_address → ⊥
no_endless_links law t b start end g [] [] p stop q endless =
    let here : IsEnd t b (Some g) = subst (IsEnd t b) (sym p ∙ q) stop in
    let same = cycle_of law t b g.unwind_info_address (Err here.0) endless here.2 in
    here.1 (let is : here.0 ≡ FunctionCycle = cc in is)
no_endless_links law t b start end g [] (j ∷ js) p stop q endless = no_record law t b start end (Some g) j js p stop q
no_endless_links law t b None end g (i ∷ is) js p stop q endless = p
no_endless_links law t b (Some f) end g (i ∷ is) [] p stop q endless = grind (arith, cycle_of)
no_endless_links law t b (Some f) end g (i ∷ is) (j ∷ js) p stop q endless =
    no_endless_links law t b i.chained_info end g is js p.1 stop (follows_same law t b f i j end is js (Some g) p q) endless

-- a chain that comes to an end does not go on for ever
pub ends : (law : RecordLaw) (t : Table) (b : List ℕ) (f : RuntimeFunction) (end : Option RuntimeFunction) (is : List UnwindInfoView) → IsChain t b (Some f) is end → IsEnd t b end → NeverEnds t b f → ⊥
ends law t b f end is p stop =
    ⊎_elim
    (λ (on : (n : ℕ) → HasChained t b (Some f) n).
    let more : HasChained t b (Some f) (suc (length is)) = on (suc (length is)) in
    absurd (omega (arith, more.2, not_longer law t b (Some f) end more.1 is more.0 p stop more.3)))
    (λ (links : (g : RuntimeFunction) × ComesTo t b (Some f) g × IsEndless t g.unwind_info_address).
    no_endless_links law t b (Some f) end links.0 is links.1.0 p stop links.1.1 links.2)

-- a plan is a cycle exactly where the chain goes on for ever
pub plan_cycle : (law : RecordLaw) (t : Table) (b : List ℕ) (f : RuntimeFunction) (x : Result (List UnwindInfoView) Refusal) → PlansFrom t b f x → (x ≡ Err FunctionCycle) ↔ NeverEnds t b f
plan_cycle law t b f (Ok is) p = (λ e. cc, λ never. absurd (ends law t b f None is p tt never))
plan_cycle law t b f (Err Memory) p = (λ e. cc, λ never. absurd (ends law t b f None p.0 p.1 tt never))
plan_cycle law t b f (Err FunctionCycle) p = (λ e. p, λ never. refl)
plan_cycle law t b f (Err refusal) p = (λ e. cc, λ never. absurd (ends law t b f (Some p.0) p.1.0 p.1.1 (refusal, (λ e. cc), p.2) never))
