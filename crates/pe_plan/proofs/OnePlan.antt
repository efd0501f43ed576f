-- A function has one plan, allocation failure aside.
use Rattle.std.proofs.Common.{◌≡◌, ◌≢◌, ℕ, List, [], ◌∷◌, Option, Some, None, Result, Ok, Err, ◌⊎◌, inl, inr, ⊎_elim, refl, ap, sym, ◌∙◌}
use Rattle.pe_plan.proofs.Cited.{Refusal, Memory, FunctionCycle, RuntimeFunction, Table, UnwindInfoView, Unwinds, IsChain, PlansFrom}
use Rattle.pe_plan.proofs.Endings.{IsEnd, no_record, same_record, follows_same, ends, plan_cycle}
use Rattle.pe_plan.proofs.RecordLaw.{RecordLaw}

-- a chain that comes to an end has one list of records, and one end
one_chain : (law : RecordLaw) (t : Table) (b : List ℕ) (start end final : Option RuntimeFunction) (is js : List UnwindInfoView) → IsChain t b start is end → IsEnd t b end → IsChain t b start js final → IsEnd t b final → (is ≡ js) × (end ≡ final)
one_chain law t b start end final [] [] p stop q halt = (refl, sym p ∙ q)
one_chain law t b start end final [] (j ∷ js) p stop q halt = absurd (no_record law t b start end final j js p stop q)
one_chain law t b start end final (i ∷ is) [] p stop q halt = absurd (no_record law t b start final end i is q halt p)
one_chain law t b None end final (i ∷ is) (j ∷ js) p stop q halt = absurd p
one_chain law t b (Some f) end final (i ∷ is) (j ∷ js) p stop q halt =
    let rest = one_chain law t b i.chained_info end final is js p.1 stop (follows_same law t b f i j end is js final p q) halt in
    let first : i ≡ j = same_record law t b f.unwind_info_address i j p.0 q.0 in
    (ap (λ (r : UnwindInfoView). r ∷ is) first ∙ ap (λ (rs : List UnwindInfoView). j ∷ rs) rest.0, rest.1)

-- what a chain with this end returns
abbrev Answers : Table → List ℕ → List UnwindInfoView → Option RuntimeFunction → Result (List UnwindInfoView) Refusal → Type 0
Answers t b is None x = x ≡ Ok is
Answers t b is (Some g) x = (k : Refusal) × Unwinds t b g.unwind_info_address (Err k) × (x ≡ Err k)

record Ends (t : Table) (b : List ℕ) (f : RuntimeFunction) (x : Result (List UnwindInfoView) Refusal) : Type 0 where
  records : List UnwindInfoView
  end : Option RuntimeFunction
  chain : IsChain t b (Some f) records end
  stops : IsEnd t b end
  answers : Answers t b records end x

cycle_or_ends : (t : Table) (b : List ℕ) (f : RuntimeFunction) (x : Result (List UnwindInfoView) Refusal) → PlansFrom t b f x → x ≢ Err Memory → (x ≡ Err FunctionCycle) ⊎ Ends t b f x
cycle_or_ends t b f (Ok is) p there = inr (record { records = is; end = None; chain = p; stops = tt; answers = refl })
cycle_or_ends t b f (Err Memory) p there = absurd (there refl)
cycle_or_ends t b f (Err FunctionCycle) p there = inl refl
cycle_or_ends t b f (Err refusal) p there = inr (record { records = p.1.0; end = Some p.0; chain = p.1.1; stops = (refusal, (λ e. cc), p.2); answers = (refusal, p.2, refl) })

one_answer : (law : RecordLaw) (t : Table) (b : List ℕ) (is js : List UnwindInfoView) (end final : Option RuntimeFunction) (x y : Result (List UnwindInfoView) Refusal) → is ≡ js → end ≡ final → Answers t b is end x → Answers t b js final y → x ≡ y
one_answer law t b is js None None x y same at v w = v ∙ ap (λ (rs : List UnwindInfoView). Ok rs) same ∙ sym w
one_answer law t b is js None (Some g) x y same at v w = cc
one_answer law t b is js (Some f) None x y same at v w = cc
one_answer law t b is js (Some f) (Some g) x y same at v w =
    let here : f ≡ g = cc in
    let refusal = law.one t b g.unwind_info_address (Err v.0) (Err w.0) (rw here at v.1) w.1 in
    let kind : v.0 ≡ w.0 = cc in
    v.2 ∙ ap (λ (k : Refusal). Err k) kind ∙ sym w.2

-- a plan that ends is no cycle
not_both : (law : RecordLaw) (t : Table) (b : List ℕ) (f : RuntimeFunction) (x y : Result (List UnwindInfoView) Refusal) → PlansFrom t b f x → x ≡ Err FunctionCycle → Ends t b f y → ⊥
not_both law t b f x y p cycle e = ends law t b f e.end e.records e.chain e.stops ((plan_cycle law t b f x p).0 cycle)

pub one_plan : (law : RecordLaw) (t : Table) (b : List ℕ) (f : RuntimeFunction) (x y : Result (List UnwindInfoView) Refusal) → PlansFrom t b f x → PlansFrom t b f y → x ≢ Err Memory → y ≢ Err Memory → x ≡ y
one_plan law t b f x y p q there here =
    ⊎_elim
    (λ (c : x ≡ Err FunctionCycle).
    ⊎_elim (λ (d : y ≡ Err FunctionCycle). c ∙ sym d)
    (λ (d : Ends t b f y). absurd (not_both law t b f x y p c d))
    (cycle_or_ends t b f y q here))
    (λ (c : Ends t b f x).
    ⊎_elim (λ (d : y ≡ Err FunctionCycle). absurd (not_both law t b f y x q d c))
    (λ (d : Ends t b f y).
    let same = one_chain law t b (Some f) c.end d.end c.records d.records c.chain c.stops d.chain d.stops in
    one_answer law t b c.records d.records c.end d.end x y same.0 same.1 c.answers d.answers)
    (cycle_or_ends t b f y q here))
    (cycle_or_ends t b f x p there)
