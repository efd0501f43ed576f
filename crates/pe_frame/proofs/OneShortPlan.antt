-- A function has one short plan.
use Rattle.std.proofs.Common.{◌≡◌, ℕ, ◌<◌, List, ◌∷◌, length, Option, Some, None, Result, Ok, Err, refl, ap, sym, ◌∙◌, subst, arith, []}
use Rattle.pe_frame.proofs.Cited.{Refusal, RuntimeFunction, Table, UnwindInfoView, Unwinds, IsChain, PlansShort, no_record, follows_same}
use Rattle.pe_frame.proofs.Cited.{one_plan, RecordLaw, plan_longer}

-- a record that can be read is not refused
refused_here : (law : RecordLaw) (t : Table) (b : List ℕ) (f g : RuntimeFunction) (i : UnwindInfoView) (r : Refusal) → Unwinds t b f.unwind_info_address (Ok i) → Some f ≡ Some g → Unwinds t b g.unwind_info_address (Err r) → ⊥
refused_here law t b f g i r p same u =
    let here : f ≡ g = cc same in
    let there = subst (λ (h : RuntimeFunction). Unwinds t b h.unwind_info_address (Ok i)) here p in
    let clash = law.one t b g.unwind_info_address (Ok i) (Err r) there u in
    cc

-- no record on the way to the root is
refused_late : (law : RecordLaw) (t : Table) (b : List ℕ) (start : Option RuntimeFunction) (g : RuntimeFunction) (is js : List UnwindInfoView) (r : Refusal) → IsChain t b start is None → IsChain t b start js (Some g) → Unwinds t b g.unwind_info_address (Err r) → ⊥
refused_late law t b start g [] [] r p q u = cc
refused_late law t b start g [] (j ∷ js) r p q u = no_record law t b start None (Some g) j js p tt q
refused_late law t b None g (i ∷ is) js r p q u = p
refused_late law t b (Some f) g (i ∷ is) [] r p q u = refused_here law t b f g i r p.0 q u
refused_late law t b (Some f) g (i ∷ is) (j ∷ js) r p q u = grind (arith, follows_same, refused_late law t b i.chained_info g is js r p.1 (follows_same law t b f i j None is js (Some g) p q) u)

-- nor is one before the last of some that can be read
refused_soon : (law : RecordLaw) (t : Table) (b : List ℕ) (start end : Option RuntimeFunction) (g : RuntimeFunction) (is js : List UnwindInfoView) (r : Refusal) → IsChain t b start is end → length js < length is → IsChain t b start js (Some g) → Unwinds t b g.unwind_info_address (Err r) → ⊥
refused_soon law t b start end g [] js r p few q u = omega (arith, few)
refused_soon law t b None end g (i ∷ is) js r p few q u = p
refused_soon law t b (Some f) end g (i ∷ is) [] r p few q u = refused_here law t b f g i r p.0 q u
refused_soon law t b (Some f) end g (i ∷ is) (j ∷ js) r p few q u =
    refused_soon law t b i.chained_info end g is js r p.1 (omega (arith, few)) (follows_same law t b f i j end is js (Some g) p q) u

one_refusal : (law : RecordLaw) (t : Table) (b : List ℕ) (start : Option RuntimeFunction) (g h : RuntimeFunction) (is js : List UnwindInfoView) (r k : Refusal) → IsChain t b start is (Some g) → Unwinds t b g.unwind_info_address (Err r) → IsChain t b start js (Some h) → Unwinds t b h.unwind_info_address (Err k) → r ≡ k
one_refusal law t b start g h [] [] r k p u q v =
    let here : g ≡ h = cc (sym p ∙ q) in
    let there = subst (λ (f : RuntimeFunction). Unwinds t b f.unwind_info_address (Err r)) here u in
    let same = law.one t b h.unwind_info_address (Err r) (Err k) there v in
    cc
one_refusal law t b None g h [] (j ∷ js) r k p u q v = absurd q
one_refusal law t b (Some f) g h [] (j ∷ js) r k p u q v = absurd (refused_here law t b f g j r q.0 p u)
one_refusal law t b None g h (i ∷ is) js r k p u q v = absurd p
one_refusal law t b (Some f) g h (i ∷ is) [] r k p u q v = absurd (refused_here law t b f h i k p.0 q v)
one_refusal law t b (Some f) g h (i ∷ is) (j ∷ js) r k p u q v = grind (arith, follows_same, one_refusal law t b i.chained_info g h is js r k p.1 u (follows_same law t b f i j (Some g) is js (Some h) p q) v)

-- a plan is not too long, nor refused
not_long : (law : RecordLaw) (t : Table) (b : List ℕ) (f : RuntimeFunction) (is : List UnwindInfoView) → PlansShort t b f (Ok (Some is)) → PlansShort t b f (Ok None) → ⊥
not_long law t b f is p q = omega (arith, plan_longer law t b f is q p.0, p.1)

not_refused : (law : RecordLaw) (t : Table) (b : List ℕ) (f : RuntimeFunction) (is : List UnwindInfoView) (r : Refusal) → PlansShort t b f (Ok (Some is)) → PlansShort t b f (Err r) → ⊥
not_refused law t b f is r p q = refused_late law t b (Some f) q.1 is q.0 r p.0 q.3 q.4

long_not_refused : (law : RecordLaw) (t : Table) (b : List ℕ) (f : RuntimeFunction) (r : Refusal) → PlansShort t b f (Ok None) → PlansShort t b f (Err r) → ⊥
long_not_refused law t b f r p q = refused_soon law t b (Some f) (Some p.1) q.1 p.0 q.0 r p.3 (omega (arith, p.2, q.2)) q.3 q.4

pub one_short_plan : (law : RecordLaw) (t : Table) (b : List ℕ) (f : RuntimeFunction) (x y : Result (Option (List UnwindInfoView)) Refusal) → PlansShort t b f x → PlansShort t b f y → x ≡ y
one_short_plan law t b f (Ok (Some is)) (Ok (Some js)) p q =
    ap (λ (rs : List UnwindInfoView). Ok (Some rs)) (cc (one_plan law t b f (Ok is) (Ok js) p.0 q.0 (λ e. cc) (λ e. cc)))
one_short_plan law t b f (Ok (Some is)) (Ok None) p q = absurd (not_long law t b f is p q)
one_short_plan law t b f (Ok (Some is)) (Err r) p q = absurd (not_refused law t b f is r p q)
one_short_plan law t b f (Ok None) (Ok (Some is)) p q = absurd (not_long law t b f is q p)
one_short_plan law t b f (Ok None) (Ok None) p q = refl
one_short_plan law t b f (Ok None) (Err r) p q = absurd (long_not_refused law t b f r p q)
one_short_plan law t b f (Err r) (Ok (Some is)) p q = absurd (not_refused law t b f is r q p)
one_short_plan law t b f (Err r) (Ok None) p q = absurd (long_not_refused law t b f r q p)
one_short_plan law t b f (Err r) (Err k) p q =
    ap (λ (e : Refusal). Err e) (one_refusal law t b (Some f) p.1 q.1 p.0 q.0 r k p.3 p.4 q.3 q.4)
