use Rattle.std.proofs.Common.{◌≡◌, ◌≢◌, ℕ, zero, suc, ◌+◌, ◌^◌, ◌<◌, ◌≤◌, Bool, true, false, List, [], ◌∷◌, ◌++◌, length, Option, Some, None, Result, Ok, Err, ◌⊎◌, inl, inr, ⊎_elim, refl, sym, subst, arith, length-append}
use Rattle.pe_core.specs.Bytes.{AreBytes}
use Rattle.pe_plan.proofs.Cited.{Refusal, Memory, FunctionCycle, outcome, ◌>>=◌, RuntimeFunction, Table, UnwindInfoView, unwind_record}
use Rattle.pe_plan.proofs.Cited.{unwind_tests, Unwinds, record_at_address, record_at_offset, IsChain, PlansFrom}
use Rattle.pe_unwind.proofs.ChainedAddresses.{IsSmall, small_record}
use Rattle.pe_plan.proofs.Chains.{one_more}
use Rattle.pe_plan.proofs.Rings.{AreBelow, below_more, many_go_on}
use Rattle.pe_plan.proofs.RecordLaw.{RecordLaw}
use Rattle.pe_plan.proofs.Endings.{plan_cycle}
use Rattle.pe_plan.proofs.OnePlan.{one_plan}
use Rattle.pe_plan.proofs.laws.one_plan_of_functions.Goals as goal

-- A function has a plan: its chain is followed for as many records as there are unwind addresses, and then goes on for ever.
tested : (tests : List (Bool × Refusal)) (x v : UnwindInfoView) → outcome tests x ≡ Ok v → x ≡ v
tested [] x v h = cc
tested ((true, refusal) ∷ tests) x v h = tested tests x v h
tested ((false, refusal) ∷ tests) x v h = absurd cc

small_at : (b : List ℕ) (offset : Option ℕ) (i : UnwindInfoView) → AreBytes b → Ok i ≡ record_at_offset b offset → IsSmall i.chained_info
small_at b None i small e = absurd cc
small_at b (Some p) i small e =
    subst (λ (j : UnwindInfoView). IsSmall j.chained_info) (tested (unwind_tests b p) (unwind_record b p) i (sym e)) (small_record b p small)

small_at_end : (t : Table) (b : List ℕ) (i : UnwindInfoView) (end : Result ℕ Refusal) → AreBytes b → Ok i ≡ (end >>= record_at_address t b) → IsSmall i.chained_info
small_at_end t b i (Err k) small e = absurd cc
small_at_end t b i (Ok a) small e = small_at b (t.offset a) i small e

small_next : (t : Table) (b : List ℕ) (u : ℕ) (i : UnwindInfoView) → AreBytes b → Unwinds t b u (Ok i) → IsSmall i.chained_info
small_next t b u i small w = small_at_end t b i w.0 small w.2

-- ---- the chain is followed

-- so many chained records lead to the current function
record Reached (t : Table) (b : List ℕ) (f : RuntimeFunction) (n m : ℕ) : Type 0 where
  records : List UnwindInfoView
  current : RuntimeFunction
  many : length records ≡ m
  chain : IsChain t b (Some f) records (Some current)
  below : AreBelow n (Some f) records

-- a plan that doesn't lack memory
abbrev Planned : Table → List ℕ → RuntimeFunction → Type 0
Planned t b f = (x : Result (List UnwindInfoView) Refusal) × PlansFrom t b f x × (x ≢ Err Memory)

by_next : (t : Table) (b : List ℕ) (f : RuntimeFunction) (n m : ℕ) (r : Reached t b f n m) (i : UnwindInfoView) (o : Option RuntimeFunction) → AreBytes b → 2 ^ 32 ≤ n → Unwinds t b r.current.unwind_info_address (Ok i) → i.chained_info ≡ o → Reached t b f n (suc m) ⊎ Planned t b f
by_next t b f n m r i None small big u to =
    inr (Ok (r.records ++ i ∷ []), subst (λ (o : Option RuntimeFunction). IsChain t b (Some f) (r.records ++ i ∷ []) o) to (one_more t b (Some f) r.current r.records i r.chain u), λ e. cc)
by_next t b f n m r i (Some g) small big u to =
    let next : g.unwind_info_address < 2 ^ 32 = subst IsSmall to (small_next t b r.current.unwind_info_address i small u) in
    let last : g.unwind_info_address < n = omega (arith, next, big) in
    inl (record {
      records = r.records ++ i ∷ [];
      current = g;
      many = omega (arith, r.many, length-append r.records (i ∷ []));
      chain = subst (λ (o : Option RuntimeFunction). IsChain t b (Some f) (r.records ++ i ∷ []) o) to (one_more t b (Some f) r.current r.records i r.chain u);
      below = below_more t b n (Some f) r.current r.records i r.chain r.below (subst (λ (o : Option RuntimeFunction). AreBelow n o []) (sym to) last);
    })

by_refusal : (law : RecordLaw) (t : Table) (b : List ℕ) (f current : RuntimeFunction) (is : List UnwindInfoView) (k : Refusal) → IsChain t b (Some f) is (Some current) → Unwinds t b current.unwind_info_address (Err k) → Planned t b f
by_refusal law t b f current is Memory chain u = absurd (law.no_memory t b current.unwind_info_address u)
by_refusal law t b f current is FunctionCycle chain u =
    (Err FunctionCycle, inr (current, (is, chain), (law.cycle t b current.unwind_info_address (Err FunctionCycle) u).0 refl), λ e. cc)
by_refusal law t b f current is refusal chain u = (Err refusal, (current, (is, chain), u), λ e. cc)

by_record : (law : RecordLaw) (t : Table) (b : List ℕ) (f : RuntimeFunction) (n m : ℕ) (r : Reached t b f n m) (x : Result UnwindInfoView Refusal) → AreBytes b → 2 ^ 32 ≤ n → Unwinds t b r.current.unwind_info_address x → Reached t b f n (suc m) ⊎ Planned t b f
by_record law t b f n m r (Err k) small big u = inr (by_refusal law t b f r.current r.records k r.chain u)
by_record law t b f n m r (Ok i) small big u = by_next t b f n m r i i.chained_info small big u refl

goes : (law : RecordLaw) (t : Table) (b : List ℕ) (f : RuntimeFunction) (n m : ℕ) → AreBytes b → 2 ^ 32 ≤ n → f.unwind_info_address < n → Reached t b f n m ⊎ Planned t b f
goes law t b f n zero small big first = inl (record { records = []; current = f; many = refl; chain = refl; below = first })
goes law t b f n (suc m) small big first =
    ⊎_elim
    (λ (r : Reached t b f n m). let (x, unwinds) = law.exists t b r.current.unwind_info_address in by_record law t b f n m r x small big unwinds)
    (λ (p : Planned t b f). inr p)
    (goes law t b f n m small big first)

with_bound : (law : RecordLaw) (t : Table) (b : List ℕ) (f : RuntimeFunction) (n : ℕ) → AreBytes b → 2 ^ 32 ≤ n → f.unwind_info_address < n → Planned t b f
with_bound law t b f n small big first =
    ⊎_elim
    (λ (r : Reached t b f n n). (Err FunctionCycle, inl (many_go_on t b n (Some f) r.current r.records r.chain r.below (omega (arith, r.many))), λ e. cc))
    (λ (p : Planned t b f). p)
    (goes law t b f n n small big first)

some_plan : (law : RecordLaw) (t : Table) (b : List ℕ) (f : RuntimeFunction) → AreBytes b → (x : Result (List UnwindInfoView) Refusal) × PlansFrom t b f x × (x ≢ Err Memory)
some_plan law t b f small = with_bound law t b f (2 ^ 32 + suc f.unwind_info_address) small (omega arith) (omega arith)

pub returns : goal.returns
returns c =
    let law : RecordLaw = record {
      exists = c.one_record_of_addresses.ensures.exists;
      one = c.one_record_of_addresses.ensures.one;
      cycle = c.one_record_of_addresses.ensures.cycle;
      no_memory = c.one_record_of_addresses.ensures.no_memory;
    } in
    record { exists = some_plan law; one = one_plan law; cycle = plan_cycle law }
