-- A plan that began at an address ends.
use Rattle.std.proofs.Common.{[], ◌≡◌, ◌≢◌, ℕ, suc, ◌+◌, ◌-◌, ◌*◌, ◌^◌, ◌<◌, ◌≤◌, Bool, true, false, List, ◌∷◌, length, Some, Result, Ok, Err, ◌⊎◌, inl, ⊎_elim, refl, ap, sym, ◌∙◌, arith, Option, rules}
use Rattle.pe_core.proofs.Steps.{same_inside}
use Rattle.calls_unwind.proofs.Cited.{AreBytes, Refusal, ◌>>=◌, outcome, given, Table, UnwindInfoView, unwind_tests, unwind_record}
use Rattle.calls_unwind.proofs.Cited.{RuntimeFunction, FindsOffset, FollowsToRecord, or_no_function, flat_record}
use Rattle.calls_unwind.proofs.Cited.{UnwindRecord, ◌==◌, if◌then◌else◌, nat_le, min, cases_Bool, nat_tests, Plan}
use Rattle.pe_unwind.proofs.ChainedAddresses.{IsSmall, small_record}
use Rattle.calls_unwind.proofs.Ways.{GoesTo, LeadsIn, as_many, joined, one_more}
use Rattle.calls_unwind.proofs.Rings.{HasOneEnd, EndsBelow, same_end, split, Ring, ring_within, comes_again}
use Rattle.pe_unwind.proofs.OneChain.{one_answer}
use Rattle.calls_unwind.specs.Plans.{plan_from, ended, goes_on, leaves, StepsIf, ReturnsInTurn}
use Rattle.calls_unwind.proofs.PlanSteps.{over_gives}

-- The address that a record goes on at is one of 32 bits.
small_or_none : (o : Option RuntimeFunction) → IsSmall o → (or_no_function o).unwind_info_address < 4294967296
small_or_none o h = grind arith

by_record : (b : List ℕ) (p : ℕ) (r : UnwindRecord) (o : Result UnwindInfoView Refusal) → AreBytes b → outcome (unwind_tests b p) (unwind_record b p) ≡ o → Ok r ≡ (o >>= λ i. Ok (flat_record b p i)) →
    r.chained.unwind_info_address < 4294967296
by_record b p r o small e f = grind (arith, same_inside, given, small_record, small_or_none)

pub goes_below : (b : List ℕ) (links : Result Table Refusal) → AreBytes b → EndsBelow 4294967296 (GoesTo b links)
goes_below b links small u v g = grind (arith, by_record)

-- ---- an address has one record

one_offset : (links : Result Table Refusal) (u : ℕ) (x y : Result ℕ Refusal) → FindsOffset links u x → FindsOffset links u y → x ≡ y
one_offset (Err refusal) u x y f g = f ∙ sym g
one_offset (Ok t) u x y f g = cc (one_answer t u f.0 g.0 f.1 g.1)

pub one_record : (b : List ℕ) (links : Result Table Refusal) (u : ℕ) (x y : Result UnwindRecord Refusal) → FollowsToRecord b links u x → FollowsToRecord b links u y → x ≡ y
one_record b links u x y f g = cc (one_offset links u f.0 g.0 f.1 g.1)

pub goes_once : (b : List ℕ) (links : Result Table Refusal) → HasOneEnd (GoesTo b links)
goes_once b links u v w p q = grind (arith, same_inside p.0 q.0 (one_record b links u (Ok p.0) (Ok q.0) p.1 q.1), one_record b links u (Ok p.0) (Ok q.0) p.1 q.1)

-- ---- where a plan stands after k records

record At (goes : ℕ → ℕ → Type 0) (u : ℕ) (p : Plan) (k : ℕ) : Type 0 where
  before : ℕ
  to_saved : LeadsIn goes before u p.saved
  to_next : LeadsIn goes p.steps p.saved p.unwind
  count : k ≡ before + p.steps
  limit : p.limit ≡ before + 1
  less : p.steps < p.limit
  early : before < 8589934592
  apart : (j : ℕ) → 1 ≤ j → j ≤ p.steps → LeadsIn goes j p.saved p.saved → ⊥

-- so many steps without the saved address are none
late : (goes : ℕ → ℕ → Type 0) → HasOneEnd goes → EndsBelow 4294967296 goes → (u : ℕ) (p : Plan) (k : ℕ) → u < 4294967296 → At goes u p k → 4294967296 ≤ p.steps → ⊥
late goes one small u p k h a many =
    let rest : ℕ = a.before - 4294967296 in
    let way = split goes 4294967296 rest u p.saved (as_many goes a.before (4294967296 + rest) u p.saved (omega (arith, many, a.less, a.limit)) a.to_saved) in
    let ring : Ring goes u 4294967296 = ring_within goes 4294967296 small u way.0 h way.1 in
    a.apart (suc ring.around) (omega arith) (omega (arith, ring.within, many))
    (comes_again goes one 4294967296 u a.before p.saved ring (omega (arith, many, a.less, a.limit)) a.to_saved)

few : (goes : ℕ → ℕ → Type 0) → HasOneEnd goes → EndsBelow 4294967296 goes → (u : ℕ) (p : Plan) (k : ℕ) → u < 4294967296 → At goes u p k → p.steps < 4294967296
few goes one small u p k h a =
    ⊎_elim (λ (e : nat_le 4294967296 p.steps ≡ true). absurd (late goes one small u p k h a (grind (arith, nat_tests))))
    (λ (e : nat_le 4294967296 p.steps ≡ false). grind (arith, nat_tests))
    (cases_Bool (nat_le 4294967296 p.steps))

not_again : (goes : ℕ → ℕ → Type 0) → HasOneEnd goes → (u a k : ℕ) (p : Plan) → (w : At goes u p k) → LeadsIn goes (suc p.steps) p.saved a → a ≢ p.saved → (j : ℕ) → 1 ≤ j → j ≤ p.steps + 1 → LeadsIn goes j p.saved p.saved → ⊥
not_again goes one u a k p w way other j some most back = grind (arith, ⊎_elim, nat_tests, same_end, as_many, cases_Bool)

moved : (goes : ℕ → ℕ → Type 0) → HasOneEnd goes → (u a k : ℕ) (p : Plan) (saves : Bool) → nat_le p.limit (p.steps + 1) ≡ saves → At goes u p k → p.steps < 4294967296 → goes p.unwind a → a ≢ p.saved →
    At goes u (if saves then record p { unwind = a; saved = a; steps = 0; limit = min (2 * p.limit) 18446744073709551615 } else record p { unwind = a; steps = p.steps + 1 }) (suc k)
moved goes one u a k p true e w small g other =
    let full : p.limit ≤ p.steps + 1 = grind (arith, nat_tests) in
    let double : min (2 * p.limit) 18446744073709551615 ≡ suc (w.before + p.steps) + 1 = omega (arith, full, w.less, w.limit, w.early) in
    grind (arith, one_more goes (w.before + p.steps) u p.unwind a (joined goes w.before p.steps u p.saved p.unwind w.to_saved w.to_next) g, joined goes w.before p.steps u p.saved p.unwind w.to_saved w.to_next)
moved goes one u a k p false e w small g other =
    let room : p.steps + 1 < p.limit = grind (arith, nat_tests) in
    let way : LeadsIn goes (suc p.steps) p.saved a = one_more goes p.steps p.saved p.unwind a w.to_next g in
    record {
      before = w.before;
      to_saved = w.to_saved;
      to_next = as_many goes (suc p.steps) (p.steps + 1) p.saved a (omega arith) way;
      count = omega (arith, w.count);
      limit = w.limit;
      less = room;
      early = w.early;
      apart = λ j some most back. not_again goes one u a k p w way other j some most back;
    }

-- ---- runs

left : (goes : ℕ → ℕ → Type 0) → HasOneEnd goes → EndsBelow 4294967296 goes → (u k : ℕ) (p : Plan) (r : UnwindRecord) (root met : Bool) → u < 4294967296 → At goes u p k →
    (root ≡ false → goes p.unwind r.chained.unwind_info_address) → (met ≡ false → r.chained.unwind_info_address ≢ p.saved) → (q : Plan) →
    q ≡ (if root then ended p else (if met then ended p else goes_on p r.chained.unwind_info_address)) → (q.is_over ≡ 1) ⊎ At goes u q (suc k)
left goes one small u k p r root met h w g other q e = grind (arith, moved, few)

apart_of : (a b : ℕ) → (a == b) ≡ false → a ≢ b
apart_of a b e same = absurd (grind (arith, nat_tests))

after : (b : List ℕ) (links : Result Table Refusal) (u k : ℕ) (p q : Plan) (next : Result UnwindRecord Refusal) → EndsBelow 4294967296 (GoesTo b links) → u < 4294967296 → At (GoesTo b links) u p k →
    FollowsToRecord b links p.unwind next → q ≡ leaves p next → (q.is_over ≡ 1) ⊎ At (GoesTo b links) u q (suc k)
after b links u k p q (Err refusal) small h w f e = inl (ap (λ (x : Plan). x.is_over) e)
after b links u k p q (Ok given) small h w f e = search (rules, arith, left, goes_once, given, apart_of)

step_at : (test : Bool) (b : List ℕ) (links : Result Table Refusal) (u k : ℕ) (p q : Plan) (r : UnwindRecord) → EndsBelow 4294967296 (GoesTo b links) → u < 4294967296 → At (GoesTo b links) u p k →
    StepsIf test b links p (Ok (Some r)) q → (q.is_over ≡ 1) ⊎ At (GoesTo b links) u q (suc k)
step_at false b links u k p q r small h w step = absurd (let e = step.0 in cc)
step_at true b links u k p q r small h w step = after b links u k p q step.0 small h w step.1 step.3

none_after : (b : List ℕ) (links : Result Table Refusal) (p q : Plan) (rs : List UnwindRecord) → p.is_over ≡ 1 → ReturnsInTurn b links p rs q → length rs ≡ 0
none_after b links p q [] over g = refl
none_after b links p q (r ∷ rs) over g = absurd (let e = over_gives b links p g.0 (Ok (Some r)) over g.1 in cc)

run : (b : List ℕ) (links : Result Table Refusal) (u k : ℕ) (p q : Plan) (rs : List UnwindRecord) → EndsBelow 4294967296 (GoesTo b links) → u < 4294967296 → At (GoesTo b links) u p k →
    ReturnsInTurn b links p rs q → k + length rs ≤ 12884901888
run b links u k p q [] small h w g =
    omega (arith, w.count, w.early, few (GoesTo b links) (goes_once b links) small u p k h w)
run b links u k p q (r ∷ rs) small h w g =
    ⊎_elim (λ (over : (g.0).is_over ≡ 1).
    omega (arith, none_after b links g.0 q rs over g.2, w.count, w.early, few (GoesTo b links) (goes_once b links) small u p k h w))
    (λ (next : At (GoesTo b links) u g.0 (suc k)).
    let more : suc k + length rs ≤ 12884901888 = run b links u (suc k) g.0 q rs small h next g.2 in
    omega (arith, more))
    (step_at (p.is_over == 0) b links u k p g.0 r small h w g.1)

pub plans_end_below : (b : List ℕ) (links : Result Table Refusal) (u : ℕ) (rs : List UnwindRecord) (q : Plan) → EndsBelow 4294967296 (GoesTo b links) → u < 4294967296 →
    ReturnsInTurn b links (plan_from u) rs q → length rs ≤ 12884901888
plans_end_below b links u rs q small h g =
    let start : At (GoesTo b links) u (plan_from u) 0 = grind arith in
    let bound : 0 + length rs ≤ 12884901888 = run b links u 0 (plan_from u) q rs small h start g in
    omega (arith, bound)

pub plans_end : (b : List ℕ) (links : Result Table Refusal) (u : ℕ) (rs : List UnwindRecord) (q : Plan) → AreBytes b → u < 2 ^ 32 →
    ReturnsInTurn b links (plan_from u) rs q → length rs ≤ 3 * 2 ^ 32
plans_end b links u rs q small h g = plans_end_below b links u rs q (goes_below b links small) h g
