-- Short plans: their records in an array that has more places, and that they are plans.
use Rattle.std.proofs.Common.{◌≡◌, ℕ, ◌+◌, ◌<◌, List, [], ◌∷◌, length, map, take, slice_index_or, slice_set, Option, Some, None, Ok, Err, refl, sym, ◌∙◌, arith, rules}
use Rattle.pe_plan.proofs.Cited.{length-map, length-take-le, map_push, take_more, take_more_set, Refusal, Table, UnwindInfoView}
use Rattle.pe_plan.proofs.Cited.{unwind_view, Unwinds, RuntimeFunction, UnwindInfo, IsChain, PlansFrom, PlansShort, most_records}
use Rattle.pe_plan.proofs.Chains.{one_more}
use Rattle.pe_plan.proofs.Endings.{no_record, follows_same}
use Rattle.pe_plan.proofs.Marks.{comes_to_refusal}
use Rattle.pe_plan.proofs.RecordLaw.{RecordLaw}
use Rattle.pe_plan.proofs.Walks.{counted}

-- one record more
pub chain_more : (t : Table) (b : List ℕ) (start : Option RuntimeFunction) (g : RuntimeFunction) (xs : List UnwindInfo) (x : UnwindInfo) (n : ℕ) → n < length xs →
    IsChain t b start (map unwind_view (take n xs)) (Some g) → Unwinds t b g.unwind_info_address (Ok (unwind_view x)) →
    IsChain t b start (map unwind_view (take (n + 1) (slice_set xs n x))) x.chained_info
chain_more t b start g xs x n lt chain unwinds = search (rules, arith, take_more_set, map_push, one_more)

-- the first record, which fills the array
pub chain_first : (t : Table) (b : List ℕ) (f : RuntimeFunction) (xs : List UnwindInfo) (x first : UnwindInfo) → length xs ≡ most_records → slice_index_or xs 0 x ≡ x → x ≡ first →
    Unwinds t b f.unwind_info_address (Ok (unwind_view first)) → IsChain t b (Some f) (map unwind_view (take 1 xs)) first.chained_info
chain_first t b f xs x first long at same u = grind (arith, take_more)

-- the first record cannot be read
pub refused_at_once : (t : Table) (b : List ℕ) (f : RuntimeFunction) (refusal : Refusal) → Unwinds t b f.unwind_info_address (Err refusal) → PlansShort t b f (Err refusal)
refused_at_once t b f refusal u = ([], f, omega arith, refl, u)

-- the chain comes to its root with the last record that there is room for
pub root_at_last : (t : Table) (b : List ℕ) (f : RuntimeFunction) (xs : List UnwindInfo) (n : ℕ) (o : Option RuntimeFunction) → length xs ≡ most_records → n ≡ most_records → o ≡ None →
    IsChain t b (Some f) (map unwind_view (take n xs)) o → PlansShort t b f (Ok (Some (map unwind_view (take 32 xs))))
root_at_last t b f xs n o long is none chain = grind (arith, length-map, length-take-le)

-- what refuses the records refuses the plan
pub plan_refused : (law : RecordLaw) (t : Table) (b : List ℕ) (f : RuntimeFunction) (refusal : Refusal) → PlansShort t b f (Err refusal) → PlansFrom t b f (Err refusal)
plan_refused law t b f refusal h =
    counted t b f refusal (comes_to_refusal law t b f h.1 h.0 refusal (h.1).unwind_info_address
    (record { chain = h.3; marked = h.1; front = h.0; around = []; to_marked = h.3; from_marked = refl; is_saved = refl }) h.4)

-- a chain to its root is longer than the records of it that are chained
longer : (law : RecordLaw) (t : Table) (b : List ℕ) (start : Option RuntimeFunction) (g : RuntimeFunction) (is js : List UnwindInfoView) →
    IsChain t b start is None → IsChain t b start js (Some g) → length js < length is
longer law t b start g [] [] p q = let clash : None ≡ Some g = sym p ∙ q in cc
longer law t b start g [] (j ∷ js) p q = absurd (no_record law t b start None (Some g) j js p tt q)
longer law t b None g (i ∷ is) js p q = absurd p
longer law t b (Some f) g (i ∷ is) [] p q = omega arith
longer law t b (Some f) g (i ∷ is) (j ∷ js) p q =
    omega (arith, longer law t b i.chained_info g is js p.1 (follows_same law t b f i j None is js (Some g) p q))

pub plan_longer : (law : RecordLaw) (t : Table) (b : List ℕ) (f : RuntimeFunction) (is : List UnwindInfoView) → PlansShort t b f (Ok None) → PlansFrom t b f (Ok is) → most_records < length is
plan_longer law t b f is h plan = omega (arith, h.2, longer law t b (Some f) h.1 is h.0 plan h.3)
