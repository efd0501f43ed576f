-- The plan of a function in an array: what is read so far is the start of the chain.
use Rattle.std.proofs.Common.{◌≡◌, ℕ, ◌<◌, ◌≤◌, List, length, map, take, Option, Some, None, Ok, Err, ◌∙◌, arith}
use Rattle.pe_plan.proofs.Cited.{length-map, length-take-le, Refusal, Table, unwind_view, Unwinds, RuntimeFunction, UnwindInfo, IsChain}
use Rattle.pe_plan.proofs.Cited.{PlansShort, PlansUpTo, most_records}

many_taken : (xs : List UnwindInfo) (n : ℕ) → n ≤ length xs → length (map unwind_view (take n xs)) ≡ n
many_taken xs n le = length-map (take n xs) unwind_view ∙ length-take-le n xs le

-- a record that cannot be read
pub refused_next : (most : ℕ) (t : Table) (b : List ℕ) (f g : RuntimeFunction) (xs : List UnwindInfo) (n : ℕ) (refusal : Refusal) → length xs ≡ most → n < most →
    IsChain t b (Some f) (map unwind_view (take n xs)) (Some g) → Unwinds t b g.unwind_info_address (Err refusal) → PlansUpTo most t b f (Err refusal)
refused_next most t b f g xs n refusal long lt chain unwinds = grind (arith, many_taken)

-- as many records as there is room for are each chained to another
pub full : (most : ℕ) (t : Table) (b : List ℕ) (f g : RuntimeFunction) (xs : List UnwindInfo) (n : ℕ) (o : Option RuntimeFunction) → length xs ≡ most → n ≡ most → o ≡ Some g →
    IsChain t b (Some f) (map unwind_view (take n xs)) o → PlansUpTo most t b f (Ok None)
full most t b f g xs n o long is some chain = grind (arith, many_taken)

pub short_refusal : (most : ℕ) (t : Table) (b : List ℕ) (f : RuntimeFunction) (refusal : Refusal) → most ≤ most_records → PlansUpTo most t b f (Err refusal) → PlansShort t b f (Err refusal)
short_refusal most t b f refusal le plan = (plan.0, plan.1, omega (arith, le, plan.2), plan.3, plan.4)
