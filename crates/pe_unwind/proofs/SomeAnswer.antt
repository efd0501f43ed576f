-- A chain of links has an answer, and so has the record at its end.
use Rattle.std.proofs.Common.{◌≡◌, ◌≢◌, ℕ, suc, ◌-◌, ◌%◌, ◌<◌, List, Option, Some, None, Result, Ok, Err, IsSome, ⊎_elim, refl, arith}
use Rattle.std.proofs.lemmas.Bool.{cases_eq}
use Rattle.std.proofs.lemmas.Bool.Decides.{nat_tests}
use Rattle.pe_core.proofs.Pigeonhole.{StopsAfter, goes_or_stops, last_state, never_stops}
use Rattle.pe_core.specs.Chains.{after}
use Rattle.pe_core.specs.Refusals.{Refusal, Unmapped, FunctionLink, FunctionCycle, ◌>>=◌}
use Rattle.pe_unwind.specs.Links.{Table, IsOdd, table_count, link_entry_at, link, next, address_of, Follows}
use Rattle.pe_unwind.specs.UnwindRecord.{UnwindInfoView}
use Rattle.pe_unwind.specs.Unwinding.{Unwinds, record_at_address}
use Rattle.pe_unwind.proofs.LinkChains.{endless-from_never_stops, follows_key, keys_below, key}

next-entry : (t : Table) (u p i : ℕ) → IsOdd u → t.offset (u - 1) ≡ Some p → link_entry_at t p ≡ Some i → next t u ≡ Some (address_of t i)
unfolding next link
next-entry t u p i odd is found = grind (arith, nat_tests)

abbrev Answered : Table → ℕ → Type 0
Answered t u = (r : Result ℕ Refusal) × Follows t u r

at_offset : (t : Table) (u k v p : ℕ) (o : Option ℕ) → after (next t) k u ≡ Some v → next t v ≡ None → IsOdd v → t.offset (v - 1) ≡ Some p → link_entry_at t p ≡ o → Answered t u
at_offset t u k v p None to none odd is found = (Err FunctionLink, (v, (k, to), odd, p, is, found))
at_offset t u k v p (Some i) to none odd is found = absurd (let more = next-entry t v p i odd is found in cc)

at_odd : (t : Table) (u k v : ℕ) (o : Option ℕ) → after (next t) k u ≡ Some v → next t v ≡ None → IsOdd v → t.offset (v - 1) ≡ o → Answered t u
at_odd t u k v None to none odd is = (Err Unmapped, (v, (k, to), odd, is))
at_odd t u k v (Some p) to none odd is = at_offset t u k v p (link_entry_at t p) to none odd is refl

at_last : (t : Table) (u k v : ℕ) → after (next t) k u ≡ Some v → next t v ≡ None → Answered t u
at_last t u k v to none =
    ⊎_elim (λ (even : v % 2 ≡ 0). (Ok v, ((k, to), even)))
    (λ (other : v % 2 ≢ 0). at_odd t u k v (t.offset (v - 1)) to none (omega (arith, other)) refl)
    (cases_eq (v % 2) 0)

pub some_answer : (t : Table) (u : ℕ) → (r : Result ℕ Refusal) × Follows t u r
some_answer t u =
    ⊎_elim
    (λ (more : IsSome (after (next t) (suc (table_count t)) u)).
    (Err FunctionCycle, endless-from_never_stops t u (never_stops (next t) (key t) (table_count t) (follows_key t) (keys_below t) u more)))
    (λ (stops : (j : ℕ) × (j < suc (table_count t)) × StopsAfter (next t) u j).
    let (v, to, none) = last_state (next t) stops.0 u stops.2 in at_last t u stops.0 v to none)
    (goes_or_stops (next t) (suc (table_count t)) u)

pub some_record : (t : Table) (b : List ℕ) (u : ℕ) → (x : Result UnwindInfoView Refusal) × Unwinds t b u x
some_record t b u = let (end, follows) = some_answer t u in (end >>= record_at_address t b, (end, follows, refl))
