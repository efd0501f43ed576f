-- A chain with more links than entries never ends.
use Rattle.std.proofs.Common.{◌≡◌, ◌≢◌, ℕ, suc, ◌+◌, ◌-◌, ◌*◌, ◌/◌, ◌%◌, ◌<◌, ◌≤◌, Bool, true, List, [], ◌∷◌, cond, ◌||◌, ◌==◌, Option, Some, None, Result, Ok, Err, ◌↔◌, refl, ap, sym, ◌∙◌, subst, arith, add-one, IsSome, IsSomeAnd, is_some, unwrap_or}
use Rattle.std.proofs.lemmas.Bool.{false≢true}
use Rattle.std.proofs.lemmas.Bool.Decides.{nat_tests}
use Rattle.std.proofs.lemmas.Option.{option_and_then_some, cond_some}
use Rattle.pe_core.proofs.Steps.{other_value}
use Rattle.pe_core.specs.Refusals.{Refusal, Memory, Short, UnwindVersion, Unmapped, FunctionLink, FunctionCycle, outcome, ◌>>=◌}
use Rattle.pe_core.specs.Chains.{after, NeverStops, FollowsKey, HasKeysBelow, KeyDecides}
use Rattle.pe_core.proofs.Pigeonhole.{never_stops, repeats, after_more}
use Rattle.pe_unwind.specs.FunctionTable.{Finds, function_at, functions}
use Rattle.pe_core.specs.Bytes.{holds}
use Rattle.pe_unwind.specs.UnwindRecord.{UnwindInfoView, unwind_tests, unwind_record, ending_holds, after_codes, flags_at, version_at, count_at}
use Rattle.pe_core.specs.declared.options.ParseOptions.{ParseOptions}
use Rattle.pe_core.specs.declared.section_table.SectionTable.{SectionTable}
use Rattle.pe_unwind.specs.declared.function_table.RuntimeFunction.{RuntimeFunction}
use Rattle.pe_unwind.specs.ExceptionTable.{ExceptionView, table_of}
use Rattle.pe_unwind.specs.Unwinding.{Unwinds, UnwindsFound, UnwindsAt, record_at_offset, record_at_address}
use Rattle.pe_unwind.specs.Links.{Table, IsOdd, table_count, link_entry_at, link, next, address_of, IsEndless, Follows, links_of}

pub next_ok : (t : Table) (u p : ℕ) → u % 2 ≡ 1 → t.offset (u - 1) ≡ Some p → t.start ≤ p → (p - t.start) % 12 ≡ 0 → (p - t.start) / 12 < table_count t → next t u ≡ Some ((function_at t.entries (p - t.start)).unwind_info_address)
unfolding next link link_entry_at
next_ok t u p odd is from whole inside = grind (arith, nat_tests)

pub next-unmapped : (t : Table) (u : ℕ) → IsOdd u → t.offset (u - 1) ≡ None → next t u ≡ None
unfolding next link
next-unmapped t u odd none = grind (arith, nat_tests)

pub next-no_entry : (t : Table) (u p : ℕ) → IsOdd u → t.offset (u - 1) ≡ Some p → link_entry_at t p ≡ None → next t u ≡ None
unfolding next link
next-no_entry t u p odd is none = grind (arith, nat_tests)

-- the entry that an address leads to, or 0
pub key : Table → ℕ → ℕ
key t u = unwrap_or (link t u) 0

next_some : (t : Table) (u a : ℕ) → next t u ≡ Some a → (link t u ≡ Some (key t u)) × (a ≡ address_of t (key t u))
unfolding next key
next_some t u a h = grind arith

cond_of_some : (b : Bool) (o : Option ℕ) (y : ℕ) → cond b o None ≡ Some y → (b ≡ true) × (o ≡ Some y)
cond_of_some b o y h = grind arith

entry_some : (t : Table) (p i : ℕ) → link_entry_at t p ≡ Some i → i < table_count t
unfolding link_entry_at
entry_some t p i h = grind (arith, cond_some, nat_tests)

link_some : (t : Table) (u i : ℕ) → link t u ≡ Some i → IsOdd u × (i < table_count t)
unfolding link
link_some t u i h = grind (arith, cond_of_some, nat_tests, option_and_then_some, entry_some)

pub follows_key : (t : Table) → FollowsKey (next t) (key t)
follows_key t = grind (arith, next_some)

pub keys_below : (t : Table) → HasKeysBelow (next t) (key t) (table_count t)
keys_below t x a to = (link_some t x (key t x) (next_some t x a to).0).1

odd_at : (t : Table) (u : ℕ) (o : Option ℕ) → next t u ≡ o → IsSome o → IsOdd u
odd_at t u o e h = grind (arith, false≢true, link_some, key, next_some)

endless_at : (t : Table) (u k : ℕ) (o : Option ℕ) → after (next t) k u ≡ o → IsSome o → NeverStops (next t) u → IsSomeAnd o IsOdd
endless_at t u k None e h never = absurd (false≢true h)
endless_at t u k (Some v) e h never =
    odd_at t v (next t v) refl (rw (after_more (next t) k u v e) at (never (suc k)))

pub endless-from_never_stops : (t : Table) (u : ℕ) → NeverStops (next t) u → IsEndless t u
endless-from_never_stops t u never k = endless_at t u k (after (next t) k u) refl (never k) never

-- more links than entries
pub cycles : (t : Table) (u v : ℕ) → after (next t) (table_count t + 1) u ≡ Some v → IsEndless t u
cycles t u v h =
    let more : after (next t) (suc (table_count t)) u ≡ Some v = subst (λ (m : ℕ). after (next t) m u ≡ Some v) (add-one (table_count t)) h in
    endless-from_never_stops t u (never_stops (next t) (key t) (table_count t) (follows_key t) (keys_below t) u (ap is_some more))

stops_at : (t : Table) (u k v : ℕ) → after (next t) k u ≡ Some v → next t v ≡ None → IsEndless t u → ⊥
stops_at t u k v is none endless = rw (after_more (next t) k u v is ∙ none) at (endless (suc k))

-- a cycle is refused exactly where the chain is endless
pub cycle_is_endless : (t : Table) (u : ℕ) (r : Result ℕ Refusal) → Follows t u r → (r ≡ Err FunctionCycle) ↔ IsEndless t u
cycle_is_endless t u (Ok v) f = (λ e. cc, λ endless. absurd (let odd = rw f.0.1 at (endless f.0.0) in omega (arith, odd, f.1)))
cycle_is_endless t u (Err Unmapped) f = (λ e. cc, λ endless. absurd (stops_at t u f.1.0 f.0 f.1.1 (next-unmapped t f.0 f.2 f.3) endless))
cycle_is_endless t u (Err FunctionLink) f = (λ e. cc, λ endless. absurd (stops_at t u f.1.0 f.0 f.1.1 (next-no_entry t f.0 f.3 f.2 f.4 f.5) endless))
cycle_is_endless t u (Err FunctionCycle) f = (λ e. f, λ endless. refl)
cycle_is_endless t u (Err other) f = absurd f

-- the chain has come to this address after so many links, and to the saved one before or now
pub record FollowedTo (t : Table) (u links current saved : ℕ) : Type 0 where
  pub reached : after (next t) links u ≡ Some current
  pub before : ℕ
  pub since : ℕ
  pub to_saved : after (next t) before u ≡ Some saved
  pub from_saved : after (next t) since saved ≡ Some current

one_more : (t : Table) (u k v w : ℕ) → after (next t) k u ≡ Some v → next t v ≡ Some w → after (next t) (k + 1) u ≡ Some w
one_more t u k v w is to = rw add-one (after_more (next t) k u v is ∙ to)

-- one more link, by which the saved address stays
pub keeps_saved : (t : Table) (u k v w saved same : ℕ) → FollowedTo t u k v saved → next t v ≡ Some w → same ≡ saved → FollowedTo t u (k + 1) w same
keeps_saved t u k v w saved same h to is = record {
  reached = one_more t u k v w h.reached to;
  before = h.before;
  since = h.since + 1;
  to_saved = rw is h.to_saved;
  from_saved = rw is (one_more t saved h.since v w h.from_saved to);
}

-- and one by which it moves
pub moves_saved : (t : Table) (u k v w saved moved : ℕ) → FollowedTo t u k v saved → next t v ≡ Some w → moved ≡ w → FollowedTo t u (k + 1) w moved
moves_saved t u k v w saved moved h to is = record {
  reached = one_more t u k v w h.reached to;
  before = k + 1;
  since = 0;
  to_saved = rw is (one_more t u k v w h.reached to);
  from_saved = ap (λ (x : ℕ). Some x) is;
}

address_decides : (t : Table) → KeyDecides (next t) (λ u. u)
address_decides t x y same = ap (next t) same

-- the saved address comes again
pub comes_again : (t : Table) (u k v w saved : ℕ) → FollowedTo t u k v saved → next t v ≡ Some w → w ≡ saved → IsEndless t u
comes_again t u k v w saved h to same =
    endless-from_never_stops t u
    (repeats (next t) (λ x. x) (address_decides t) u saved w h.before h.since h.to_saved (after_more (next t) h.since saved v h.from_saved ∙ to) (sym same))

-- more links than entries were followed
pub too_long : (t : Table) (u k v saved : ℕ) → FollowedTo t u k v saved → k ≡ table_count t + 1 → IsEndless t u
too_long t u k v saved h same = cycles t u v (subst (λ (m : ℕ). after (next t) m u ≡ Some v) same h.reached)

-- a record is refused as one of these
abbrev IsRecordRefusal : Refusal → Type 0
IsRecordRefusal Short = Unit {0}
IsRecordRefusal UnwindVersion = Unit {0}
IsRecordRefusal Unmapped = Unit {0}
IsRecordRefusal other = ⊥

refused_as : {Y : Type 0} (j k : Refusal) → IsRecordRefusal j → Path (Result Y Refusal) (Err j) (Err k) → IsRecordRefusal k
refused_as j k is h = let same : j ≡ k = cc in subst IsRecordRefusal same is

five_tests : {Y : Type 0} (a b c d e : Bool) (y : Y) (k : Refusal) → outcome ((a, Short) ∷ (b, UnwindVersion) ∷ (c, Short) ∷ (d, Short) ∷ (e, Short) ∷ []) y ≡ Err k → IsRecordRefusal k
five_tests a b c d e y k h = grind (arith, refused_as)

record_refusal : (b : List ℕ) (o : Option ℕ) (k : Refusal) → record_at_offset b o ≡ Err k → IsRecordRefusal k
unfolding unwind_tests
record_refusal b None k h = refused_as Unmapped k tt h
record_refusal b (Some p) k h = five_tests (holds b p 1) (version_at b p == 1 || version_at b p == 2) (holds b p 4) (holds b (p + 4) (2 * count_at b p)) (ending_holds b (after_codes b p) (flags_at b p)) (unwind_record b p) k h

cycle_at_end : (t : Table) (b : List ℕ) (u : ℕ) (end : Result ℕ Refusal) → Follows t u end → ((end >>= record_at_address t b) ≡ Err FunctionCycle) ↔ IsEndless t u
cycle_at_end t b u (Ok v) f = (λ e. absurd (record_refusal b (t.offset v) FunctionCycle e), λ endless. absurd (let e = (cycle_is_endless t u (Ok v) f).1 endless in cc))
cycle_at_end t b u (Err k) f = (
  λ e. (cycle_is_endless t u (Err k) f).0 (other_value k FunctionCycle e),
  λ endless. other_value k FunctionCycle ((cycle_is_endless t u (Err k) f).1 endless),
)

-- the call is refused as a cycle exactly where the chain is endless
pub unwinds_cycle : (t : Table) (b : List ℕ) (u : ℕ) (answer : Result UnwindInfoView Refusal) → Unwinds t b u answer → (answer ≡ Err FunctionCycle) ↔ IsEndless t u
unwinds_cycle t b u answer w = rw w.2 (cycle_at_end t b u w.0 w.1)

no_memory_at_end : (t : Table) (b : List ℕ) (u : ℕ) (end : Result ℕ Refusal) → Follows t u end → (end >>= record_at_address t b) ≡ Err Memory → ⊥
no_memory_at_end t b u (Ok v) f e = absurd (record_refusal b (t.offset v) Memory e)
no_memory_at_end t b u (Err Unmapped) f e = cc
no_memory_at_end t b u (Err FunctionLink) f e = cc
no_memory_at_end t b u (Err FunctionCycle) f e = cc
no_memory_at_end t b u (Err other) f e = absurd f

-- and it never returns an allocation failure
pub unwinds_no_memory : (t : Table) (b : List ℕ) (u : ℕ) → Unwinds t b u (Err Memory) → ⊥
unwinds_no_memory t b u w = no_memory_at_end t b u w.0 w.1 (sym w.2)

-- the same of the function that lookup found
cycle_found : (t : Table) (b : List ℕ) (found : Option RuntimeFunction) (answer : Result (Option UnwindInfoView) Refusal) → UnwindsFound t b found answer → (answer ≡ Err FunctionCycle) ↔ IsSomeAnd found (λ f. IsEndless t f.unwind_info_address)
cycle_found t b None answer w = (λ e. absurd (let same : Path (Result (Option UnwindInfoView) Refusal) (Ok None) (Err FunctionCycle) = sym w ∙ e in cc), λ h. absurd h)
cycle_found t b (Some f) (Ok None) w = absurd w
cycle_found t b (Some f) (Ok (Some i)) w = (λ e. absurd (let same : Path (Result (Option UnwindInfoView) Refusal) (Ok (Some i)) (Err FunctionCycle) = e in cc), λ endless. absurd (let same = (unwinds_cycle t b f.unwind_info_address (Ok i) w).1 endless in cc))
cycle_found t b (Some f) (Err k) w = (
  λ e. (unwinds_cycle t b f.unwind_info_address (Err k) w).0 (other_value k FunctionCycle e),
  λ endless. other_value k FunctionCycle ((unwinds_cycle t b f.unwind_info_address (Err k) w).1 endless),
)

pub unwinds_at_code : (v : ExceptionView) (sections : List SectionTable) (opts : ParseOptions) (a : ℕ) (found : Option RuntimeFunction) (answer : Result (Option UnwindInfoView) Refusal) → Finds (functions (table_of v)) a found → UnwindsFound (links_of v sections opts) v.content found answer → UnwindsAt v sections opts a answer
unwinds_at_code v sections opts a found answer finds unwinds = grind (arith, cycle_found)

-- RVAs where no entry stands
pub no_entry-before : (t : Table) (p : ℕ) → p < t.start → link_entry_at t p ≡ None
unfolding link_entry_at
no_entry-before t p h = grind (arith, nat_tests)

pub no_entry-inside : (t : Table) (p : ℕ) → (p - t.start) % 12 ≢ 0 → link_entry_at t p ≡ None
unfolding link_entry_at
no_entry-inside t p h = grind (arith, nat_tests)

pub no_entry-after : (t : Table) (p : ℕ) → table_count t ≤ (p - t.start) / 12 → link_entry_at t p ≡ None
unfolding link_entry_at
no_entry-after t p h = grind (arith, nat_tests)
