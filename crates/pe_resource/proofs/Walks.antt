-- Where a walk has come to, and why an offset that comes again never ends.
use Rattle.std.proofs.Common.{◌≡◌, ℕ, suc, ◌+◌, ◌<◌, Bool, true, false, List, length, Option, Some, None, Result, Ok, Err, ◌↔◌, refl, ap, sym, ◌∙◌, subst, arith, add-one, is_some}
use Rattle.pe_resource.proofs.Cited.{cases_lt, nat_tests, other_value, after, KeyDecides, HasKeysBelow, Refusal, Memory, Short}
use Rattle.pe_resource.proofs.Cited.{ResourceCycle, follows_from_decides, never_stops, repeats, stops_at, after_more, ResourceEntry}
use Rattle.pe_resource.proofs.Cited.{directory_offset, first_at, step, decided, passed_on, passes, IsEndlessWalk, Decides, Walks}

pub offset_decides : (b : List ℕ) (p : ResourceEntry → Bool) → KeyDecides (passes b p) directory_offset
offset_decides b p x y same = ap (λ (q : ℕ). passed_on p (first_at b q)) same

past_end : (b : List ℕ) (q : ℕ) → length b < q + 16 → first_at b q ≡ Err Short
unfolding first_at
past_end b q h = grind (arith, nat_tests)

pub offsets_below : (b : List ℕ) (p : ResourceEntry → Bool) → HasKeysBelow (passes b p) directory_offset (length b)
offsets_below b p = grind (arith, past_end, cases_lt)

-- the walk has come to this entry, and the saved offset is that of an earlier one or its own
pub record WalkedTo (b : List ℕ) (p : ResourceEntry → Bool) (e : ResourceEntry) (k : ℕ) (current : ResourceEntry) (saved : ℕ) : Type 0 where
  pub reached : after (passes b p) k e ≡ Some current
  pub before : ℕ
  pub since : ℕ
  pub seen : ResourceEntry
  pub to_seen : after (passes b p) before e ≡ Some seen
  pub from_seen : after (passes b p) since seen ≡ Some current
  pub offset : directory_offset seen ≡ saved

-- what the step and the predicate say of the next entry
pub passes_next : (b : List ℕ) (p : ResourceEntry → Bool) (x w : ResourceEntry) → step b x ≡ Ok (Some w) → p w ≡ true → passes b p x ≡ Some w
passes_next b p x w is passed = ap (passed_on p) is ∙ rw passed refl

one_more : (b : List ℕ) (p : ResourceEntry → Bool) (x y w : ResourceEntry) (k : ℕ) → after (passes b p) k x ≡ Some y → passes b p y ≡ Some w → after (passes b p) (k + 1) x ≡ Some w
one_more b p x y w k to next = rw add-one (after_more (passes b p) k x y to ∙ next)

pub keeps_saved : (b : List ℕ) (p : ResourceEntry → Bool) (e : ResourceEntry) (k : ℕ) (x w : ResourceEntry) (saved offset : ℕ) → WalkedTo b p e k x saved → passes b p x ≡ Some w → offset ≡ saved → WalkedTo b p e (k + 1) w offset
keeps_saved b p e k x w saved offset h next is = record {
  reached = one_more b p e x w k h.reached next;
  before = h.before;
  since = h.since + 1;
  seen = h.seen;
  to_seen = h.to_seen;
  from_seen = one_more b p h.seen x w h.since h.from_seen next;
  offset = h.offset ∙ sym is;
}

pub moves_saved : (b : List ℕ) (p : ResourceEntry → Bool) (e : ResourceEntry) (k : ℕ) (x w : ResourceEntry) (saved offset : ℕ) → WalkedTo b p e k x saved → passes b p x ≡ Some w → offset ≡ directory_offset w → WalkedTo b p e (k + 1) w offset
moves_saved b p e k x w saved offset h next is = record {
  reached = one_more b p e x w k h.reached next;
  before = k + 1;
  since = 0;
  seen = w;
  to_seen = one_more b p e x w k h.reached next;
  from_seen = refl;
  offset = sym is;
}

pub comes_again : (b : List ℕ) (p : ResourceEntry → Bool) (e : ResourceEntry) (k : ℕ) (x w : ResourceEntry) (saved : ℕ) → WalkedTo b p e k x saved → passes b p x ≡ Some w → directory_offset w ≡ saved → IsEndlessWalk b p e
comes_again b p e k x w saved h next same =
    repeats (passes b p) directory_offset (offset_decides b p) e h.seen w h.before h.since h.to_seen
    (after_more (passes b p) h.since h.seen x h.from_seen ∙ next) (h.offset ∙ sym same)

pub too_long : (b : List ℕ) (p : ResourceEntry → Bool) (e : ResourceEntry) (k : ℕ) (x : ResourceEntry) (saved : ℕ) → WalkedTo b p e k x saved → k ≡ length b + 1 → IsEndlessWalk b p e
too_long b p e k x saved h same =
    let more : after (passes b p) (suc (length b)) e ≡ Some x = subst (λ (m : ℕ). after (passes b p) m e ≡ Some x) (same ∙ add-one (length b)) h.reached in
    never_stops (passes b p) directory_offset (length b) (follows_from_decides (passes b p) directory_offset (offset_decides b p)) (offsets_below b p) e (ap is_some more)

pub none_from_decided : (p : ResourceEntry → Bool) (w : ResourceEntry) (s : Result (Option ResourceEntry) Refusal) (r : Result ResourceEntry Refusal) → decided p w s ≡ Some r → passed_on p s ≡ None
none_from_decided p w s r h = grind arith

decided_ends : (b : List ℕ) (p : ResourceEntry → Bool) (e : ResourceEntry) (r : Result ResourceEntry Refusal) → Decides b p e r → IsEndlessWalk b p e → ⊥
decided_ends b p e r d never = stops_at (passes b p) d.0 e d.1 d.2 (none_from_decided p d.1 (step b d.1) r d.3) never

pub cycle_is_endless : (b : List ℕ) (p : ResourceEntry → Bool) (e : ResourceEntry) (r : Result ResourceEntry Refusal) → Walks b p e r → (r ≡ Err ResourceCycle) ↔ IsEndlessWalk b p e
cycle_is_endless b p e (Ok v) d = (λ same. cc, λ never. absurd (decided_ends b p e (Ok v) d never))
cycle_is_endless b p e (Err Short) d = (λ same. cc, λ never. absurd (decided_ends b p e (Err Short) d never))
cycle_is_endless b p e (Err ResourceCycle) d = (λ same. d, λ never. refl)
cycle_is_endless b p e (Err other) d = absurd d

-- a step is refused as short alone
pub only_short : (b : List ℕ) (q : ℕ) (e : Refusal) → first_at b q ≡ Err e → e ≡ Short
unfolding first_at
only_short b q e h = grind arith

pub no_memory_answer : {X : Type 0} (b : List ℕ) (x : ResourceEntry) (f : Refusal) → step b x ≡ Err f → Path (Result X Refusal) (Err f) (Err Memory) → ⊥
no_memory_answer b x f is e = let same : f ≡ Short = only_short b (directory_offset x) f is in let other : f ≡ Memory = cc in cc

pub walks_refusal : (b : List ℕ) (p : ResourceEntry → Bool) (e : ResourceEntry) (k : ℕ) (x : ResourceEntry) (saved : ℕ) (f : Refusal) → WalkedTo b p e k x saved → step b x ≡ Err f → Walks b p e (Err f)
walks_refusal b p e k x saved f h is = grind (arith, only_short)

pub decides_last : (b : List ℕ) (p : ResourceEntry → Bool) (e : ResourceEntry) (k : ℕ) (x : ResourceEntry) (saved : ℕ) → WalkedTo b p e k x saved → step b x ≡ Ok None → Decides b p e (Ok x)
decides_last b p e k x saved h is = (k, x, h.reached, ap (decided p x) is)

pub decides_failing : (b : List ℕ) (p : ResourceEntry → Bool) (e : ResourceEntry) (k : ℕ) (x w : ResourceEntry) (saved : ℕ) → WalkedTo b p e k x saved → step b x ≡ Ok (Some w) → p w ≡ false → Decides b p e (Ok w)
decides_failing b p e k x w saved h is failed = (k, x, h.reached, ap (decided p x) is ∙ rw failed refl)

-- the same of an answer that wraps the entry
pub given_no_cycle : (b : List ℕ) (p : ResourceEntry → Bool) (e v : ResourceEntry) → Walks b p e (Ok v) → Path (Result (Option ResourceEntry) Refusal) (Ok (Some v)) (Err ResourceCycle) ↔ IsEndlessWalk b p e
given_no_cycle b p e v d = (λ same. cc, λ never. absurd (decided_ends b p e (Ok v) d never))

pub refused_cycle : (b : List ℕ) (p : ResourceEntry → Bool) (e : ResourceEntry) (f : Refusal) → Walks b p e (Err f) → Path (Result (Option ResourceEntry) Refusal) (Err f) (Err ResourceCycle) ↔ IsEndlessWalk b p e
refused_cycle b p e f d = (
  λ same. (cycle_is_endless b p e (Err f) d).0 (other_value f ResourceCycle same),
  λ never. other_value f ResourceCycle ((cycle_is_endless b p e (Err f) d).1 never),
)
