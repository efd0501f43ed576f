-- Lists of lookup entries that others start inside of.
use Rattle.std.proofs.Common.{◌≡◌, ℕ, zero, suc, ◌+◌, ◌-◌, ◌*◌, ◌/◌, ◌%◌, ◌<◌, ◌≤◌, Bool, true, false, List, length, Some, Ok, sym, ap, subst, ◌∙◌, arith, ⊎_elim}
use Rattle.std.proofs.lemmas.Bool.{cases_lt}
use Rattle.pe_core.specs.declared.many_lists.Entries.{Entries}
use Rattle.pe_core.specs.Bytes.{le, range}
use Rattle.pe_core.specs.Imports.{entry_size, lookups_at}
use Rattle.pe_core.specs.ImportSteps.{IsList}
use Rattle.pe_core.proofs.ImportLists.{EntriesRead, entries-start, entries-more, entries-done}

-- the entries from start up to end are not zero
pub record NoneIsZero (w : ℕ) (b : List ℕ) (start end : ℕ) : Type 0 where
  pub rises : start ≤ end
  pub before : (k : ℕ) → 0 < k → start + w * k ≤ end → 0 < le b (end - w * k) w

pub some_size : (is_64 : Bool) → 0 < entry_size is_64
some_size true = omega arith
some_size false = omega arith

pub none_so_far : (is_64 : Bool) (b : List ℕ) (start : ℕ) → NoneIsZero (entry_size is_64) b start start
none_so_far true b start = record { rises = omega arith; before = λ k some le. absurd (omega arith) }
none_so_far false b start = record { rises = omega arith; before = λ k some le. absurd (omega arith) }

step_before : (w : ℕ) (b : List ℕ) (start end k : ℕ) → 0 < w → NoneIsZero w b start end → 0 < le b end w → 0 < k → start + w * k ≤ end + w → 0 < le b (end + w - w * k) w
step_before w b start end zero size n here some room = absurd (omega arith)
step_before w b start end (suc k) size n here some room =
    let product : w * suc k ≡ w * k + w = omega arith in
    let same : end + w - w * suc k ≡ end - w * k = omega (arith, product) in
    ⊎_elim
    (λ (h : 0 < k). let old : 0 < le b (end - w * k) w = n.before k h (omega (arith, product, room)) in subst (λ p. 0 < le b p w) (sym same) old)
    (λ (h : k ≤ 0).
    let none : k ≡ 0 = omega (arith, h) in
    let first : end + w - w * suc k ≡ end = same ∙ ap (λ i. end - w * i) none ∙ (omega arith) in
    subst (λ p. 0 < le b p w) (sym first) here)
    (cases_lt 0 k)

pub none_yet : (is_64 : Bool) (b : List ℕ) (start end : ℕ) → NoneIsZero (entry_size is_64) b start end → 0 < le b end (entry_size is_64) → NoneIsZero (entry_size is_64) b start (end + entry_size is_64)
none_yet is_64 b start end n here = record {
  rises = omega (arith, n.rises);
  before = λ k some room. step_before (entry_size is_64) b start end k (some_size is_64) n here some room;
}

pub list_found : (is_64 : Bool) (b : List ℕ) (start end : ℕ) → NoneIsZero (entry_size is_64) b start end → end + entry_size is_64 ≤ length b → le b end (entry_size is_64) ≡ 0
    → IsList (entry_size is_64) b (record { start = start; end = end })
list_found is_64 b start end n inside last = record { inside = inside; last = last; before = n.before }

pub ruleset ends_found = (none_so_far, none_yet, list_found)

-- the first i entries from an offset inside of a list are read
inside_read : (w : ℕ) (b : List ℕ) (list : Entries) (p m i : ℕ) → 0 < w → IsList w b list → list.start ≤ p → list.end ≡ p + w * m → i ≤ m → EntriesRead w b p i
inside_read w b list p m zero size is above at few = entries-start w b p
inside_read w b list p m (suc i) size is above at few =
    let j : ℕ = m - i in
    let some : 0 < j = omega (arith, few) in
    let parts : m ≡ i + j = omega (arith, few) in
    let product : w * m ≡ w * i + w * j = ap (λ k. w * k) parts ∙ (omega arith) in
    let same : list.end - w * j ≡ p + w * i = omega (arith, at, product) in
    let here : 0 < le b (p + w * i) w = subst (λ q. 0 < le b q w) same (is.before j some (omega (arith, at, product, above))) in
    let next : suc i ≡ i + 1 = omega arith in
    let one : w ≤ w * j = let part : j ≡ 1 + (j - 1) = omega (arith, some) in omega (arith, ap (λ k. w * k) part) in
    subst (EntriesRead w b p) (sym next) (entries-more w b p i (inside_read w b list p m i size is above at (omega (arith, few))) size (omega (arith, at, product, one, is.inside)) here)

-- a number that an entry's size divides
whole_steps : (is_64 : Bool) (d : ℕ) → d % entry_size is_64 ≡ 0 → entry_size is_64 * (d / entry_size is_64) ≡ d
whole_steps true d whole = omega (arith, whole)
whole_steps false d whole = omega (arith, whole)

pub inside_list : (is_64 : Bool) (b : List ℕ) (list : Entries) (p : ℕ) → IsList (entry_size is_64) b list → list.start ≤ p → p ≤ list.end → (list.end - p) % entry_size is_64 ≡ 0
    → lookups_at (entry_size is_64) b (Some p) ≡ Ok (range b p (list.end - p))
inside_list is_64 b list p is above below whole =
    let w : ℕ = entry_size is_64 in
    let m : ℕ = (list.end - p) / w in
    let steps : w * m ≡ list.end - p = whole_steps is_64 (list.end - p) whole in
    let at : list.end ≡ p + w * m = omega (arith, steps, below) in
    entries-done w b p m (inside_read w b list p m m (some_size is_64) is above at (omega arith)) (omega (arith, at, is.inside)) (subst (λ q. le b q w ≡ 0) at is.last)
    ∙ ap (λ n. Ok (range b p n)) steps
