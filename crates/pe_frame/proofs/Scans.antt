-- Scans of a stack.
use Rattle.std.proofs.Common.{◌≡◌, ℕ, zero, suc, ◌+◌, ◌*◌, ◌<◌, ◌≤◌, ◌^◌, Bool, true, false, cond, nat_lt, IfSome, Option, Some, None, refl, ap, sym, ◌∙◌, subst, arith}
use Rattle.pe_frame.proofs.Cited.{nat_tests, option_map_or, IsFirstReturn, IsHighestCall, call_at, first_return, higher_call, highest_call}
use Rattle.pe_frame.proofs.Cited.{return_at, FoundCall}

-- no word that is too high is a return address
high_word : (memory returns : ℕ → Option ℕ) (a : ℕ) → 2 ^ 64 ≤ a + 8 → return_at memory returns a ≡ None
high_word memory returns a high = grind (arith, nat_lt, nat_tests)

-- none follows such a word
pub past_the_end : (n : ℕ) (memory returns : ℕ → Option ℕ) (a : ℕ) → 2 ^ 64 ≤ a + 8 → first_return n memory returns a ≡ None
unfolding first_return
past_the_end zero memory returns a high = refl
past_the_end (suc n) memory returns a high = grind (arith, high_word, past_the_end n memory returns (a + 8))

-- a word that is none is left out
pub next_word : (n k : ℕ) (memory returns : ℕ → Option ℕ) (a : ℕ) → n ≡ suc k → return_at memory returns a ≡ None → first_return n memory returns a ≡ first_return k memory returns (a + 8)
unfolding first_return
next_word n k memory returns a is none = rw (is, none) refl

-- one that is one ends the scan
pub this_word : (n k : ℕ) (memory returns : ℕ → Option ℕ) (a w : ℕ) → n ≡ suc k → return_at memory returns a ≡ Some w → first_return n memory returns a ≡ Some (a, w)
unfolding first_return
this_word n k memory returns a w is one = rw (is, one) refl

pub no_word : (n : ℕ) (memory returns : ℕ → Option ℕ) (a : ℕ) → n ≡ 0 → first_return n memory returns a ≡ None
unfolding first_return
no_word n memory returns a is = rw is refl

-- ---- the first

-- no word of those after one, nor that one
after_one : (memory returns : ℕ → Option ℕ) (start n : ℕ) → return_at memory returns start ≡ None → ((k : ℕ) → k < n → return_at memory returns (start + 8 + 8 * k) ≡ None) → (k : ℕ) → k < suc n → return_at memory returns (start + 8 * k) ≡ None
after_one memory returns start n e more zero less = grind arith
after_one memory returns start n e more (suc k) less =
    subst (λ (a : ℕ). return_at memory returns a ≡ None) (omega arith) (more k (omega (arith, less)))

same_pair : (p q : ℕ × ℕ) → Some p ≡ Some q → p ≡ q
same_pair p q e = cc

first_by : (o : Option ℕ) (n : ℕ) (memory returns : ℕ → Option ℕ) (start a w : ℕ) → return_at memory returns start ≡ o → option_map_or (λ v. Some (start, v)) o (first_return n memory returns (start + 8)) ≡ Some (a, w) → (first_return n memory returns (start + 8) ≡ Some (a, w) → IsFirstReturn n memory returns (start + 8) a w) → IsFirstReturn (suc n) memory returns start a w
first_by (Some v) n memory returns start a w e found more = grind (arith, same_pair)
first_by None n memory returns start a w e found more =
    let r = more found in
    record {
      index = suc r.index;
      within = omega (arith, r.within);
      at = omega (arith, r.at);
      is = r.is;
      first = after_one memory returns start r.index e r.first;
    }

pub first_found : (n : ℕ) (memory returns : ℕ → Option ℕ) (start a w : ℕ) → first_return n memory returns start ≡ Some (a, w) → IsFirstReturn n memory returns start a w
unfolding first_return
first_found zero memory returns start a w e = absurd (cc e)
first_found (suc n) memory returns start a w e = grind (arith, first_by, first_found n memory returns (start + 8) a w)

none_by : (o : Option ℕ) (n : ℕ) (memory returns : ℕ → Option ℕ) (start : ℕ) → return_at memory returns start ≡ o → option_map_or (λ v. Some (start, v)) o (first_return n memory returns (start + 8)) ≡ None → (first_return n memory returns (start + 8) ≡ None → (k : ℕ) → k < n → return_at memory returns (start + 8 + 8 * k) ≡ None) → (k : ℕ) → k < suc n → return_at memory returns (start + 8 * k) ≡ None
none_by (Some v) n memory returns start e found more = absurd (cc found)
none_by None n memory returns start e found more = after_one memory returns start n e (more found)

pub none_found : (n : ℕ) (memory returns : ℕ → Option ℕ) (start : ℕ) → first_return n memory returns start ≡ None → (k : ℕ) → k < n → return_at memory returns (start + 8 * k) ≡ None
unfolding first_return
none_found zero memory returns start e = λ k less. absurd (omega (arith, less))
none_found (suc n) memory returns start e = grind (arith, none_by, none_found n memory returns (start + 8))

-- ---- the call that leads highest

high_call : (memory targets : ℕ → Option ℕ) (a : ℕ) → 2 ^ 64 ≤ a + 8 → call_at memory targets a ≡ None
high_call memory targets a high = grind (arith, nat_lt, nat_tests)

-- no call follows a word that is too high
pub no_call_above : (n : ℕ) (memory targets : ℕ → Option ℕ) (a : ℕ) → 2 ^ 64 ≤ a + 8 → highest_call n memory targets a ≡ None
unfolding highest_call
no_call_above zero memory targets a high = refl
no_call_above (suc n) memory targets a high = grind (arith, high_call, no_call_above n memory targets (a + 8))

pub no_call_left : (n : ℕ) (memory targets : ℕ → Option ℕ) (a : ℕ) → n ≡ 0 → highest_call n memory targets a ≡ None
unfolding highest_call
no_call_left n memory targets a is = rw is refl

pub none_higher : (c : Option FoundCall) → higher_call c None ≡ c
none_higher c = grind arith

-- of three calls, in either order
by_tests : (c d e : FoundCall) (x y : Bool) → nat_lt c.target d.target ≡ x → nat_lt d.target e.target ≡ y → higher_call (Some c) (higher_call (Some d) (Some e)) ≡ higher_call (higher_call (Some c) (Some d)) (Some e)
by_tests c d e x y first second = grind (arith, nat_lt, nat_tests)

-- the highest so far, and that of the words that are left
pub next_call : (n k : ℕ) (memory targets : ℕ → Option ℕ) (a : ℕ) (o : Option FoundCall) → n ≡ suc k → higher_call (higher_call o (call_at memory targets a)) (highest_call k memory targets (a + 8)) ≡ higher_call o (highest_call n memory targets a)
unfolding highest_call
next_call n k memory targets a o is = grind (arith, none_higher, by_tests, nat_lt)

-- ---- what it is

-- a claim of each call that ends at n words from one on, and at the word before those
at_each : (P : FoundCall → Type 0) (memory targets : ℕ → Option ℕ) (start n : ℕ) → IfSome (call_at memory targets start) P → ((j : ℕ) → j < n → IfSome (call_at memory targets (start + 8 + 8 * j)) P) → (j : ℕ) → j < suc n → IfSome (call_at memory targets (start + 8 * j)) P
at_each P memory targets start n here more zero less = grind arith
at_each P memory targets start n here more (suc j) less =
    subst (λ (a : ℕ). IfSome (call_at memory targets a) P) (omega arith) (more j (omega (arith, less)))

of_none : (P : FoundCall → Type 0) (o : Option FoundCall) → o ≡ None → IfSome o P
of_none P o is = subst (λ (x : Option FoundCall). IfSome x P) (sym is) tt

of_some : (P : FoundCall → Type 0) (o : Option FoundCall) (c : FoundCall) → o ≡ Some c → P c → IfSome o P
of_some P o c is p = subst (λ (x : Option FoundCall). IfSome x P) (sym is) p

weaker : (P Q : FoundCall → Type 0) (o : Option FoundCall) → ((c : FoundCall) → P c → Q c) → IfSome o P → IfSome o Q
weaker P Q o less h = grind arith

one_of_two : (b : Bool) (c d : FoundCall) → cond b (Some d) (Some c) ≡ None → ⊥
one_of_two b c d is = grind arith

both_none : (o p : Option FoundCall) → higher_call o p ≡ None → (o ≡ None) × (p ≡ None)
both_none o p is = grind (arith, one_of_two, nat_lt)

none_of_all : (memory targets : ℕ → Option ℕ) (start n : ℕ) → call_at memory targets start ≡ None → ((j : ℕ) → j < n → call_at memory targets (start + 8 + 8 * j) ≡ None) → (j : ℕ) → j < suc n → call_at memory targets (start + 8 * j) ≡ None
none_of_all memory targets start n here more zero less = grind arith
none_of_all memory targets start n here more (suc j) less =
    subst (λ (a : ℕ). call_at memory targets a ≡ None) (omega arith) (more j (omega (arith, less)))

pub none_called : (n : ℕ) (memory targets : ℕ → Option ℕ) (start : ℕ) → highest_call n memory targets start ≡ None → (j : ℕ) → j < n → call_at memory targets (start + 8 * j) ≡ None
unfolding highest_call
none_called zero memory targets start is = λ j less. absurd (omega (arith, less))
none_called (suc n) memory targets start is =
    let parts = both_none (call_at memory targets start) (highest_call n memory targets (start + 8)) is in
    none_of_all memory targets start n parts.0 (none_called n memory targets (start + 8) parts.1)

-- the call of the first word
first_is : (memory targets : ℕ → Option ℕ) (start n : ℕ) (c d : FoundCall) → call_at memory targets start ≡ Some d → d ≡ c → ((j : ℕ) → j < n → IfSome (call_at memory targets (start + 8 + 8 * j)) (λ e. e.target ≤ d.target)) → IsHighestCall (suc n) memory targets start c
first_is memory targets start n c d here same more =
    let this : call_at memory targets start ≡ Some c = here ∙ ap (λ (x : FoundCall). Some x) same in
    let below : (j : ℕ) → j < n → IfSome (call_at memory targets (start + 8 + 8 * j)) (λ e. e.target ≤ c.target) = λ j less. subst (λ (x : FoundCall). IfSome (call_at memory targets (start + 8 + 8 * j)) (λ e. e.target ≤ x.target)) same (more j less) in
    record {
      index = 0;
      within = omega arith;
      is = subst (λ (a : ℕ). call_at memory targets a ≡ Some c) (omega arith) this;
      before = λ j less. absurd (omega (arith, less));
      highest = at_each (λ e. e.target ≤ c.target) memory targets start n (of_some (λ e. e.target ≤ c.target) (call_at memory targets start) c this (omega arith)) below;
    }

-- that of one after it
later_is : (memory targets : ℕ → Option ℕ) (start n : ℕ) (c : FoundCall) → IfSome (call_at memory targets start) (λ d. d.target < c.target) → IsHighestCall n memory targets (start + 8) c → IsHighestCall (suc n) memory targets start c
later_is memory targets start n c here r =
    record {
      index = suc r.index;
      within = omega (arith, r.within);
      is = subst (λ (a : ℕ). call_at memory targets a ≡ Some c) (omega arith) r.is;
      before = at_each (λ d. d.target < c.target) memory targets start r.index here r.before;
      highest = at_each (λ d. d.target ≤ c.target) memory targets start n (weaker (λ d. d.target < c.target) (λ d. d.target ≤ c.target) (call_at memory targets start) (λ d less. omega (arith, less)) here) r.highest;
    }

found_by_test : (memory targets : ℕ → Option ℕ) (start n : ℕ) (c d e : FoundCall) (b : Bool) → nat_lt d.target e.target ≡ b → call_at memory targets start ≡ Some d → cond b (Some e) (Some d) ≡ Some c → IsHighestCall n memory targets (start + 8) e → IsHighestCall (suc n) memory targets start c
found_by_test memory targets start n c d e true test here is r = grind (arith, nat_tests, later_is, of_some)
found_by_test memory targets start n c d e false test here is r = grind (arith, nat_tests, first_is, weaker)

found_by : (memory targets : ℕ → Option ℕ) (start n : ℕ) (c : FoundCall) (o p : Option FoundCall) → call_at memory targets start ≡ o → highest_call n memory targets (start + 8) ≡ p → higher_call o p ≡ Some c → ((e : FoundCall) → highest_call n memory targets (start + 8) ≡ Some e → IsHighestCall n memory targets (start + 8) e) → IsHighestCall (suc n) memory targets start c
found_by memory targets start n c None p here rest is more = grind (arith, later_is, of_none)
found_by memory targets start n c (Some d) None here rest is more = grind (arith, first_is, of_none, none_called)
found_by memory targets start n c (Some d) (Some e) here rest is more = grind (arith, found_by_test, nat_lt)

pub highest_found : (n : ℕ) (memory targets : ℕ → Option ℕ) (start : ℕ) (c : FoundCall) → highest_call n memory targets start ≡ Some c → IsHighestCall n memory targets start c
unfolding highest_call
highest_found zero memory targets start c is = absurd (cc is)
highest_found (suc n) memory targets start c is = grind (arith, found_by, highest_found n memory targets (start + 8))
