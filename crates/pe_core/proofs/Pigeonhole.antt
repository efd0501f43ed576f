-- More steps than there are keys: the steps never stop.
use Rattle.std.proofs.Common.{◌≡◌, ◌≢◌, ℕ, zero, suc, ◌+◌, ◌<◌, ◌≤◌, Bool, true, false, eqb, List, [], ◌∷◌, length, Option, Some, None, ◌⊎◌, inl, inr, ⊎_elim, option_and_then, ◌||◌, refl, ap, sym, ◌∙◌, subst, arith, add-one, IsSome}
use Rattle.std.specs.List.{IsDistinct, AllByRecursion, list_any}
use Rattle.std.proofs.lemmas.Bool.{cases_eq, false≢true}
use Rattle.std.proofs.lemmas.Map.Keys.{IsDistinct-cons}
use Rattle.std.proofs.lemmas.Map.Steps.{length-le_from_distinct_below}
use Rattle.std.proofs.lemmas.Bool.Decides.{nat_tests}
use Rattle.pe_core.specs.Chains.{after, NeverStops, FollowsKey, HasKeysBelow, KeyDecides}

-- exactly k steps, and then none
abbrev pub StopsAfter : {X : Type 0} → (X → Option X) → X → ℕ → Type 0
StopsAfter step x zero = step x ≡ None
StopsAfter {X} step x (suc k) = (y : X) × (step x ≡ Some y) × StopsAfter step y k

-- the keys of the states that have a next one
abbrev pub keys : {X : Type 0} (step : X → Option X) (key : X → ℕ) (x : X) (k : ℕ) → StopsAfter step x k → List ℕ
keys step key x zero s = []
keys step key x (suc k) s = key x ∷ keys step key s.0 k s.2

pub length-keys : {X : Type 0} (step : X → Option X) (key : X → ℕ) (x : X) (k : ℕ) (s : StopsAfter step x k) → length (keys step key x k s) ≡ k
length-keys step key x zero s = refl
length-keys step key x (suc k) s = omega (arith, length-keys step key s.0 k s.2)

-- steps stop in one way
pub stops_once : {X : Type 0} (step : X → Option X) (x : X) (j k : ℕ) → StopsAfter step x j → StopsAfter step x k → j ≡ k
stops_once step x zero zero s t = refl
stops_once step x zero (suc k) s t = cc (s, t.1)
stops_once step x (suc j) zero s t = cc (s.1, t)
stops_once {X} step x (suc j) (suc k) s t =
    let same : s.0 ≡ t.0 = cc (s.1, t.1) in
    ap suc (stops_once step t.0 j k (subst (λ (y : X). StopsAfter step y j) same s.2) t.2)

-- a state further from the end has another key
pub keys_apart : {X : Type 0} (step : X → Option X) (key : X → ℕ) → FollowsKey step key → (x y : X) (j k : ℕ) (s : StopsAfter step y j) → StopsAfter step x k → j < k → AllByRecursion (λ q. eqb (key x) q ≡ false) (keys step key y j s)
keys_apart step key follows x y zero k s t h = tt
keys_apart step key follows x y (suc j) zero s t h = absurd (omega arith)
keys_apart {X} step key follows x y (suc j) (suc k) s t h = (
  ⊎_elim
      (λ (same : key x ≡ key y).
      let next : t.0 ≡ s.0 = follows x y t.0 s.0 same t.1 s.1 in
      let equal : j ≡ k = stops_once step s.0 j k s.2 (subst (λ (z : X). StopsAfter step z k) next t.2) in
      absurd (omega arith))
      (λ (other : key x ≢ key y). grind (arith, nat_tests))
      (cases_eq (key x) (key y)),
  keys_apart step key follows x s.0 j (suc k) s.2 t (omega arith),
)

pub keys_distinct : {X : Type 0} (step : X → Option X) (key : X → ℕ) → FollowsKey step key → (x : X) (k : ℕ) (s : StopsAfter step x k) → IsDistinct eqb (keys step key x k s)
unfolding IsDistinct
keys_distinct step key follows x zero s = tt
keys_distinct step key follows x (suc k) s =
    IsDistinct-cons eqb (key x) (keys step key s.0 k s.2) (keys_apart step key follows x s.0 k (suc k) s.2 s (omega arith)) (keys_distinct step key follows s.0 k s.2)

pub or_second : (b c : Bool) → b ≡ false → (b || c) ≡ true → c ≡ true
or_second false c e h = h
or_second true c e h = absurd (false≢true (sym e))

pub keys_below : {X : Type 0} (step : X → Option X) (key : X → ℕ) (n : ℕ) → HasKeysBelow step key n → (x : X) (k : ℕ) (s : StopsAfter step x k) (q : ℕ) → list_any (eqb q) (keys step key x k s) ≡ true → q < n
keys_below step key n below x zero s q h = absurd (false≢true h)
keys_below step key n below x (suc k) s q h =
    ⊎_elim
    (λ (same : q ≡ key x). omega (arith, below x s.0 s.1))
    (λ (other : q ≢ key x). keys_below step key n below s.0 k s.2 q (or_second (eqb q (key x)) _ (grind (arith, nat_tests)) h))
    (cases_eq q (key x))

-- steps that stop are at most as many as there are keys
pub stops_within : {X : Type 0} (step : X → Option X) (key : X → ℕ) (n : ℕ) → FollowsKey step key → HasKeysBelow step key n → (x : X) (k : ℕ) → StopsAfter step x k → k ≤ n
stops_within step key n follows below x k s =
    omega (arith, length-keys step key x k s, length-le_from_distinct_below (keys step key x k s) n (keys_distinct step key follows x k s) (keys_below step key n below x k s))

-- either there are k steps, or fewer and then none
abbrev GoesOrStops : {X : Type 0} → (X → Option X) → ℕ → X → Type 0
GoesOrStops step k x = IsSome (after step k x) ⊎ ((j : ℕ) × (j < k) × StopsAfter step x j)

goes_or_stops_at : {X : Type 0} (step : X → Option X) (k : ℕ) (x : X) (o : Option X) → step x ≡ o → ((y : X) → GoesOrStops step k y) → GoesOrStops step (suc k) x
goes_or_stops_at step k x None e later = inr (0, omega arith, e)
goes_or_stops_at {X} step k x (Some y) e later =
    ⊎_elim
    (λ (h : IsSome (after step k y)). inl (rw e h))
    (λ (s : (j : ℕ) × (j < k) × StopsAfter step y j). inr (suc s.0, omega arith, (y, e, s.2)))
    (later y)

pub goes_or_stops : {X : Type 0} (step : X → Option X) (k : ℕ) (x : X) → GoesOrStops step k x
goes_or_stops step zero x = inl refl
goes_or_stops step (suc k) x = goes_or_stops_at step k x (step x) refl (goes_or_stops step k)

pub steps_le : {X : Type 0} (step : X → Option X) (j k : ℕ) (x : X) → StopsAfter step x j → IsSome (after step k x) → k ≤ j
steps_le step j zero x s h = omega arith
steps_le step zero (suc k) x s h = absurd (false≢true (rw s at h))
steps_le step (suc j) (suc k) x s h = omega (arith, steps_le step j k s.0 s.2 (rw s.1 at h))

-- more steps than keys never stop
pub never_stops : {X : Type 0} (step : X → Option X) (key : X → ℕ) (n : ℕ) → FollowsKey step key → HasKeysBelow step key n → (x : X) → IsSome (after step (suc n) x) → NeverStops step x
never_stops step key n follows below x more k =
    ⊎_elim (λ (h : IsSome (after step k x)). h)
    (λ (s : (j : ℕ) × (j < k) × StopsAfter step x j). absurd (omega (arith, stops_within step key n follows below x s.0 s.2, steps_le step s.0 (suc n) x s.2 more)))
    (goes_or_stops step k x)

-- one more step at the end
and_then_same : {X : Type 0} (o : Option X) → option_and_then (λ (x : X). Some x) o ≡ o
and_then_same None = refl
and_then_same (Some x) = refl

after_more_at : {X : Type 0} (step : X → Option X) (k : ℕ) (o : Option X) (y : X) → ((z : X) → after step k z ≡ Some y → after step (suc k) z ≡ step y) → option_and_then (after step k) o ≡ Some y → option_and_then (after step (suc k)) o ≡ step y
after_more_at step k None y later h = cc
after_more_at step k (Some z) y later h = later z h

pub after_more : {X : Type 0} (step : X → Option X) (k : ℕ) (x y : X) → after step k x ≡ Some y → after step (suc k) x ≡ step y
after_more step zero x y h =
    let same : x ≡ y = cc in and_then_same (step x) ∙ ap step same
after_more step (suc k) x y h = after_more_at step k (step x) y (λ z. after_more step k z y) h

-- what is left after some of the steps
pub stops_later : {X : Type 0} (step : X → Option X) (d j : ℕ) (x y : X) → StopsAfter step x j → after step d x ≡ Some y → (i : ℕ) × (d + i ≡ j) × StopsAfter step y i
stops_later {X} step zero j x y s h =
    let same : x ≡ y = cc in (j, omega arith, subst (λ (z : X). StopsAfter step z j) same s)
stops_later step (suc d) zero x y s h = absurd (let e = rw s at h in cc)
stops_later step (suc d) (suc j) x y s h =
    let rest = stops_later step d j s.0 y s.2 (rw s.1 at h) in
    (rest.0, omega (arith, rest.1), rest.2)

pub follows_from_decides : {X : Type 0} (step : X → Option X) (key : X → ℕ) → KeyDecides step key → FollowsKey step key
follows_from_decides step key decides x y a b same to_a to_b =
    let equal : step x ≡ step y = decides x y same in cc

pub stops_with_key : {X : Type 0} (step : X → Option X) (key : X → ℕ) → KeyDecides step key → (x y : X) (j : ℕ) → key x ≡ key y → StopsAfter step x j → StopsAfter step y j
stops_with_key step key decides x y zero same s = sym (decides x y same) ∙ s
stops_with_key step key decides x y (suc j) same s = (s.0, sym (decides x y same) ∙ s.1, s.2)

-- a key that comes again
never_ends : {X : Type 0} (step : X → Option X) (key : X → ℕ) → KeyDecides step key → (e x y : X) (i d j : ℕ) → after step i e ≡ Some x → after step (suc d) x ≡ Some y → key x ≡ key y → StopsAfter step e j → ⊥
never_ends step key decides e x y i d j to_x to_y same s =
    let at_x = stops_later step i j e x s to_x in
    let at_y = stops_later step (suc d) at_x.0 x y at_x.2 to_y in
    let again : at_x.0 ≡ at_y.0 = stops_once step y at_x.0 at_y.0 (stops_with_key step key decides x y at_x.0 same at_x.2) at_y.2 in
    omega (arith, again, at_y.1)

pub repeats : {X : Type 0} (step : X → Option X) (key : X → ℕ) → KeyDecides step key → (e x y : X) (i d : ℕ) → after step i e ≡ Some x → after step (suc d) x ≡ Some y → key x ≡ key y → NeverStops step e
repeats step key decides e x y i d to_x to_y same k =
    ⊎_elim (λ (h : IsSome (after step k e)). h)
    (λ (s : (j : ℕ) × (j < k) × StopsAfter step e j). absurd (never_ends step key decides e x y i d s.0 to_x to_y same s.2))
    (goes_or_stops step k e)

-- a state with no next one ends the steps
pub stops_at : {X : Type 0} (step : X → Option X) (k : ℕ) (x y : X) → after step k x ≡ Some y → step y ≡ None → NeverStops step x → ⊥
stops_at step k x y to none never = false≢true (rw (after_more step k x y to ∙ none) at (never (suc k)))

-- the same in the words of the laws
pub more_steps_than_keys : {X : Type 0} (step : X → Option X) (key : X → ℕ) (n : ℕ) (x : X) → FollowsKey step key → HasKeysBelow step key n → IsSome (after step (n + 1) x) → NeverStops step x
more_steps_than_keys {X} step key n x follows below more =
    never_stops step key n follows below x (subst (λ (m : ℕ). IsSome (after step m x)) (add-one n) more)

pub key_comes_again : {X : Type 0} (step : X → Option X) (key : X → ℕ) (x y z : X) (i d : ℕ) → KeyDecides step key → after step i x ≡ Some y → after step (d + 1) y ≡ Some z → key y ≡ key z → NeverStops step x
key_comes_again {X} step key x y z i d decides to_y to_z same =
    repeats step key decides x y z i d to_y (subst (λ (m : ℕ). after step m y ≡ Some z) (add-one d) to_z) same

-- the last state
pub last_state : {X : Type 0} (step : X → Option X) (j : ℕ) (x : X) → StopsAfter step x j → (y : X) × (after step j x ≡ Some y) × (step y ≡ None)
last_state step zero x s = (x, refl, s)
last_state step (suc j) x s =
    let (y, to, none) = last_state step j s.0 s.2 in
    (y, rw s.1 to, none)

-- steps come to one last state
stop_once_at : {X : Type 0} (step : X → Option X) (j k : ℕ) (o : Option X) (y z : X) → ((w : X) → after step j w ≡ Some y → after step k w ≡ Some z → y ≡ z) → option_and_then (after step j) o ≡ Some y → option_and_then (after step k) o ≡ Some z → y ≡ z
stop_once_at step j k None y z later h i = cc
stop_once_at step j k (Some w) y z later h i = later w h i

pub stop_once : {X : Type 0} (step : X → Option X) (j k : ℕ) (x y z : X) → step y ≡ None → step z ≡ None → after step j x ≡ Some y → after step k x ≡ Some z → y ≡ z
stop_once step zero zero x y z a b h i = cc
stop_once step zero (suc k) x y z a b h i =
    let same : x ≡ y = cc in
    let none : step x ≡ None = ap step same ∙ a in
    absurd (let e = rw none at i in cc)
stop_once step (suc j) zero x y z a b h i =
    let same : x ≡ z = cc in
    let none : step x ≡ None = ap step same ∙ b in
    absurd (let e = rw none at h in cc)
stop_once step (suc j) (suc k) x y z a b h i = stop_once_at step j k (step x) y z (λ w. stop_once step j k w y z a b) h i
