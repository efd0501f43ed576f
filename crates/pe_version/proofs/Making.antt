-- What is made of its elements, one after the other.
use Rattle.std.proofs.Common.{◌≡◌, ℕ, ◌+◌, ◌<◌, ◌≤◌, Bool, true, false, List, [], ◌∷◌, ◌++◌, length, drop, get_or, Result, Ok, Err, refl, arith}
use Rattle.pe_version.proofs.Cited.{flat_map, append-nil, append_assoc, drop_all, drop_more, outcome, VersionRefusal, length_of}
use Rattle.pe_version.proofs.Cited.{each_made}

pub refused_by_length : (made : Result (List ℕ) VersionRefusal) (r : VersionRefusal) → length_of made ≡ Err r → made ≡ Err r
refused_by_length made r h = grind arith

-- the first elements are made, and these are left
pub record Made {X : Type 0} (tests : X → List (Bool × VersionRefusal)) (bytes : X → List ℕ) (done : List ℕ) (i : ℕ) (xs : List X) : Type 0 where
  pub is : outcome (flat_map tests (drop i xs)) (done ++ flat_map bytes (drop i xs)) ≡ each_made tests bytes xs

pub passes : (a b : List (Bool × VersionRefusal)) (x s y : List ℕ) → outcome a x ≡ Ok s → outcome (a ++ b) y ≡ outcome b y
passes [] b x s y h = refl
passes ((true, r) ∷ a) b x s y h = passes a b x s y h
passes ((false, r) ∷ a) b x s y h = absurd cc

pub value_same : (a : List (Bool × VersionRefusal)) (x s : List ℕ) → outcome a x ≡ Ok s → x ≡ s
value_same [] x s h = cc
value_same ((true, r) ∷ a) x s h = value_same a x s h
value_same ((false, r) ∷ a) x s h = absurd cc

pub stops : (a b : List (Bool × VersionRefusal)) (x y : List ℕ) (r : VersionRefusal) → outcome a x ≡ Err r → outcome (a ++ b) y ≡ Err r
stops [] b x y r h = absurd cc
stops ((true, q) ∷ a) b x y r h = stops a b x y r h
stops ((false, q) ∷ a) b x y r h = cc

pub one_made : {X : Type 0} (tests : X → List (Bool × VersionRefusal)) (bytes : X → List ℕ) (done s now : List ℕ) (i : ℕ) (xs : List X) (d : X) → i < length xs →
    outcome (tests (get_or xs i d)) (bytes (get_or xs i d)) ≡ Ok s → now ≡ done ++ s → Made tests bytes done i xs → Made tests bytes now (i + 1) xs
one_made tests bytes done s now i xs d h e f m = grind (arith, drop_more, value_same, append_assoc, passes)

pub one_refused : {X : Type 0} (tests : X → List (Bool × VersionRefusal)) (bytes : X → List ℕ) (done : List ℕ) (i : ℕ) (xs : List X) (d : X) (r : VersionRefusal) → i < length xs →
    outcome (tests (get_or xs i d)) (bytes (get_or xs i d)) ≡ Err r → Made tests bytes done i xs → each_made tests bytes xs ≡ Err r
one_refused {X} tests bytes done i xs d r h e m =
    let x : X = get_or xs i d in
    let rest : List X = drop (i + 1) xs in
    let here : drop i xs ≡ x ∷ rest = drop_more xs i d h in
    grind (arith, m.is, here, stops (tests x) (flat_map tests rest) (bytes x) (done ++ (bytes x ++ flat_map bytes rest)) r e)

pub all_made : {X : Type 0} (tests : X → List (Bool × VersionRefusal)) (bytes : X → List ℕ) (done : List ℕ) (i : ℕ) (xs : List X) → length xs ≤ i → Made tests bytes done i xs → each_made tests bytes xs ≡ Ok done
all_made tests bytes done i xs h m = grind (arith, drop_all, append-nil)
