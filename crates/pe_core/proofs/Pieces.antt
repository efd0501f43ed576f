-- The strings of a string table, one split off after the other.
use Rattle.std.proofs.Common.{◌≡◌, ℕ, zero, suc, ◌+◌, ◌<◌, ◌≤◌, Bool, true, false, cond, List, [], ◌∷◌, length, take, drop, Some, None, refl, ap, sym, ◌∙◌, arith}
use Rattle.std.specs.Prelude.{position, nat_lt, ◌==◌}
use Rattle.std.specs.List.{before_first, after_first, position_or_len}
use Rattle.std.specs.Str.{is_utf8}
use Rattle.std.proofs.lemmas.List.{drop_all, length-drop}
use Rattle.std.proofs.lemmas.Bool.Decides.{nat_tests}
use Rattle.pe_core.proofs.Texts.{before_first-found, before_first-missing}
use Rattle.pe_core.specs.Text.{text_of}
use Rattle.pe_core.specs.Strings.{pieces, in_front}

found : {X : Type 0} (n m : ℕ) (xs : List X) → cond (nat_lt n (length xs)) (Some n) None ≡ Some m → drop (m + 1) xs ≡ drop (n + 1) xs
found n m xs e = grind (arith, nat_tests)

missing : {X : Type 0} (n : ℕ) (xs : List X) → cond (nat_lt n (length xs)) (Some n) None ≡ None → [] ≡ drop (n + 1) xs
missing n xs e =
    let past : length xs ≤ n + 1 = grind (arith, nat_tests) in
    sym (drop_all (n + 1) xs past)

pub after_first-found : {X : Type 0} (p : X → Bool) (xs : List X) (n : ℕ) → position p xs ≡ Some n → drop (n + 1) xs ≡ after_first p xs
after_first-found p xs n e = found (position_or_len p xs) n xs e

pub after_first-missing : {X : Type 0} (p : X → Bool) (xs : List X) → position p xs ≡ None → [] ≡ after_first p xs
after_first-missing p xs e = missing (position_or_len p xs) xs e

pub ruleset cut_at_zero = (before_first-found, before_first-missing, after_first-found, after_first-missing)

front : (c n : ℕ) (xs : List ℕ) → in_front c (take n xs ∷ pieces (drop (n + 1) xs)) ≡ take (1 + n) (c ∷ xs) ∷ pieces (drop (1 + n + 1) (c ∷ xs))
front c n xs =
    let one : 1 + n ≡ suc n = omega arith in
    let two : suc n + 1 ≡ suc (n + 1) = omega arith in
    rw one (rw two refl)

-- the first piece, and the pieces after the zero that ends it
first_cons : (c : ℕ) (b : List ℕ) → pieces (c ∷ b) ≡ before_first (λ x. x == 0) (c ∷ b) ∷ pieces (after_first (λ x. x == 0) (c ∷ b))
unfolding pieces
first_cons zero b = refl
first_cons (suc c) [] =
    let other : (suc c == 0) ≡ false = grind (arith, nat_tests) in
    rw other refl
first_cons (suc c) (d ∷ b) =
    let other : (suc c == 0) ≡ false = grind (arith, nat_tests) in
    rw other (ap (in_front (suc c)) (first_cons d b) ∙ front (suc c) (position_or_len (λ x. x == 0) (d ∷ b)) (d ∷ b))

in_front-count : (c : ℕ) (ps : List (List ℕ)) → length (in_front c ps) ≤ length ps + 1
in_front-count c [] = omega arith
in_front-count c (p ∷ ps) = omega arith

count_step : (t : Bool) (n : ℕ) (xs ys : List (List ℕ)) → length xs ≤ n + 1 → length ys ≤ n + 1 → length (cond t xs ys) ≤ n + 1
count_step true n xs ys h k = h
count_step false n xs ys h k = k

-- no more pieces than bytes
pub pieces_count : (b : List ℕ) → length (pieces b) ≤ length b
unfolding pieces
pieces_count [] = omega arith
pieces_count (c ∷ b) =
    let before = pieces_count b in
    let counted = in_front-count c (pieces b) in
    let most = count_step (c == 0) (length b) ([] ∷ pieces b) (in_front c (pieces b)) (omega (arith, before)) (omega (arith, before, counted)) in
    omega (arith, most)

pub no_pieces : (b : List ℕ) → (length b == 0) ≡ true → pieces b ≡ []
unfolding pieces
no_pieces [] none = refl
no_pieces (c ∷ b) none = absurd (grind (arith, nat_tests))

-- a string more can be counted
pub room : (b rest : List ℕ) (count : ℕ) → count + length (pieces rest) ≡ length (pieces b) → false ≡ (length rest == 0) → count + 1 ≤ length b
room b [] count counted some = absurd (grind (arith, nat_tests))
room b (c ∷ rest) count counted some =
    let first = ap length (first_cons c rest) in
    let most = pieces_count b in
    omega (arith, counted, first, most)

pub pieces_first : (b : List ℕ) → 0 < length b → pieces b ≡ before_first (λ x. x == 0) b ∷ pieces (after_first (λ x. x == 0) b)
pieces_first [] some = absurd (omega arith)
pieces_first (c ∷ b) some = first_cons c b

-- what is after a zero is less
pub less_after : (b : List ℕ) → 0 < length b → length (after_first (λ x. x == 0) b) < length b
less_after b some = grind (arith, length-drop)

-- text of the first piece, or none
text_some : (t : Bool) (x y : List ℕ) → Some y ≡ cond t (Some x) None → (t ≡ true) × (y ≡ x)
text_some true x y e = (refl, cc)
text_some false x y e = cc

pub first_is_text : (x y : List ℕ) → Some y ≡ text_of x → (is_utf8 x ≡ true) × (y ≡ x)
first_is_text x y e = text_some (is_utf8 x) x y e

text_none : (t : Bool) (x : List ℕ) → None ≡ cond t (Some x) None → t ≡ false
text_none true x e = cc
text_none false x e = refl

pub first_is_none : (x : List ℕ) → None ≡ text_of x → is_utf8 x ≡ false
first_is_none x e = text_none (is_utf8 x) x e

pub ruleset first_piece = (pieces_first, less_after, first_is_text, first_is_none)
