-- The strings of a byte string, one by one.
use Rattle.std.proofs.Common.{◌≡◌, ◌≢◌, ℕ, zero, suc, ◌<◌, ◌≤◌, ◌==◌, true, List, [], ◌∷◌, length, drop, length-drop, Option, Some, None, Result, Ok, Err, if◌then◌else◌, refl, ap, sym, ◌∙◌, subst, arith}
use Rattle.pe_resource.proofs.Cited.{nat_tests, holds, Refusal, kind_of, Error, ResourceString, VersionString, string_view}
use Rattle.pe_resource.proofs.Cited.{version_string_at, whole_string_at, string_and_next, value_bytes, value_offset, ReturnsString}
use Rattle.pe_resource.proofs.Cited.{then_more, strings_in, strings, all_read}

abbrev Pair : Type 0
Pair = Option VersionString × ℕ

abbrev Items : Type 0
Items = List (Result VersionString Refusal)

pub string_read : (b : List ℕ) (s : VersionString) (q : ℕ) → version_string_at b 0 ≡ Ok (Some s, q) → (holds b (value_offset b 0) (value_bytes b 0) ≡ true) × (string_and_next b 0 ≡ (Some s, q))
unfolding whole_string_at
string_read b s q h = grind arith

-- a string ends after its start
pub further : (b : List ℕ) (s : VersionString) (q : ℕ) → version_string_at b 0 ≡ Ok (Some s, q) → 0 < q
unfolding string_and_next value_offset
further b s q h = grind (arith, string_read)

-- the bound on the bytes doesn't matter
agree_at : (f g : List ℕ → Items) (b : List ℕ) (r : Result Pair Refusal) → version_string_at b 0 ≡ r → ((q : ℕ) → 0 < q → f (drop q b) ≡ g (drop q b)) → then_more f b r ≡ then_more g b r
agree_at f g b (Err e) is h = refl
agree_at f g b (Ok (None, q)) is h = refl
agree_at f g b (Ok (Some s, q)) is h = ap (λ (xs : Items). Ok s ∷ xs) (h q (further b s q is))

agree : (n m : ℕ) (b : List ℕ) → length b ≤ n → length b ≤ m → strings_in n b ≡ strings_in m b
agree zero zero b h k = refl
agree zero (suc m) b h k = let test : (length b == 0) ≡ true = grind (arith, nat_tests) in rw test refl
agree (suc n) zero b h k = let test : (length b == 0) ≡ true = grind (arith, nat_tests) in rw test refl
agree (suc n) (suc m) b h k =
    ap (λ (xs : Items). if length b == 0 then [] else xs)
    (agree_at (strings_in n) (strings_in m) b (version_string_at b 0) refl (λ q some. agree n m (drop q b) (grind (arith, length-drop {A = ℕ})) (grind (arith, length-drop {A = ℕ}))))

-- the strings by the first one
pub strings_start : (b : List ℕ) → b ≢ [] → strings b ≡ then_more strings b (version_string_at b 0)
unfolding strings
strings_start [] ne = absurd (ne refl)
strings_start (x ∷ xs) ne = grind (arith, nat_tests, agree_at, agree, length-drop)

pub strings_more : (b left : List ℕ) (s : ResourceString) → ReturnsString b (Some (Ok s)) left → strings b ≡ Ok (string_view s) ∷ strings left
strings_more b left s h = strings_start b h.0 ∙ ap (then_more strings b) h.2 ∙ ap (λ (r : List ℕ). Ok (string_view s) ∷ strings r) (sym h.3)

pub strings_empty : strings [] ≡ []
unfolding strings
strings_empty = refl

pub strings_none : (b left : List ℕ) → ReturnsString b None left → strings b ≡ []
strings_none b left h = grind (arith, strings_empty, strings_start)

-- ---- passes over the strings

abbrev Item : Type 0
Item = Result ResourceString Error

pub reads_on : (b left : List ℕ) (item : Item) (s : ResourceString) (all : Result (Unit {0}) Refusal) → ReturnsString b (Some item) left → item ≡ Ok s → all_read (strings b) ≡ all → all_read (strings left) ≡ all
reads_on b left item s all h is e = sym (ap all_read (strings_more b left s (subst (λ (i : Item). ReturnsString b (Some i) left) is h))) ∙ e

pub reads_refusal : (b left : List ℕ) (item : Item) (r : Error) (all : Result (Unit {0}) Refusal) → ReturnsString b (Some item) left → item ≡ Err r → all_read (strings b) ≡ all → all ≡ Err (kind_of r)
reads_refusal b left item r all h is e = grind (arith, strings_start)

pub reads_all : (b left : List ℕ) (all : Result (Unit {0}) Refusal) → ReturnsString b None left → all_read (strings b) ≡ all → all ≡ Ok tt
reads_all b left all h e = sym e ∙ ap all_read (strings_none b left h)
