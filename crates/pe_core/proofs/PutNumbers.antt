-- A number that is put at an offset is read there again.
use Rattle.std.proofs.Common.{◌≡◌, ℕ, zero, suc, ◌+◌, ◌/◌, ◌%◌, ◌^◌, ◌<◌, ◌≤◌, true, List, [], ◌∷◌, ◌++◌, length, take, drop, ◌∙◌, arith, append_assoc, length-append}
use Rattle.std.specs.Prelude.{slice_index}
use Rattle.std.proofs.Math.Nat.{pow-suc}
use Rattle.std.proofs.lemmas.Bool.Decides.{nat_tests}
use Rattle.std.proofs.lemmas.List.{places, length-take-le}
use Rattle.pe_core.proofs.NumberBytes.{le-zero, le-cons}
use Rattle.pe_core.proofs.Splices.{length-bytes_of}
use Rattle.pe_core.specs.Bytes.{le, bytes_of, holds, put, splice}

byte_after : (front : List ℕ) (x : ℕ) (rest : List ℕ) (p : ℕ) → length front ≡ p → slice_index (front ++ x ∷ rest) p ≡ x
byte_after front x rest p e = grind (arith, places)

-- the number after what stands before it
pub le-after : (n number : ℕ) (front rest : List ℕ) (p : ℕ) → length front ≡ p → number < 256 ^ n → le (front ++ (bytes_of n number ++ rest)) p n ≡ number
unfolding bytes_of
le-after zero number front rest p e small = le-zero _ p ∙ omega arith
le-after (suc n) number front rest p e small =
    let x = number % 256 in
    let after = bytes_of n (number / 256) ++ rest in
    let below : number / 256 < 256 ^ n = omega (arith, pow-suc 256 n) in
    let moved : (front ++ x ∷ []) ++ after ≡ front ++ x ∷ after = append_assoc front (x ∷ []) after in
    let count : length (front ++ x ∷ []) ≡ suc p = omega (arith, length-append front (x ∷ [])) in
    let others : le ((front ++ x ∷ []) ++ after) (suc p) n ≡ number / 256 = le-after n (number / 256) (front ++ x ∷ []) rest (suc p) count below in
    let same : le (front ++ x ∷ after) (suc p) n ≡ number / 256 = rw moved at others in
    let first : slice_index (front ++ x ∷ after) p ≡ x = byte_after front x after p e in
    omega (arith, le-cons (front ++ x ∷ after) p n, same, first)

pub le-put : (b : List ℕ) (p n number : ℕ) → p + n ≤ length b → number < 256 ^ n → le (put b p (bytes_of n number)) p n ≡ number
unfolding splice
le-put b p n number h small =
    let fits : holds b p (length (bytes_of n number)) ≡ true = rw (length-bytes_of n number) (grind (arith, nat_tests)) in
    let front : length (take p b) ≡ p = length-take-le p b (omega arith) in
    rw fits (le-after n number (take p b) (drop (p + length (bytes_of n number)) b) p front small)

pub ruleset numbers = (le-put)
