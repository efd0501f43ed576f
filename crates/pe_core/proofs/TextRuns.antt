-- The texts at the offsets that have one zero after them.
use Rattle.std.proofs.Common.{◌≡◌, ℕ, ◌+◌, ◌-◌, ◌≤◌, ◌<◌, cond, List, ◌++◌, map, length, take, drop, Option, Some, None, refl, sym, ap, arith, ◌∙◌, inl, inr, eq-zero-or-pos}
use Rattle.std.specs.Prelude.{position, nat_le, ◌==◌}
use Rattle.std.proofs.lemmas.List.{length-drop, length-take-le, drop-drop, drop-take, take_rest, take-append-drop, map-append}
use Rattle.std.proofs.lemmas.List.Quantifiers.{position-Some}
use Rattle.std.proofs.lemmas.Bool.Decides.{nat_tests}
use Rattle.pe_core.specs.Text.{text_of, text_to_zero, text_at}
use Rattle.pe_core.specs.TextRuns.{IsLastText, last_of}
use Rattle.pe_core.proofs.Texts.{zero_found, zero_missing}
use Rattle.pe_core.proofs.TextEnds.{text_of-other}
use Rattle.pe_core.proofs.FirstZero.{position-drop, position-drop-none}

many : (n m : ℕ) (o : Option (List ℕ)) → m < n → cond (nat_le n m) o None ≡ None
many n m o lt = grind (arith, nat_tests)

few : (n m : ℕ) (o : Option (List ℕ)) → n ≤ m → cond (nat_le n m) o None ≡ o
few n m o le = grind (arith, nat_tests)

too_long : (text : List ℕ) (n : ℕ) → length text < n → last_of (Some text) n ≡ None
unfolding last_of
too_long text n lt = many n (length text) (text_of (drop (length text - n) text)) lt

short_enough : (text : List ℕ) (n k : ℕ) → n + k ≡ length text → last_of (Some text) n ≡ text_of (drop k text)
unfolding last_of
short_enough text n k e =
    few n (length text) (text_of (drop (length text - n) text)) (omega arith)
    ∙ (let is : length text - n ≡ k = omega arith in ap (λ i. text_of (drop i text)) is)

-- an end of the bytes is text where it is an end of the longest that is
pub end_of_last : (bs text : List ℕ) (d n : ℕ) → IsLastText bs text → d + n ≡ length bs → text_of (drop d bs) ≡ last_of (Some text) n
end_of_last bs text d n last e =
    let len : length text ≡ length bs - last.begin = ap length last.is ∙ length-drop last.begin bs in
    let within : last.begin ≤ length bs = last.within in
    elim (eq-zero-or-pos (last.begin - d)) [
      | inr p ↦ text_of-other (drop d bs) (last.longest d (omega arith)) ∙ sym (too_long text n (omega arith))
      | inl z ↦
          let k : ℕ = d - last.begin in
          let is : last.begin + k ≡ d = omega arith in
          let same : drop k text ≡ drop d bs = ap (drop k) last.is ∙ drop-drop k last.begin bs ∙ ap (λ i. drop i bs) is in
          ap text_of (sym same) ∙ sym (short_enough text n k (omega arith))
    ]

-- the bytes from an offset on, as an end of those from the start on
from_start : (bs : List ℕ) (start offset : ℕ) → start ≤ offset → drop (offset - start) (drop start bs) ≡ drop offset bs
from_start bs start offset le =
    let is : start + (offset - start) ≡ offset = omega arith in
    drop-drop (offset - start) start bs ∙ ap (λ i. drop i bs) is

text_in_front : (bs text : List ℕ) (n d : ℕ) → position (λ c. c == 0) bs ≡ Some n → IsLastText (take n bs) text → d ≤ n → text_to_zero (drop d bs) ≡ last_of (Some text) (n - d)
text_in_front bs text n d e last le =
    let first : n < length bs = (position-Some (λ c. c == 0) bs n 0 e).0 in
    let len : length (take n bs) ≡ n = length-take-le n bs (omega arith) in
    let sum : d + (n - d) ≡ n = omega arith in
    let cut : drop d (take n bs) ≡ take (n - d) (drop d bs) = ap (λ i. drop d (take i bs)) (sym sum) ∙ drop-take d (n - d) bs in
    zero_found (drop d bs) (n - d) (position-drop (λ c. c == 0) bs n d e le)
    ∙ ap text_of (sym cut)
    ∙ end_of_last (take n bs) text d (n - d) last (omega arith)

-- where a zero follows
pub zero_follows : (bs text : List ℕ) (start n : ℕ) → position (λ c. c == 0) (drop start bs) ≡ Some n → IsLastText (take n (drop start bs)) text
    → (offset : ℕ) → start ≤ offset → offset ≤ start + n → text_at bs offset ≡ last_of (Some text) (start + n - offset)
zero_follows bs text start n e last offset low high =
    let d : ℕ = offset - start in
    let left : n - d ≡ start + n - offset = omega arith in
    ap text_to_zero (sym (from_start bs start offset low))
    ∙ text_in_front (drop start bs) text n d e last (omega arith)
    ∙ ap (last_of (Some text)) left

nothing_last : (n : ℕ) → last_of None n ≡ None
unfolding last_of
nothing_last n = refl

-- where none follows
pub no_zero_follows : (bs : List ℕ) (start n : ℕ) → position (λ c. c == 0) (drop start bs) ≡ None
    → (offset : ℕ) → start ≤ offset → text_at bs offset ≡ last_of None n
no_zero_follows bs start n e offset low =
    ap text_to_zero (sym (from_start bs start offset low))
    ∙ zero_missing (drop (offset - start) (drop start bs)) (position-drop-none (λ c. c == 0) (drop start bs) (offset - start) e)
    ∙ sym (nothing_last n)

-- what is known of a front, and the rest
pub parts_mapped : {X : Type 0} (f : ℕ → X) (xs : List ℕ) (ys : List X) (n : ℕ) → ys ≡ map f (take n xs) → ys ++ map f (take (length xs - n) (drop n xs)) ≡ map f xs
parts_mapped f xs ys n e =
    ap (λ zs. ys ++ map f zs) (take_rest xs n) ∙ ap (λ zs. zs ++ map f (drop n xs)) e
    ∙ sym (map-append f (take n xs) (drop n xs)) ∙ ap (map f) (take-append-drop n xs)
