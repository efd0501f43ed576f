use Rattle.std.proofs.Common.{◌≡◌, ℕ, ◌≤◌, ◌<◌, List, length, take, drop, Some, subst, sym, ◌∙◌, ap, arith, ◌+◌, ◌-◌, Option, None, refl}
use Rattle.calls_base.proofs.Cited.{IsTrue, position, ◌==◌, slice_range, is_utf8, nat_tests, length-take-le, drop-drop, drop-take}
use Rattle.calls_base.proofs.Cited.{length-drop, position-Some, IsTextRun, run_text}
use Rattle.pe_core.proofs.TextRuns.{zero_follows, no_zero_follows}
use Rattle.pe_core.specs.TextRuns.{IsLastText, last_of}
use Rattle.calls_base.proofs.text_runs.run_from.Goals as goal

-- A run of the offsets that have one zero after them.

-- the end of what comes before the zero, as a part of all bytes
part : (b : List ℕ) (start n begin : ℕ) → begin ≤ n → drop begin (take n (drop start b)) ≡ slice_range b (start + begin) (start + n)
part b start n begin le =
    let sum : begin + (n - begin) ≡ n = omega arith in
    let size : n - begin ≡ start + n - (start + begin) = omega arith in
    ap (λ i. drop begin (take i (drop start b))) (sym sum)
    ∙ drop-take begin (n - begin) (drop start b)
    ∙ ap (take (n - begin)) (drop-drop begin start b)
    ∙ ap (λ i. take i (drop (start + begin) b)) size

some_part : (b : List ℕ) (start n begin : ℕ) → begin ≤ n → start + n ≤ length b → run_text b (record { start = start; end = start + n; text = start + begin }) ≡ Some (drop begin (take n (drop start b)))
unfolding run_text
some_part b start n begin le inside =
    let same = part b start n begin le in
    let text : start + begin ≤ start + n = omega arith in
    rw same (grind (arith, nat_tests))

-- where a zero follows
run_to_zero : (b : List ℕ) (start n begin : ℕ) → position (λ c. c == 0) (drop start b) ≡ Some n → IsLastText (take n (drop start b)) (drop begin (take n (drop start b))) →
    begin ≤ n → IsTrue (is_utf8 (drop begin (take n (drop start b)))) → IsTextRun b (record { start = start; end = start + n; text = start + begin })
run_to_zero b start n begin e last le utf8 =
    let first : n < length (drop start b) = (position-Some (λ c. c == 0) (drop start b) n 0 e).0 in
    let inside : start + n ≤ length b = omega (arith, length-drop start b, first) in
    record {
      is_text = λ _ _. subst (λ (t : List ℕ). IsTrue (is_utf8 t)) (part b start n begin le) utf8;
      texts = λ p low high. zero_follows b (drop begin (take n (drop start b))) start n e last p low high
          ∙ ap (λ (t : Option (List ℕ)). last_of t (start + n - p)) (sym (some_part b start n begin le inside));
    }

no_part : (b : List ℕ) (start : ℕ) → run_text b (record { start = start; end = 18446744073709551614; text = 18446744073709551615 }) ≡ None
unfolding run_text
no_part b start = refl

-- where none follows
run_to_end : (b : List ℕ) (start : ℕ) → position (λ c. c == 0) (drop start b) ≡ None → IsTextRun b (record { start = start; end = 18446744073709551614; text = 18446744073709551615 })
run_to_end b start e = record {
  is_text = λ le inside. absurd (omega arith);
  texts = λ p low high. no_zero_follows b start (18446744073709551614 - p) e p low ∙ ap (λ (t : Option (List ℕ)). last_of t (18446744073709551614 - p)) (sym (no_part b start));
}

pub returns-in-Some : goal.returns-in-Some
returns-in-Some c =
    let b : List ℕ = c.args.bytes.now in
    let start : ℕ = c.args.start in
    let n : ℕ = c.in-Some.n in
    let e : position (λ x. x == 0) (drop start b) ≡ Some n = ap (position (λ x. x == 0)) (sym c.from_offset-rest.ensures) ∙ (sym c.first_zero.ensures ∙ c.in-Some.is) in
    let first : n < length (drop start b) = (position-Some (λ x. x == 0) (drop start b) n 0 e).0 in
    let size : length (take n (drop start b)) ≡ n = length-take-le n (drop start b) (omega arith) in
    let last : IsLastText (take n (drop start b)) (drop c.last_text.result (take n (drop start b))) = subst (λ (rest : List ℕ). IsLastText (take n rest) (drop c.last_text.result (take n rest))) c.from_offset-rest.ensures c.last_text.ensures.last in
    let text : IsTrue (is_utf8 (drop c.last_text.result (take n (drop start b)))) = subst (λ (rest : List ℕ). IsTrue (is_utf8 (drop c.last_text.result (take n rest)))) c.from_offset-rest.ensures c.last_text.ensures.text in
    let within : c.last_text.result ≤ length (take n (drop start b)) = subst (λ (rest : List ℕ). c.last_text.result ≤ length (take n rest)) c.from_offset-rest.ensures c.last_text.ensures.within in
    run_to_zero b start n c.last_text.result e last (omega arith) text

pub returns-in-None : goal.returns-in-None
returns-in-None c =
    run_to_end c.args.bytes.now c.args.start (ap (position (λ x. x == 0)) (sym c.from_offset-rest.ensures) ∙ (sym c.first_zero.ensures ∙ c.in-None.is))
