-- Codes that are written to the start of an array, and what a call hands out of them.
use Rattle.std.proofs.Common.{◌≡◌, ◌⊎◌, inl, inr, ℕ, ◌+◌, ◌<◌, ◌==◌, Bool, false, List, ◌++◌, length, take, drop, length-set, slice_set, Option, Some, None, Ok, refl, sym, ap, subst, ◌∙◌, ⊎_elim, arith, rules}
use Rattle.calls_unwind.proofs.Cited.{cases_lt, nat_tests, length-take-le, take-append-drop}
use Rattle.calls_unwind.proofs.Cited.{StepsAs, ends_list, hands_out_if, kept_more, numbered_as, takes_as}
use Rattle.calls_unwind.proofs.Cited.{written_more, EndsCodes, HasCodes, PutsCodes, StepsBytes, stream_in}
use Rattle.calls_unwind.proofs.Cited.{result_number, HandsOutListIf, Numbered, Stops, CodeBytes}
use Rattle.calls_unwind.proofs.Cited.{PutCodes, ROOM, Code}
use Rattle.calls_unwind.proofs.CodeBytes.{nothing_step}
use Rattle.calls_unwind.specs.Unwinding.{EndsAll, HandsOutAll, StepsStream}

-- ---- writing

pub none_yet : (s : CodeBytes) (entries : List Code) → HasCodes s s entries entries 0
none_yet s entries = (refl, refl, refl, omega arith)

pub one_more : (s t u : CodeBytes) (old new : List Code) (n : ℕ) (x : Code) → n < length new → HasCodes s t old new n → Numbered result_number StepsBytes t (Ok (Some x)) u → HasCodes s u old (slice_set new n x) (n + 1)
one_more s t u old new n x lt has step = grind (arith, length-set new n x, written_more (Numbered result_number StepsBytes) s t u new n x lt has.0 step, kept_more new old n x has.1)

-- ---- lists

-- what the list has, and why it ends
stops : (s : CodeBytes) (old new : List Code) (left : CodeBytes) (count : ℕ) (refused : Option ℕ) → HasCodes s left old new count → EndsCodes refused count (length new) left → (0 < count) ⊎ (refused ≡ None) →
    Stops (Numbered result_number StepsBytes) (length old) (take count new) left left
stops s old new left count None has q some = grind (arith, length-take-le, ⊎_elim, nothing_step, cases_lt)
stops s old new left count (Some n) has ends (inl some) =
    let size = length-take-le count new has.3 in
    let room = has.2 in
    let lt = ends.0 in
    inr (inr (omega (arith, size, some), omega (arith, size, lt, room), refl, (n, ends.1.0, ends.1.1)))
stops s old new left count (Some n) has ends (inr none) = absurd cc

pub lists_put : (s : CodeBytes) (old new : List Code) (put : PutCodes) (empty : Bool) (before : ℕ) → false ≡ empty → PutsCodes s old new put → (0 < put.count) ⊎ (put.refused ≡ None) →
    HandsOutListIf empty (Numbered result_number StepsBytes) 0 s put.left old new before put.count
lists_put s old new put empty before some h ends = search (rules, arith, hands_out_if, ends_list, stops)

-- ---- all codes

steps_stream : StepsAs (λ (s : CodeBytes). s ≡ s) (λ (s : CodeBytes). stream_in s) StepsBytes StepsStream
steps_stream s t answer k h = (refl, h)

pub all_put : (s : CodeBytes) (old new : List Code) (put : PutCodes) (number : ℕ) → PutsCodes s old new put → EndsAll number put.count (length old) (stream_in put.left) → HandsOutAll (stream_in s) number old new put.count
all_put s old new put number h ends =
    let size = length-take-le put.count new h.0.3 in (
      take put.count new,
      stream_in put.left,
      (takes_as (λ (s : CodeBytes). s ≡ s) (λ (s : CodeBytes). stream_in s) (Numbered result_number StepsBytes) (Numbered result_number StepsStream)
          (numbered_as result_number (λ (s : CodeBytes). s ≡ s) (λ (s : CodeBytes). stream_in s) StepsBytes StepsStream steps_stream) s put.left (take put.count new) refl h.0.0).1,
      subst (λ (n : ℕ). EndsAll number n (length old) (stream_in put.left)) (sym size) ends,
      sym (take-append-drop put.count new) ∙ ap (λ (xs : List Code). take put.count new ++ xs) (h.0.1 ∙ ap (λ (n : ℕ). drop n old) (sym size)),
      sym size,
    )

pub ends_refused : (s : CodeBytes) (old new : List Code) (put : PutCodes) (number : ℕ) → PutsCodes s old new put → put.refused ≡ Some number → EndsAll number put.count (length old) (stream_in put.left)
ends_refused s old new put number h e = grind (arith, numbered_as, steps_stream)

pub ends_all : (room : ℕ) (put : PutCodes) → length put.left.left.now ≡ 0 → EndsAll 0 put.count room (stream_in put.left)
ends_all room put e = inl (refl, e)

pub ends_room : (s : CodeBytes) (old new : List Code) (put : PutCodes) → PutsCodes s old new put → put.refused ≡ None → false ≡ (length put.left.left.now == 0) → EndsAll ROOM put.count (length old) (stream_in put.left)
ends_room s old new put h e some = grind (arith, nat_tests)

-- all codes were frequent ones
pub all_done : (s t : CodeBytes) (old new : List Code) (n : ℕ) → HasCodes s t old new n → length t.left.now ≡ 0 → HandsOutAll (stream_in s) 0 old new n
all_done s t old new n has e =
    let put : PutCodes = record { count = n; left = t; refused = None } in
    all_put s old new put 0 (has, inl e) (ends_all (length old) put e)
