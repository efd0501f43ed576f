-- Lists of unwind codes are read of the bytes that a walk has left, and those of functions of the bytes of a table.
use Rattle.std.proofs.Common.{[], ◌≡◌, ℕ, ◌+◌, ◌-◌, ◌*◌, ◌/◌, ◌%◌, ◌<◌, ◌≤◌, ◌==◌, inl, inr, List, ◌∷◌, length, drop, length-drop, get_or, Option, Some, None, Result, Ok, Err, refl, sym, ap, subst, ◌∙◌, arith}
use Rattle.calls_unwind.proofs.Cited.{slice_index, drop-drop, Refusal, ◌>>=◌, Error, le, CodeStream, ReturnsCode, stream_of, with_left}
use Rattle.calls_unwind.proofs.Cited.{function_of, integer, RuntimeFunction, UnwindCode, StepsAs, hands_out_as, numbered_as, left_after}
use Rattle.calls_unwind.proofs.Cited.{size_of, IsFrequent, ReturnsAny, StepsBytes, stream_in, stream_last, result_number}
use Rattle.calls_unwind.proofs.Cited.{HandsOutList, Numbered, StepsByIndex, by_number, if_there, bytes_at, StepsCodes, StepsOver}
use Rattle.calls_unwind.proofs.Cited.{flat_answer, plain, CodeBytes, Range, Code, CodeWalk}
use Rattle.std.proofs.Math.Seq.{drop-length}
use Rattle.pe_unwind.proofs.SpellingLengths.{starts_2, starts_4, word_at_2}
use Rattle.pe_unwind.specs.declared.unwind_code.UnwindCodeIterator.{UnwindCodeIterator}
use Rattle.pe_unwind.specs.declared.unwind_code.UnwindOperation.TheVariants.{Alloc, PushNonVolatile}

-- ---- frequent codes

word_at_0 : (b : List ℕ) → le b 0 2 ≡ get_or b 0 0 + 256 * get_or b 1 0
unfolding le
word_at_0 b = omega arith

pub pushed : (b : List ℕ) → 2 ≤ length b → slice_index b 1 % 16 ≡ 0 → IsFrequent b (plain (slice_index b 0) 0 (slice_index b 1 / 16) 0) 2
pushed b some op = (omega arith, some, λ v f. (record { code_offset = get_or b 0 0; operation = PushNonVolatile (integer (get_or b 1 0 / 16)) }, starts_2 v f b _ some (inl (op, refl)), refl))

-- the same of its slot as one number
pub pushed_in : (b : List ℕ) (w : ℕ) → 2 ≤ length b → w ≡ le b 0 2 → get_or b 0 0 < 256 → w / 256 % 16 ≡ 0 → IsFrequent b (plain (w % 256) 0 (w / 4096) 0) 2
pushed_in b w some is small op =
    let word : w ≡ get_or b 0 0 + 256 * get_or b 1 0 = is ∙ word_at_0 b in
    let low : w % 256 ≡ get_or b 0 0 = omega (arith, word, small) in
    let high : w / 256 ≡ get_or b 1 0 = omega (arith, word, small) in
    let info : w / 4096 ≡ get_or b 1 0 / 16 = omega (arith, high) in
    rw (low, info) (pushed b some (ap (λ (n : ℕ). n % 16) (sym high) ∙ op))

pub allocated : (b : List ℕ) → 2 ≤ length b → slice_index b 1 % 16 ≡ 2 → IsFrequent b (plain (slice_index b 0) 1 0 (slice_index b 1 / 16 * 8 + 8)) 2
allocated b some op = (omega arith, some, λ v f. (record { code_offset = get_or b 0 0; operation = Alloc (get_or b 1 0 / 16 * 8 + 8) }, starts_2 v f b _ some (inr (inl (op, refl))), refl))

pub allocated_more : (b : List ℕ) → 4 ≤ length b → slice_index b 1 % 16 ≡ 1 → slice_index b 1 / 16 ≡ 0 → IsFrequent b (plain (slice_index b 0) 1 0 (le b 2 2 * 8)) 4
allocated_more b some op info = (
  omega arith,
  some,
  λ v f. (
    record { code_offset = get_or b 0 0; operation = Alloc ((get_or b 2 0 + 256 * get_or b 3 0) * 8) },
    starts_4 v f b _ some (inl (op, info, refl)),
    ap (λ (n : ℕ). plain (get_or b 0 0) 1 0 (n * 8)) (word_at_2 b),
  ),
)

-- ---- what a step leaves is the last part of its bytes

pub same_stream : (s t : CodeStream) → s.content ≡ t.content → s.version ≡ t.version → s.frame ≡ t.frame → s ≡ t
same_stream s t content version frame = grind arith

-- n bytes are dropped of some, where n or more are there
last_part : (s t : CodeStream) (n : ℕ) → n ≤ length s.content → t ≡ with_left s (drop n s.content) → (t ≡ with_left s (drop (length s.content - length t.content) s.content)) × (length t.content ≤ length s.content)
last_part s t n inside e = grind (arith, length-drop)

pub leaves_last : (s t : CodeStream) (given : Option (Result UnwindCode Error)) → ReturnsCode s given t → (t ≡ with_left s (drop (length s.content - length t.content) s.content)) × (length t.content ≤ length s.content)
leaves_last s t None r = last_part s t 0 (omega arith) r.1
leaves_last s t (Some (Ok code)) r = last_part s t r.0 r.1.0 r.3
leaves_last s t (Some (Err e)) r = last_part s t (length s.content) (omega arith) (r.3 ∙ ap (λ (x : List ℕ). with_left s x) (sym (drop-length s.content)))

pub any_returns : (s : CodeBytes) (i j : UnwindCodeIterator) (given : Option (Result UnwindCode Error)) (x : Result (Option Code) ℕ) → stream_of i ≡ stream_in s → ReturnsCode (stream_of i) given (stream_of j) →
    x ≡ by_number result_number (flat_answer given) → ReturnsAny s x (length (stream_of j).content)
any_returns s i j given x same r e = grind (arith, leaves_last)

-- ---- steps

pub frequent_step : (s t : CodeBytes) (x : Code) (n : ℕ) → IsFrequent s.left.now x n → t.left.now ≡ drop n s.left.now → t.version ≡ s.version → t.frame_register ≡ s.frame_register →
    Numbered result_number StepsBytes s (Ok (Some x)) t
frequent_step s t x n is left version frame =
    let c = is.2 s.version s.frame_register in
    (Ok (Some x), (Some (Ok c.0), (n, c.1, is.0, same_stream (stream_in t) (with_left (stream_in s) (drop n s.left.now)) left version frame), ap (λ (y : Code). Ok (Some y)) c.2), refl)

nothing : (x : List ℕ) → length x ≡ 0 → x ≡ []
nothing [] e = refl
nothing (y ∷ x) e = absurd (omega (arith, e))

pub nothing_step : (s : CodeBytes) → length s.left.now ≡ 0 → Numbered result_number StepsBytes s (Ok None) s
nothing_step s e = (Ok None, (None, (nothing s.left.now e, refl), refl), refl)

pub any_step : (s t : CodeBytes) (x : Result (Option Code) ℕ) (n : ℕ) → ReturnsAny s x n → t.left.now ≡ drop (length s.left.now - n) s.left.now → t.version ≡ s.version → t.frame_register ≡ s.frame_register →
    Numbered result_number StepsBytes s x t
any_step s t x n r left version frame =
    (flat_answer r.0, (r.0, subst (λ (u : CodeStream). ReturnsCode (stream_in s) r.0 u) (sym (same_stream (stream_in t) (stream_last s n) left version frame)) r.1, refl), r.2)

-- ---- the walk that stands for what is left

abbrev pub walk_to : CodeWalk → CodeBytes → CodeWalk
walk_to w s = record w { left = record { offset = w.left.offset + (w.left.length - length s.left.now); length = length s.left.now } }

-- what is left of the bytes of a walk, and read as the walk says
abbrev pub IsLeft : CodeWalk → List ℕ → CodeBytes → Type 0
IsLeft w bytes s =
    (s.left.now ≡ drop (length bytes - length s.left.now) bytes) × (length s.left.now ≤ length bytes) × (s.version ≡ w.version) × (s.frame_register ≡ w.frame_register)

still_left : (w : CodeWalk) (bytes : List ℕ) (s t : CodeBytes) (given : Option (Result UnwindCode Error)) → IsLeft w bytes s → ReturnsCode (stream_in s) given (stream_in t) → IsLeft w bytes t
still_left w bytes s t given k r = grind (arith, leaves_last, drop-drop)

-- a step over the bytes is a step of the walk
steps_over : (w : CodeWalk) (bytes : List ℕ) (s t : CodeBytes) (given : Option (Result UnwindCode Error)) → length bytes ≡ w.left.length → IsLeft w bytes s → IsLeft w bytes t →
    ReturnsCode (stream_in s) given (stream_in t) → StepsOver s.left.now (walk_to w s) given (walk_to w t)
steps_over w bytes s t given size k l r = grind (arith, leaves_last, same_stream)

steps_as : (b bytes : List ℕ) (w : CodeWalk) → bytes_at b w.left ≡ Ok bytes → StepsAs (IsLeft w bytes) (walk_to w) StepsBytes (StepsCodes b)
steps_as b bytes w e s t answer k h =
    let size : length bytes ≡ w.left.length = size_of b w.left bytes e in
    let less : length s.left.now ≤ length bytes = k.1 in
    let l = still_left w bytes s t h.0 k h.1 in
    grind (arith, left_after b w.left (walk_to w s).left bytes e (omega (arith, size, less)) (omega (arith, size, less)), steps_over w bytes s t h.0 size k l h.1)

-- ---- lists

pub lists_codes : (b : List ℕ) (w : CodeWalk) (s t : CodeBytes) (number : ℕ) (old new : List Code) (before written : ℕ) →
    bytes_at b w.left ≡ Ok s.left.now → s.version ≡ w.version → s.frame_register ≡ w.frame_register →
    HandsOutList (Numbered result_number StepsBytes) number s t old new before written → HandsOutList (Numbered result_number (StepsCodes b)) number w (walk_to w t) old new before written
lists_codes b w s t number old new before written e version frame h =
    let size : length s.left.now ≡ w.left.length = size_of b w.left s.left.now e in
    let all : length s.left.now - length s.left.now ≡ 0 = omega arith in
    let known : IsLeft w s.left.now s = (sym (ap (λ (n : ℕ). drop n s.left.now) all), omega arith, version, frame) in
    let listed = hands_out_as (IsLeft w s.left.now) (walk_to w) (Numbered result_number StepsBytes) (Numbered result_number (StepsCodes b))
    (numbered_as result_number (IsLeft w s.left.now) (walk_to w) StepsBytes (StepsCodes b) (steps_as b s.left.now w e)) (length old == 0) number s t old new before written known h in
    grind arith

-- a list leaves no more than there was
shortens : (n : ℕ) → StepsAs (λ (s : CodeBytes). length s.left.now ≤ n) (λ (s : CodeBytes). s) StepsBytes StepsBytes
shortens n s t answer k h = let last = leaves_last (stream_in s) (stream_in t) h.0 h.1 in (omega (arith, k, last.1), h)

pub list_shortens : (s t : CodeBytes) (number : ℕ) (old new : List Code) (before written : ℕ) → HandsOutList (Numbered result_number StepsBytes) number s t old new before written → length t.left.now ≤ length s.left.now
list_shortens s t number old new before written h =
    (hands_out_as (λ (u : CodeBytes). length u.left.now ≤ length s.left.now) (λ (u : CodeBytes). u) (Numbered result_number StepsBytes) (Numbered result_number StepsBytes)
    (numbered_as result_number (λ (u : CodeBytes). length u.left.now ≤ length s.left.now) (λ (u : CodeBytes). u) StepsBytes StepsBytes (shortens (length s.left.now)))
    (length old == 0) number s t old new before written (omega arith) h).0

-- the functions of a table are those of its bytes
pub lists_functions : (b entries : List ℕ) (table : Range) (number next after : ℕ) (old new : List RuntimeFunction) (before written : ℕ) → bytes_at b table ≡ Ok entries →
    HandsOutList (Numbered result_number (StepsByIndex (λ i. if_there (function_of entries i)))) number next after old new before written →
    HandsOutList (Numbered result_number (StepsByIndex (λ i. if_there (bytes_at b table >>= λ es. function_of es i)))) number next after old new before written
lists_functions b entries table number next after old new before written e h =
    subst (λ (r : Result (List ℕ) Refusal). HandsOutList (Numbered result_number (StepsByIndex (λ i. if_there (r >>= λ es. function_of es i)))) number next after old new before written) (sym e) h
