-- A walk over unwind codes returns all items of its stream.
use Rattle.std.proofs.Common.{[], ◌≡◌, ℕ, List, ◌∷◌, map, drop, Option, Some, Result, Ok, Err, refl, sym, ap, subst, ◌∙◌, arith}
use Rattle.calls_unwind.proofs.Cited.{Refusal, kind_of, outcome, Error, AreItems, CodeStream, with_left}
use Rattle.calls_unwind.proofs.Cited.{StartsWithCode, UnwindInfoView, unwind_tests, unwind_record, UnwindCode, one_code}
use Rattle.calls_unwind.proofs.Cited.{bytes_of_range, bytes_there, left_after, nothing_there, same_range, size_of, bytes_at, no_bytes}
use Rattle.calls_unwind.proofs.Cited.{StepsCodes, StepsOver, WalksIn, flat, flat_answer, flat_item, flat_record, left_of, code_stream_at}
use Rattle.calls_unwind.proofs.Cited.{ReturnsItems, IsOver, Code, CodeWalk}
use Rattle.calls_unwind.proofs.RecordRanges.{codes_of_record}

-- ---- one step

no_code : (v f : ℕ) (b : List ℕ) (code : UnwindCode) (n : ℕ) → b ≡ [] → StartsWithCode v f b code n → ⊥
no_code v f b code n e h = grind arith

stepped : (b : List ℕ) (w v : CodeWalk) (bytes : List ℕ) (answer : Result (Option Code) Refusal) → bytes_at b w.left ≡ Ok bytes → StepsCodes b w answer v →
    (given : Option (Result UnwindCode Error)) × StepsOver bytes w given v × (answer ≡ flat_answer given)
stepped b w v bytes answer e s = (s.0, subst (λ (r : Result (List ℕ) Refusal). WalksIn r w s.0 v) e s.1, s.2)

is_over : (b : List ℕ) (w : CodeWalk) (bytes : List ℕ) → bytes_at b w.left ≡ Ok bytes → bytes ≡ [] → IsOver (StepsCodes b) w
is_over b w bytes e none answer v s = grind (arith, stepped, same_range, no_code, size_of)

-- ---- all steps

-- the walk after a step, whose stream goes on with these items
after_code : (b : List ℕ) (w v : CodeWalk) (bytes : List ℕ) (given : Option (Result UnwindCode Error)) → bytes_at b w.left ≡ Ok bytes → StepsOver bytes w given v → bytes_at b v.left ≡ Ok (left_of bytes w v)
after_code b w v bytes given e s = left_after b w.left v.left bytes e s.shorter s.same_end

-- what a step returns where its stream starts with a code
gives_code : (b : List ℕ) (w v : CodeWalk) (bytes : List ℕ) (code : UnwindCode) (n : ℕ) (given : Option (Result UnwindCode Error)) → StartsWithCode w.version w.frame_register bytes code n → StepsOver bytes w given v →
    (flat_answer given ≡ Ok (Some (flat code))) × (code_stream_at (left_of bytes w v) v ≡ with_left (code_stream_at bytes w) (drop n bytes))
gives_code b w v bytes code n given starts s = grind (arith, no_code, one_code)

-- what it returns where no code starts the stream
gives_error : (b : List ℕ) (w v : CodeWalk) (bytes : List ℕ) (x : Error) (given : Option (Result UnwindCode Error)) → AreItems (code_stream_at bytes w) (Err x ∷ []) → StepsOver bytes w given v →
    (flat_answer given ≡ Err (kind_of x)) × (left_of bytes w v ≡ [])
gives_error b w v bytes x given items s = grind arith

in_turn : (b : List ℕ) (items : List (Result UnwindCode Error)) (w : CodeWalk) (bytes : List ℕ) → bytes_at b w.left ≡ Ok bytes → AreItems (code_stream_at bytes w) items →
    ReturnsItems (StepsCodes b) w (map flat_item items)
in_turn b [] w bytes e h = λ answer v s.
    let over = is_over b w bytes e h answer v s in
    (over.0, subst (λ (u : CodeWalk). IsOver (StepsCodes b) u) (sym over.1) (is_over b w bytes e h))
in_turn b (Ok code ∷ items) w bytes e h = λ answer v s.
    let over = stepped b w v bytes answer e s in
    let given = gives_code b w v bytes code h.0 over.0 h.1 over.1 in (
      over.2 ∙ given.0,
      in_turn b items v (left_of bytes w v) (after_code b w v bytes over.0 e over.1) (subst (λ (t : CodeStream). AreItems t items) (sym given.1) h.2),
    )
in_turn b (Err x ∷ items) w bytes e h = (
  ap (map flat_item) h.3,
  λ answer v s.
      let over = stepped b w v bytes answer e s in
      let given = gives_error b w v bytes x over.0 (h.0, h.1, h.2, refl) over.1 in
      (over.2 ∙ given.0, is_over b v (left_of bytes w v) (after_code b w v bytes over.0 e over.1) given.1),
)

pub codes_in_turn : (b : List ℕ) (w : CodeWalk) (bytes : List ℕ) (items : List (Result UnwindCode Error)) → bytes_at b w.left ≡ Ok bytes → AreItems (code_stream_at bytes w) items →
    ReturnsItems (StepsCodes b) w (map flat_item items)
codes_in_turn b w bytes items e h = in_turn b items w bytes e h

-- ---- a range that does not lie in the bytes

refused : (b : List ℕ) (w v : CodeWalk) (r : Refusal) (given : Option (Result UnwindCode Error)) → WalksIn (Err r) w given v → (flat_answer given ≡ Err r) × (v.left ≡ no_bytes)
refused b w v r given s = grind arith

pub lies_once : (b : List ℕ) (w : CodeWalk) (r : Refusal) → bytes_at b w.left ≡ Err r → ReturnsItems (StepsCodes b) w (Err r ∷ [])
lies_once b w r e = grind (arith, refused, is_over, bytes_there b no_bytes (omega arith), nothing_there b)

-- ---- the codes of a record

pub codes_of_record_in_turn : (b : List ℕ) (p : ℕ) (i : UnwindInfoView) (items : List (Result UnwindCode Error)) → outcome (unwind_tests b p) (unwind_record b p) ≡ Ok i →
    AreItems (code_stream_at i.codes (flat_record b p i).codes) items → ReturnsItems (StepsCodes b) (flat_record b p i).codes (map flat_item items)
codes_of_record_in_turn b p i items e h =
    codes_in_turn b (flat_record b p i).codes i.codes items (bytes_of_range b (flat_record b p i).codes.left i.codes (codes_of_record b p i e)) h
