-- The codes with which a stream starts, undone one after the other before a survey.
use Rattle.std.proofs.Common.{◌≡◌, ℕ, ◌+◌, ◌*◌, ◌/◌, ◌%◌, ◌≤◌, false, inl, inr, List, ◌∷◌, length, drop, Option, None, Result, Ok, refl, sym, ◌∙◌, subst, arith, []}
use Rattle.pe_frame.proofs.Cited.{slice_index, le, starts_2, starts_4, word_at_2, AreItems, CodeStream, with_left, integer, UnwindInfoView}
use Rattle.pe_frame.proofs.Cited.{code_stream, UnwindCode, UnwindOperation, Alloc, PushNonVolatile, FrameError, Registers, interrupts}
use Rattle.pe_frame.proofs.Cited.{sets_frame_register, undone, known_codes, IsFrequent, SurveysUndone, UndoesFirst, nothing_known}
use Rattle.pe_frame.proofs.Cited.{survey_with}
use Rattle.pe_frame.proofs.Streams.{same_survey, undone_more, undone_none}

pub pushed : (b : List ℕ) → 2 ≤ length b → slice_index b 1 % 16 ≡ 0 → IsFrequent b (PushNonVolatile (integer (slice_index b 1 / 16))) 2
pushed b some op = (some, λ v f. starts_2 v f b _ some (inl (op, refl)), refl, refl)

pub allocated : (b : List ℕ) → 2 ≤ length b → slice_index b 1 % 16 ≡ 2 → IsFrequent b (Alloc (slice_index b 1 / 16 * 8 + 8)) 2
allocated b some op = (some, λ v f. starts_2 v f b _ some (inr (inl (op, refl))), refl, refl)

pub allocated_more : (b : List ℕ) → 4 ≤ length b → slice_index b 1 % 16 ≡ 1 → slice_index b 1 / 16 ≡ 0 → IsFrequent b (Alloc (le b 2 2 * 8)) 4
allocated_more b some op info = grind (arith, word_at_2, starts_4)

-- nothing is known of such a code
pub plain : (c : UnwindCode) → sets_frame_register c.operation ≡ false → interrupts c.operation ≡ false → nothing_known ≡ survey_with None nothing_known c
plain c sets stops = same_survey nothing_known (survey_with None nothing_known c) (rw sets refl) (rw sets refl) (rw stops refl)

-- before the first code
pub none_yet : (m : ℕ → Option ℕ) (base : ℕ) (limit : Option ℕ) (s : CodeStream) (g : Registers) → UndoesFirst m base limit s s g (Ok g)
none_yet m base limit s g rest are = (rest, are, refl)

-- one code more
pub one_more : (m : ℕ → Option ℕ) (base : ℕ) (s t : CodeStream) (left : List ℕ) (o : UnwindOperation) (n : ℕ) (g h : Registers) (q : Result Registers FrameError) →
    UndoesFirst m base None s t g (Ok h) → IsFrequent t.content o n → left ≡ drop n t.content → q ≡ undone m base o h → UndoesFirst m base None s (with_left t left) g q
one_more m base s t left o n g h q first is at e rest are =
    let code : UnwindCode = record { code_offset = slice_index t.content 0; operation = o } in
    let all = first (Ok code ∷ rest) (n, is.1 t.version t.frame, subst (λ (x : List ℕ). AreItems (with_left t x) rest) at are) in
    (all.0, all.1, all.2 ∙ undone_more m base None nothing_known nothing_known (Ok h) q code rest (plain code is.2 is.3) e)

pub no_bytes : (x : List ℕ) → length x ≡ 0 → x ≡ []
no_bytes [] e = refl
no_bytes (y ∷ x) e = absurd (omega (arith, e))

-- no code is left
pub all_first : (m : ℕ → Option ℕ) (base : ℕ) (limit : Option ℕ) (i : UnwindInfoView) (left : List ℕ) (g : Registers) (r : Result Registers FrameError) →
    UndoesFirst m base limit (code_stream i) (with_left (code_stream i) left) g r → left ≡ [] → SurveysUndone m base limit i g (Ok (nothing_known, r))
all_first m base limit i left g r first none =
    let all = first [] none in
    (known_codes all.0, (all.0, all.1, refl), sym (all.2 ∙ undone_none m base limit nothing_known r))
