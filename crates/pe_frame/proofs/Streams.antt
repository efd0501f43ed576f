-- The items of a stream, one after the other.
use Rattle.std.proofs.Common.{◌≡◌, ℕ, List, ◌∷◌, length, map, Option, Some, None, Result, Ok, Err, refl, ap, subst, arith, rules, []}
use Rattle.pe_frame.proofs.Cited.{◌>>=◌, Error, or_false, UnwindCode, CodeStream, AreItems, ReturnsCode, one_code, starts_some, FrameError}
use Rattle.pe_frame.proofs.Cited.{Survey, Registers, ran, undone_all, sets_frame_register, is_interrupted, known_codes, all_undone}
use Rattle.pe_frame.proofs.Cited.{surveyed, joined_surveys, survey_with, undone_code}

-- what the iterator gave stands before what it has left
pub code_before : (s t : CodeStream) (code : UnwindCode) (rest : List (Result UnwindCode Error)) → ReturnsCode s (Some (Ok code)) t → AreItems t rest → AreItems s (Ok code ∷ rest)
code_before s t code rest h are = (h.0, h.1, subst (λ (x : CodeStream). AreItems x rest) h.3 are)

pub refusal_alone : (s t : CodeStream) (e : Error) → ReturnsCode s (Some (Err e)) t → AreItems s (Err e ∷ [])
refusal_alone s t e h = (h.0, h.1, h.2, refl)

pub none_left : (s t : CodeStream) → ReturnsCode s None t → AreItems s []
none_left s t h = h.0

pub same_survey : (a b : Survey) → a.sets_frame_register ≡ b.sets_frame_register → a.has_set_frame_register ≡ b.has_set_frame_register → a.is_interrupted ≡ b.is_interrupted → a ≡ b
same_survey a b e h k = grind arith

surveyed_before : (limit : Option ℕ) (a : Survey) (c : UnwindCode) (cs : List UnwindCode) → joined_surveys a (surveyed limit (c ∷ cs)) ≡ joined_surveys (survey_with limit a c) (surveyed limit cs)
surveyed_before limit a c cs = search (rules, arith, same_survey, or_false)

-- a survey of some codes and of those that are left
abbrev pub all_surveyed : Option ℕ → Survey → Result (List UnwindCode) FrameError → Result Survey FrameError
all_surveyed limit a codes = codes >>= λ cs. Ok (joined_surveys a (surveyed limit cs))

with_code : (limit : Option ℕ) (a : Survey) (c : UnwindCode) (codes : Result (List UnwindCode) FrameError) →
    all_surveyed limit a (codes >>= λ cs. Ok (c ∷ cs)) ≡ all_surveyed limit (survey_with limit a c) codes
with_code limit a c codes = grind (arith, surveyed_before)

pub surveyed_code : (limit : Option ℕ) (a : Survey) (c : UnwindCode) (rest : List (Result UnwindCode Error)) →
    all_surveyed limit a (known_codes (Ok c ∷ rest)) ≡ all_surveyed limit (survey_with limit a c) (known_codes rest)
surveyed_code limit a c rest = with_code limit a c (known_codes rest)

pub surveyed_none : (limit : Option ℕ) (a : Survey) → all_surveyed limit a (known_codes []) ≡ Ok a
surveyed_none limit a = ap Ok (same_survey (joined_surveys a (surveyed limit [])) a (or_false a.sets_frame_register) (or_false a.has_set_frame_register) (or_false a.is_interrupted))

-- the codes of a stream, of which none is refused
abbrev pub AreCodes : CodeStream → List UnwindCode → Type 0
AreCodes s codes = AreItems s (map Ok codes)

pub record HasNext (t : CodeStream) (code : UnwindCode) (codes : List UnwindCode) : Type 0 where
  pub rest : List UnwindCode
  pub is : codes ≡ code ∷ rest
  pub are : AreCodes t rest

pub next_code : (s t : CodeStream) (code : UnwindCode) (codes : List UnwindCode) → ReturnsCode s (Some (Ok code)) t → AreCodes s codes → HasNext t code codes
next_code s t code [] h are = absurd (omega (arith, starts_some s.version s.frame s.content code h.0 h.1, ap (λ (b : List ℕ). length b) are))
next_code s t code (c ∷ codes) h are = grind (arith, one_code)

pub no_refusal : (s t : CodeStream) (e : Error) (codes : List UnwindCode) → ReturnsCode s (Some (Err e)) t → AreCodes s codes → ⊥
no_refusal s t e [] h are = omega (arith, h.0, ap (λ (b : List ℕ). length b) are)
no_refusal s t e (c ∷ codes) h are = h.1 c are.0 are.1

pub no_code : (s t : CodeStream) (codes : List UnwindCode) → ReturnsCode s None t → AreCodes s codes → codes ≡ []
no_code s t [] h are = refl
no_code s t (c ∷ codes) h are = absurd (omega (arith, starts_some s.version s.frame s.content c are.0 are.1, ap (λ (b : List ℕ). length b) h.0))

-- undoing the first code, and then the others
undone_before : (m : ℕ → Option ℕ) (base : ℕ) (limit : Option ℕ) (c : UnwindCode) (rest : List UnwindCode) (g : Registers) →
    undone_all m base (ran limit (c ∷ rest)) g ≡ (undone_code m base limit c g >>= undone_all m base (ran limit rest))
undone_before m base limit c rest g = grind arith

-- what undoing the others from there gives is what undoing all gives
pub undone_on : (m : ℕ → Option ℕ) (base : ℕ) (limit : Option ℕ) (c : UnwindCode) (rest codes : List UnwindCode) (g : Registers) (r all : Result Registers FrameError) →
    codes ≡ c ∷ rest → undone_code m base limit c g ≡ r → undone_all m base (ran limit codes) g ≡ all → (r >>= undone_all m base (ran limit rest)) ≡ all
undone_on m base limit c rest codes g r all is e h = grind (arith, undone_before)

abbrev surveyed_pair : Survey → Result Registers FrameError → Survey × Result Registers FrameError
surveyed_pair a r = (a, r)

same_pair : (a b : Survey) (r q : Result Registers FrameError) → a ≡ b → r ≡ q → surveyed_pair a r ≡ surveyed_pair b q
same_pair a b r q h k = rw (h, k) refl

-- one code more: the survey and the registers after it
pub undone_more : (m : ℕ → Option ℕ) (base : ℕ) (limit : Option ℕ) (a b : Survey) (r q : Result Registers FrameError) (c : UnwindCode) (rest : List (Result UnwindCode Error)) →
    b ≡ survey_with limit a c → q ≡ (r >>= undone_code m base limit c) → all_undone m base limit a r (known_codes (Ok c ∷ rest)) ≡ all_undone m base limit b q (known_codes rest)
undone_more m base limit a b r q c rest h k = search (rules, arith, same_pair, surveyed_before, undone_before)

pub undone_none : (m : ℕ → Option ℕ) (base : ℕ) (limit : Option ℕ) (a : Survey) (r : Result Registers FrameError) → all_undone m base limit a r (known_codes []) ≡ Ok (surveyed_pair a r)
undone_none m base limit a r = grind (arith, same_pair, same_survey, or_false)
