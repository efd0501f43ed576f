-- A record undone, by what its codes say at once.
use Rattle.std.proofs.Common.{◌≡◌, ℕ, Bool, ◌||◌, ◌&&◌, ◌==◌, List, ◌∷◌, map, Option, None, Result, Ok, Err, refl, ap, arith, rules, []}
use Rattle.pe_frame.proofs.Cited.{◌>>=◌, if◌then◌else◌, Error, UnwindCode, SetFPRegister, AreItems, UnwindInfoView, code_stream, FrameError}
use Rattle.pe_frame.proofs.Cited.{Operation, Survey, Registers, ran, undone_all, frame_base_of, entered, is_interrupted, known_codes}
use Rattle.pe_frame.proofs.Cited.{frame_register_in, Enters, UndoesRecords, IsExpectedBase, surveyed, SurveysCodes, SurveysUndone}

all_before : (c : UnwindCode) (items : List (Result UnwindCode Error)) (cs : List UnwindCode) (x : Result (List UnwindCode) FrameError) →
    ((ds : List UnwindCode) → x ≡ Ok ds → items ≡ map Ok ds) → (x >>= λ ds. Ok (c ∷ ds)) ≡ Ok cs → Ok c ∷ items ≡ map Ok cs
all_before c items cs x h e = grind arith

-- no item is refused
pub all_codes : (items : List (Result UnwindCode Error)) (cs : List UnwindCode) → known_codes items ≡ Ok cs → items ≡ map Ok cs
all_codes [] cs e = let same : [] ≡ cs = cc in ap (λ (xs : List UnwindCode). map Ok xs) same
all_codes (Ok c ∷ items) cs e = all_before c items cs (known_codes items) (λ ds k. all_codes items ds k) e
all_codes (Err x ∷ items) cs e = cc

abbrev UndoesCodes : (ℕ → Option ℕ) → ℕ → Option ℕ → UnwindInfoView → Registers → Result Registers FrameError → Type 0
UndoesCodes m base limit i g r = (codes : List UnwindCode) → AreItems (code_stream i) (map Ok codes) → r ≡ undone_all m base (ran limit codes) g

-- a record undone, by its survey, its base and its codes
pub enters : (m : ℕ → Option ℕ) (limit : Option ℕ) (i : UnwindInfoView) (g : Registers) (s : Survey) (base : ℕ) (r : Result Registers FrameError) →
    SurveysCodes limit i (Ok s) → frame_base_of (frame_register_in i) s.sets_frame_register s.has_set_frame_register g ≡ Ok base → UndoesCodes m base limit i g r →
    Enters m limit i g (r >>= λ u. Ok (u, s.is_interrupted))
enters m limit i g s base r known at undoes = grind (arith, all_codes)

-- what such a pass returns, as the code of a record was entered
abbrev pub entry_of : UnwindInfoView → Result (Survey × Result Registers FrameError) FrameError → Result (Registers × Bool) FrameError
entry_of i answer =
    answer >>= λ x. if (x.0).has_set_frame_register && (frame_register_in i).register == 0 then Err (Operation SetFPRegister) else x.1 >>= λ u. Ok (u, (x.0).is_interrupted)

entry_by : (m : ℕ → Option ℕ) (limit : Option ℕ) (i : UnwindInfoView) (g : Registers) (base : ℕ) (answer : Result (Survey × Result Registers FrameError) FrameError)
    (codes : Result (List UnwindCode) FrameError) → IsExpectedBase limit (frame_register_in i) g base →
    answer ≡ (codes >>= λ cs. Ok (surveyed limit cs, undone_all m base (ran limit cs) g)) → entry_of i answer ≡ (codes >>= λ cs. entered m (frame_register_in i) limit cs g)
entry_by m limit i g base answer codes expected is = search (rules, arith)

pub enters_at_once : (m : ℕ → Option ℕ) (limit : Option ℕ) (i : UnwindInfoView) (g : Registers) (base : ℕ) (answer : Result (Survey × Result Registers FrameError) FrameError) (entry : Result (Registers × Bool) FrameError) →
    IsExpectedBase limit (frame_register_in i) g base → SurveysUndone m base limit i g answer → entry ≡ entry_of i answer → Enters m limit i g entry
enters_at_once m limit i g base answer entry expected undoes is = grind (arith, entry_by)

-- records undone, by the first of them and those after it
pub more_undone : (m : ℕ → Option ℕ) (limit : Option ℕ) (i : UnwindInfoView) (rows is : List UnwindInfoView) (b c : Bool) (g u : Registers) (answer : Result (Registers × Bool) FrameError) →
    rows ≡ i ∷ is → Enters m limit i g (Ok (u, c)) → UndoesRecords m is None (b || c) u answer → UndoesRecords m rows limit b g answer
more_undone m limit i rows is b c g u answer at entry rest = rw at (Ok (u, c), entry, rest)

-- by the first, if it is refused
pub none_undone : (m : ℕ → Option ℕ) (limit : Option ℕ) (i : UnwindInfoView) (rows is : List UnwindInfoView) (b : Bool) (g : Registers) (e : FrameError) →
    rows ≡ i ∷ is → Enters m limit i g (Err e) → UndoesRecords m rows limit b g (Err e)
none_undone m limit i rows is b g e at entry = rw at (Err e, entry, refl)
