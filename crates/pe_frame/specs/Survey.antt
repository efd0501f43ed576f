-- What is known of a record's codes before the first of them is undone. Contracts of private functions alone cite it.
use Rattle.pe_core.specs.Refusals.{◌>>=◌}
use Rattle.std.specs.Prelude.{◌≡◌, ℕ, ◌<◌, ◌≤◌, ◌||◌, ◌&&◌, ◌==◌, false, List, [], ◌∷◌, length, slice_index, Option, None, Result, Ok, Err, if◌then◌else◌}
use Rattle.pe_core.specs.declared.error.Error.{Error}
use Rattle.pe_unwind.specs.declared.unwind_code.UnwindCode.{UnwindCode}
use Rattle.pe_unwind.specs.UnwindRecord.{UnwindInfoView}
use Rattle.pe_unwind.specs.declared.unwind_code.UnwindOperation.{UnwindOperation}
use Rattle.pe_unwind.specs.declared.unwind_code.UnwindOperation.TheVariants.{SetFPRegister}
use Rattle.pe_unwind.specs.CodeStream.{AreItems, CodeStream}
use Rattle.pe_unwind.specs.UnwindCodes.{StartsWithCode}
use Rattle.pe_frame.specs.declared.error.FrameError.{FrameError}
use Rattle.pe_frame.specs.declared.error.FrameError.TheVariants.{Operation}
use Rattle.pe_frame.specs.declared.record.Survey.{Survey}
use Rattle.pe_frame.specs.declared.registers.Registers.{Registers}
use Rattle.pe_frame.specs.Steps.{HasCodes, known_codes}
use Rattle.pe_frame.specs.InPlace.{changed}
use Rattle.pe_frame.specs.Undoing.{FrameRegister, frame_base_of, has_run, ran, undone, undone_all, any_sets_frame_register, is_interrupted, interrupts, sets_frame_register}

abbrev pub surveyed : Option ℕ → List UnwindCode → Survey
surveyed limit codes = record {
  sets_frame_register = any_sets_frame_register (ran None codes);
  has_set_frame_register = any_sets_frame_register (ran limit codes);
  is_interrupted = is_interrupted (ran limit codes);
}

abbrev pub nothing_known : Survey
nothing_known = surveyed None []

-- what is known of some codes and of others after them
abbrev pub joined_surveys : Survey → Survey → Survey
joined_surveys s t = record {
  sets_frame_register = s.sets_frame_register || t.sets_frame_register;
  has_set_frame_register = s.has_set_frame_register || t.has_set_frame_register;
  is_interrupted = s.is_interrupted || t.is_interrupted;
}

abbrev pub survey_with : Option ℕ → Survey → UnwindCode → Survey
survey_with limit s c = joined_surveys s (surveyed limit (c ∷ []))

-- the same of a record, if none of its codes is refused
abbrev pub SurveysCodes : Option ℕ → UnwindInfoView → Result Survey FrameError → Type 0
SurveysCodes limit i answer =
    (codes : Result (List UnwindCode) FrameError) × HasCodes i codes × (answer ≡ codes >>= λ cs. Ok (surveyed limit cs))

-- the registers before a code, if it has run
abbrev pub undone_code : (ℕ → Option ℕ) → ℕ → Option ℕ → UnwindCode → Registers → Result Registers FrameError
undone_code m base limit c g = if has_run limit c then undone m base c.operation g else Ok g

-- the same after others
abbrev pub undone_next : (ℕ → Option ℕ) → ℕ → Option ℕ → UnwindCode → Result Registers FrameError → Result Registers FrameError
undone_next m base limit c r = r >>= undone_code m base limit c

-- The survey and the registers before the codes that have run, if none of the codes is refused: undoing them may be.
abbrev pub SurveysUndone : (ℕ → Option ℕ) → ℕ → Option ℕ → UnwindInfoView → Registers → Result (Survey × Result Registers FrameError) FrameError → Type 0
SurveysUndone m base limit i g answer =
    (codes : Result (List UnwindCode) FrameError) × HasCodes i codes
    × (answer ≡ codes >>= λ cs. Ok (surveyed limit cs, undone_all m base (ran limit cs) g))

-- a survey and registers that a function changes in place, as this result
abbrev pub surveyed_changes : Result (Survey × Result Unit FrameError) FrameError → Registers → Result (Survey × Result Registers FrameError) FrameError
surveyed_changes answer g = answer >>= λ x. Ok (x.0, changed x.1 g)

-- the base of the frame, whatever the codes are, but that one which has run may set a frame register that there is not
abbrev pub IsExpectedBase : Option ℕ → FrameRegister → Registers → ℕ → Type 0
IsExpectedBase limit f g base =
    (codes : List UnwindCode) → frame_base_of f (any_sets_frame_register (ran None codes)) (any_sets_frame_register (ran limit codes)) g
    ≡ (if any_sets_frame_register (ran limit codes) && f.register == 0 then Err (Operation SetFPRegister) else Ok base)

-- a survey of some codes and of those that are left, and what undoing these gives
abbrev pub all_undone : (ℕ → Option ℕ) → ℕ → Option ℕ → Survey → Result Registers FrameError → Result (List UnwindCode) FrameError → Result (Survey × Result Registers FrameError) FrameError
all_undone m base limit a r codes = codes >>= λ cs. Ok (joined_surveys a (surveyed limit cs), r >>= undone_all m base (ran limit cs))

-- The codes from one stream up to another, of which nothing is to be known, are undone: what undoing those that are left gives from
-- there is what undoing all gives.
abbrev pub UndoesFirst : (ℕ → Option ℕ) → ℕ → Option ℕ → CodeStream → CodeStream → Registers → Result Registers FrameError → Type 0
UndoesFirst m base limit s t g r =
    (rest : List (Result UnwindCode Error)) → AreItems t rest →
    (all : List (Result UnwindCode Error)) × AreItems s all
    × (all_undone m base limit nothing_known (Ok g) (known_codes all) ≡ all_undone m base limit nothing_known r (known_codes rest))

-- The bytes start with a code of n bytes that undoes this, whatever the version and the frame register are, and of which nothing is
-- to be known.
abbrev pub IsFrequent : List ℕ → UnwindOperation → ℕ → Type 0
IsFrequent bytes o n =
    (n ≤ length bytes) × ((v f : ℕ) → StartsWithCode v f bytes (record { code_offset = slice_index bytes 0; operation = o }) n)
    × (sets_frame_register o ≡ false) × (interrupts o ≡ false)
