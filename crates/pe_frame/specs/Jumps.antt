-- Jumps out of a function: a jump changes no register but the instruction pointer, so the caller is that of the frame at its
-- target, in the function that is there.
use Rattle.std.specs.Prelude.{◌≡◌, ℕ, ◌-◌, ◌^◌, nat_lt, ◌⊎◌, if◌then◌else◌, Bool, true, false, List, [], ◌∷◌, Option, Some, None, Result, Ok}
use Rattle.pe_core.specs.Refusals.{Refusal, ◌>>=◌}
use Rattle.pe_unwind.specs.ExceptionTable.{ExceptionView, table_of}
use Rattle.pe_unwind.specs.FunctionTable.{functions, Finds}
use Rattle.pe_unwind.specs.Links.{links_with}
use Rattle.pe_unwind.specs.UnwindRecord.{UnwindInfoView}
use Rattle.pe_unwind.specs.declared.function_table.RuntimeFunction.{RuntimeFunction}
use Rattle.pe_unwind.specs.declared.unwind_code.UnwindCode.{UnwindCode}
use Rattle.pe_plan.specs.ShortPlans.{PlansShort}
use Rattle.pe_frame.specs.declared.epilog.Instruction.{Instruction}
use Rattle.pe_frame.specs.declared.epilog.Instruction.TheVariants.{Jump}
use Rattle.pe_frame.specs.declared.error.FrameError.{FrameError}
use Rattle.pe_frame.specs.declared.registers.Registers.{Registers}
use Rattle.pe_frame.specs.Undoing.{any_sets_frame_register, stack_pointer, ran}
use Rattle.pe_frame.specs.Steps.{HasCodes, UndoesFunction, Then, limit_of, rising}
use Rattle.pe_frame.specs.Epilogs.{epilog_at, executed_all, run_out}

-- ---- the jump

-- the RVA to which an instruction jumps; an RVA has 32 bits
abbrev pub direct_target : Instruction → Option ℕ
direct_target (Jump a) = if nat_lt a (2 ^ 32) then Some a else None
direct_target other = None

-- the same of the last of some instructions
abbrev pub target_of : List Instruction → Option ℕ
target_of [] = None
target_of (i ∷ []) = direct_target i
target_of (i ∷ j ∷ is) = target_of (j ∷ is)

-- the instructions before the last one
abbrev pub before_last : List Instruction → List Instruction
before_last [] = []
before_last (i ∷ []) = []
before_last (i ∷ j ∷ is) = i ∷ before_last (j ∷ is)

-- ---- its target

-- a place in a function: how many bytes from its start, and its records
pub record Place : Type 0 where
  pub offset : ℕ
  pub plan : List UnwindInfoView

abbrev pub place_with : ℕ → List UnwindInfoView → Place
place_with offset plan = record { offset = offset; plan = plan }

-- the place of an RVA in a function; none where a record cannot be read, or where more than 32 are chained
abbrev pub place_in : ℕ → RuntimeFunction → Result (Option (List UnwindInfoView)) Refusal → Option Place
place_in a f (Ok (Some plan)) = Some (place_with (a - f.begin_address) plan)
place_in a f other = None

abbrev pub IsPlaceIn : ExceptionView → (ℕ → Option ℕ) → ℕ → Option RuntimeFunction → Option Place → Type 0
IsPlaceIn e rva_map a None place = place ≡ None
IsPlaceIn e rva_map a (Some f) place =
    (plan : Result (Option (List UnwindInfoView)) Refusal)
    × PlansShort (links_with e rva_map) e.content f plan × (place ≡ place_in a f plan)

-- the place of a target in the function of an image that lookup finds
abbrev pub IsPlace : ExceptionView → (ℕ → Option ℕ) → Option ℕ → Option Place → Type 0
IsPlace e rva_map None place = place ≡ None
IsPlace e rva_map (Some a) place =
    (found : Option RuntimeFunction) × Finds (functions (table_of e)) a found × IsPlaceIn e rva_map a found place

-- nothing of the function has run at a place: it has one record, and none of its codes has run there
pub record IsEntry (place : Place) : Type 0 where
  pub info : UnwindInfoView
  pub codes : List UnwindCode
  pub alone : place.plan ≡ info ∷ []
  pub known : HasCodes info (Ok codes)
  pub none : ran (limit_of place.plan place.offset) codes ≡ []
  pub frame : ((info.frame_register).0 ≡ 0) ⊎ (any_sets_frame_register (ran None codes) ≡ true)

-- ---- the step

-- registers that an interrupt did not leave have a stack pointer above this one
abbrev pub rising_out : ℕ → (Registers × Bool) → Result (Registers × Bool) FrameError
rising_out p u = if u.1 then Ok u else rising p u.0 >>= λ c. Ok (c, false)

abbrev pub risen_out : ℕ → Result (Registers × Bool) FrameError → Result (Registers × Bool) FrameError
risen_out p left = left >>= rising_out p

-- What the rest of an epilog returns. It is run up to a jump to a place in a function, and from there on that function's records
-- are undone. Without such a place it is run to its end.
abbrev pub LeavesFor : Option Place → (ℕ → Option ℕ) → List Instruction → Registers → Result (Registers × Bool) FrameError → Type 0
LeavesFor None m rest g answer = answer ≡ run_out m rest g
LeavesFor (Some place) m rest g answer =
    (left : Result (Registers × Bool) FrameError)
    × Then (executed_all m (before_last rest) g) (UndoesFunction m place.plan place.offset) left
    × (answer ≡ risen_out (stack_pointer g) left)

-- the same, where lookup found a function for an RVA; and where it looks one up for the target, if there is one
abbrev pub LeavesForFound : ExceptionView → (ℕ → Option ℕ) → ℕ → Option RuntimeFunction → (ℕ → Option ℕ) → List Instruction → Registers → Result (Registers × Bool) FrameError → Type 0
LeavesForFound e rva_map a found m rest g answer =
    (place : Option Place) × IsPlaceIn e rva_map a found place × LeavesFor place m rest g answer

abbrev pub LeavesForTarget : ExceptionView → (ℕ → Option ℕ) → Option ℕ → (ℕ → Option ℕ) → List Instruction → Registers → Result (Registers × Bool) FrameError → Type 0
LeavesForTarget e rva_map target m rest g answer =
    (place : Option Place) × IsPlace e rva_map target place × LeavesFor place m rest g answer

-- the same in an image, where the place to which it jumps is looked up
abbrev pub LeavesInImage : ExceptionView → (ℕ → Option ℕ) → (ℕ → Option ℕ) → List Instruction → Registers → Result (Registers × Bool) FrameError → Type 0
LeavesInImage e rva_map m rest g answer = LeavesForTarget e rva_map (target_of rest) m rest g answer

-- what a step returns: the rest of an epilog is run, without one the records are undone
abbrev pub StepsInImageFrom : ExceptionView → (ℕ → Option ℕ) → Option (List Instruction) → (ℕ → Option ℕ) → List UnwindInfoView → ℕ → Registers → Result (Registers × Bool) FrameError → Type 0
StepsInImageFrom e rva_map None m plan offset g answer = UndoesFunction m plan offset g answer
StepsInImageFrom e rva_map (Some rest) m plan offset g answer = LeavesInImage e rva_map m rest g answer

-- what a step in an image returns, by the records of a function, its start, the RVA in it and its code from there on
abbrev pub StepsInImage : ExceptionView → (ℕ → Option ℕ) → (ℕ → Option ℕ) → List UnwindInfoView → ℕ → ℕ → List ℕ → Registers → Result (Registers × Bool) FrameError → Type 0
StepsInImage e rva_map m plan start rva code g answer =
    StepsInImageFrom e rva_map (epilog_at plan start rva code) m plan (rva - start) g answer
