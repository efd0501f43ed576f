-- Steps in an image that follow a jump out of a function, as the laws speak of them.
use Rattle.std.specs.Prelude.{◌≡◌, ℕ, Bool, false, List, length, Option, Some, None, Result, Ok}
use Rattle.pe_unwind.specs.ExceptionTable.{ExceptionView, table_of}
use Rattle.pe_unwind.specs.FunctionTable.{functions, NeverFalls}
use Rattle.pe_unwind.specs.UnwindRecord.{UnwindInfoView}
use Rattle.pe_frame.specs.declared.epilog.Instruction.{Instruction}
use Rattle.pe_frame.specs.declared.error.FrameError.{FrameError}
use Rattle.pe_frame.specs.declared.registers.Registers.{Registers}
use Rattle.pe_frame.specs.EpilogFrames.{IsInEpilog}
use Rattle.pe_frame.specs.Epilogs.{epilog_at, executed_all}
use Rattle.pe_frame.specs.Frames.{AreFrames, IsCaller, Part, infos}
use Rattle.pe_frame.specs.Jumps.{IsEntry, IsPlace, Place, StepsInImage, before_last, target_of}
use Rattle.pe_frame.specs.Steps.{limit_of}

-- what a step in an image reads: its exception data, the map from RVAs to file offsets, the memory, the start of a function, an RVA
-- in it, and its code from there on
pub record ImageStep : Type 0 where
  pub exceptions : ExceptionView
  pub rva_map : ℕ → Option ℕ
  pub memory : ℕ → Option ℕ
  pub start : ℕ
  pub rva : ℕ
  pub code : List ℕ

-- the function table of the image is sorted by start RVA
abbrev pub IsSorted : ImageStep → Type 0
IsSorted s = NeverFalls (functions (table_of s.exceptions))

-- what a step returns from these registers, by the records of the function
abbrev pub StepReturns : ImageStep → List UnwindInfoView → Registers → Result (Registers × Bool) FrameError → Type 0
StepReturns s plan g answer = StepsInImage s.exceptions s.rva_map s.memory plan s.start s.rva s.code g answer

-- the code has these instructions of an epilog left
abbrev pub HasLeft : ImageStep → List UnwindInfoView → List Instruction → Type 0
HasLeft s plan rest = epilog_at plan s.start s.rva s.code ≡ Some rest

-- the last of some instructions jumps to this place in a function of the image, or to none
abbrev pub LeadsTo : ImageStep → List Instruction → Option Place → Type 0
LeadsTo s rest place = IsPlace s.exceptions s.rva_map (target_of rest) place

-- A jump from an epilog into a frame, as a running program makes it: it leads to a place in a function that the image has. The
-- instructions before it ran, from registers g on, and with the registers h that this left the machine is at that place, in a frame
-- of the function and its parts.
pub record JumpsToFrame (s : ImageStep) (rest : List Instruction) (parts : List Part) (offset : ℕ) (g h : Registers) : Type 0 where
  pub place : LeadsTo s rest (Some (record { offset = offset; plan = infos parts }))
  pub ran : executed_all s.memory (before_last rest) g ≡ Ok h
  pub frames : AreFrames s.memory parts (limit_of (infos parts) offset) h

-- a jump from an epilog to a place at which nothing of a function has run; the instructions before it run, from these registers on
pub record JumpsToEntry (s : ImageStep) (rest : List Instruction) (h : Registers) : Type 0 where
  pub target : Place
  pub last : Registers
  pub place : LeadsTo s rest (Some target)
  pub entry : IsEntry target
  pub ran : executed_all s.memory (before_last rest) h ≡ Ok last
  pub count : length last.general ≡ 16

-- the function is in an epilog, as `IsInEpilog` says
abbrev pub StandsInEpilog : ImageStep → List Part → List Instruction → List Instruction → Registers → Registers → Type 0
StandsInEpilog s parts before rest g h = IsInEpilog s.memory parts before rest s.start s.rva s.code g h

-- each step from the registers h returns the caller of the frame of these parts that has the registers g
abbrev pub ReturnsCaller : ImageStep → List Part → Registers → Registers → Type 0
ReturnsCaller s parts g h =
    (answer : Result (Registers × Bool) FrameError) → StepReturns s (infos parts) h answer →
    (u : Registers) × (answer ≡ Ok (u, false)) × IsCaller parts None g u

-- each step from the registers g, by these records, returns the caller of the frame that has the registers h, at this offset in the
-- function of these parts
abbrev pub ReturnsCallerAt : ImageStep → List UnwindInfoView → List Part → ℕ → Registers → Registers → Type 0
ReturnsCallerAt s plan parts offset g h =
    (answer : Result (Registers × Bool) FrameError) → StepReturns s plan g answer →
    (u : Registers × Bool) × (answer ≡ Ok u) × IsCaller parts (limit_of (infos parts) offset) h u.0
