-- A step's registers are those of what it returns with its cause.
use Rattle.std.proofs.Common.{◌≡◌, ℕ, Bool, List, Option, Result, Ok, arith, rules}
use Rattle.pe_frame.proofs.Cited.{◌>>=◌, UnwindInfoView, StepsWithCode, StepsOut, Steps, UndoesFunction, registers_alone, FrameError}
use Rattle.pe_frame.proofs.Cited.{Registers}

pub alone : {R : Type 0} (y : Result R FrameError) (b : Bool) → registers_alone (y >>= λ c. Ok (c, b)) ≡ y
alone y b = grind arith

pub registers_of_step : (m : ℕ → Option ℕ) (plan : List UnwindInfoView) (offset : ℕ) (g : Registers) (left : Result (Registers × Bool) FrameError) → UndoesFunction m plan offset g left → Steps m plan offset g (registers_alone left)
registers_of_step m plan offset g left h = grind (arith, alone)

pub registers_of_step_with_code : (m : ℕ → Option ℕ) (plan : List UnwindInfoView) (start rva : ℕ) (code : List ℕ) (g : Registers) (left : Result (Registers × Bool) FrameError) → StepsOut m plan start rva code g left → StepsWithCode m plan start rva code g (registers_alone left)
registers_of_step_with_code m plan start rva code g left h = search (rules, arith, registers_of_step, alone)
