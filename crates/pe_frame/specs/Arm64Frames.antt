-- Frames as a running ARM64 program leaves them.
use Rattle.std.specs.Prelude.{◌≡◌, ℕ, ◌-◌, List, drop, Option, Some, Result, Ok}
use Rattle.pe_unwind.specs.Arm64Record.{Arm64InfoView}
use Rattle.pe_unwind.specs.declared.arm64.codes.Arm64UnwindCode.{Arm64UnwindCode}
use Rattle.pe_frame.specs.declared.arm64.operation.Arm64Operation.{Arm64Operation}
use Rattle.pe_frame.specs.declared.arm64.registers.Arm64Registers.{Arm64Registers}
use Rattle.pe_frame.specs.declared.error.FrameError.{FrameError}
use Rattle.pe_frame.specs.Arm64Operations.{Arm64Effect, operations, all_effects}
use Rattle.pe_frame.specs.Arm64Steps.{StepsArm64, prolog_length}
use Rattle.pe_frame.specs.Arm64Machine.{Arm64Machine, IsArm64Prolog, IsArm64Body, IsArm64Caller}

-- the codes of a prolog, what their instructions did, and the machine where the function was entered
pub record Arm64Part : Type 0 where
  pub codes : List Arm64UnwindCode
  pub operations : List Arm64Operation
  pub entry : Arm64Machine

-- the effects of those instructions that have run, by how many of the function have
abbrev pub effects_at : ℕ → Arm64Part → List Arm64Effect
effects_at place p = all_effects (drop (prolog_length p.codes - place) p.operations)

-- the machine ran the prolog that the codes describe, and stopped in the body, or in the prolog once so much of it had run
pub record IsArm64Frame (p : Arm64Part) (place : ℕ) (m : ℕ → Option ℕ) (g : Arm64Registers) : Type 0 where
  pub known : operations p.codes ≡ Some p.operations
  pub prolog : IsArm64Prolog (all_effects p.operations) p.entry
  pub body : IsArm64Body (effects_at place p) p.entry m g

-- Each step at this place from the registers `now` returns the caller of the frame that has the registers g, of which so many
-- instructions of the prolog have run and are not undone.
abbrev pub ReturnsArm64Caller : (ℕ → Option ℕ) → Arm64InfoView → Arm64Part → ℕ → ℕ → Arm64Registers → Arm64Registers → Type 0
ReturnsArm64Caller m i p place stand g now =
    (answer : Result Arm64Registers FrameError) → StepsArm64 m i place now answer →
    (u : Arm64Registers) × (answer ≡ Ok u) × IsArm64Caller (effects_at stand p) p.entry g u
