-- The first code of a stream, and the rest of a stream while it is undone. Contracts of private functions alone cite it.
use Rattle.pe_core.specs.Refusals.{◌>>=◌}
use Rattle.std.specs.Prelude.{◌≡◌, ℕ, Bool, ◌*◌, ◌<◌, ◌≤◌, false, if◌then◌else◌, List, ◌++◌, length, replicate, Option, Some, None, Result, Ok, Err}
use Rattle.pe_unwind.specs.declared.arm64.codes.Arm64UnwindCode.{Arm64UnwindCode}
use Rattle.pe_unwind.specs.declared.arm64.codes.Arm64UnwindCode.TheVariants.{SaveNext}
use Rattle.pe_unwind.specs.Arm64Encoding.{encoding, StartsWithArm64Code}
use Rattle.pe_frame.specs.declared.arm64.operation.Arm64Register.{Arm64Register}
use Rattle.pe_unwind.specs.Arm64Record.{Arm64InfoView}
use Rattle.pe_frame.specs.declared.arm64.epilog.Arm64Epilog.{Arm64Epilog}
use Rattle.pe_frame.specs.declared.arm64.registers.Arm64Registers.{Arm64Registers}
use Rattle.pe_frame.specs.Arm64Undoing.{caller_by_codes}
use Rattle.pe_frame.specs.declared.error.FrameError.{FrameError}
use Rattle.pe_frame.specs.Arm64Operations.{is_register, register_after}
use Rattle.pe_frame.specs.Arm64Steps.{is_end, LeavesIn, AreOver, AreTruncated, IsOfTruncated, HasArm64Codes}

-- the code that is first, and its size, if the codes are not over
abbrev pub IsFirstCode : List ℕ → Result (Option (Arm64UnwindCode × ℕ)) FrameError → Type 0
IsFirstCode bytes (Ok None) = AreOver bytes
IsFirstCode bytes (Ok (Some x)) =
    StartsWithArm64Code bytes x.0 × (is_end x.0 ≡ false) × (x.1 ≡ length (encoding x.0)) × (0 < x.1) × (x.1 ≤ length bytes)
IsFirstCode bytes (Err e) = AreTruncated bytes × IsOfTruncated e

-- the codes are read up to the first `end`, if none is truncated
abbrev pub read_only : Result (List Arm64UnwindCode) FrameError → Result (Unit {0}) FrameError
read_only (Ok codes) = Ok tt
read_only (Err e) = Err e

abbrev pub ReadsCodes : List ℕ → Result (Unit {0}) FrameError → Type 0
ReadsCodes bytes answer =
    (codes : Result (List Arm64UnwindCode) FrameError) × HasArm64Codes bytes codes × (answer ≡ read_only codes)

-- the registers of the n-th pair after the one that starts with a register, if they are there
abbrev pub pair_registers : ℕ → Arm64Register → Option (Arm64Register × Arm64Register)
pair_registers n r =
    let first = register_after (2 * n) r in
    if is_register (register_after 1 first) then Some (first, register_after 1 first) else None

-- so many `save_next` before codes
abbrev pub with_nexts : ℕ → List Arm64UnwindCode → List Arm64UnwindCode
with_nexts n codes = replicate n SaveNext ++ codes

-- what a step returns after the prolog, whose codes are known, by an epilog
abbrev pub StepsIn : (ℕ → Option ℕ) → Arm64InfoView → ℕ → List Arm64UnwindCode → Option Arm64Epilog → Arm64Registers → Result (Arm64Registers × Bool) FrameError → Type 0
StepsIn m i place cs epilog g answer =
    (left : Result (List Arm64UnwindCode) FrameError) × LeavesIn i place cs epilog left
    × (answer ≡ left >>= λ ds. caller_by_codes m ds g)
