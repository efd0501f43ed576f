-- One step of a stack walk on ARM64: the registers of a function's caller, by the function's unwind data in an image.
use Rattle.std.specs.Prelude.{◌≡◌, ℕ, zero, suc, ◌-◌, ◌/◌, Bool, if◌then◌else◌, List, Option, Some, None, Result, Ok, Err}
use Rattle.pe_core.specs.Refusals.{Refusal, ◌>>=◌}
use Rattle.pe_unwind.specs.Arm64Record.{Arm64InfoView}
use Rattle.pe_unwind.specs.Arm64Unwinding.{info_by}
use Rattle.pe_unwind.specs.declared.arm64.function.Arm64RuntimeFunction.{Arm64RuntimeFunction}
use Rattle.pe_frame.specs.Arm64Steps.{StepsOutArm64}
use Rattle.pe_frame.specs.Arm64Undoing.{put_pc, link_register}
use Rattle.pe_frame.specs.Arm64Walks.{stepped_out_packed}
use Rattle.pe_frame.specs.MemoryLists.{memory_of}
use Rattle.pe_frame.specs.declared.arm64.registers.Arm64Registers.{Arm64Registers}
use Rattle.pe_frame.specs.declared.error.FrameError.{FrameError}
use Rattle.pe_frame.specs.declared.memory_list.MemoryPiece.{MemoryPiece}
use Rattle.calls_base.specs.HandsOut.{result_number}
use Rattle.calls_stacks.specs.StackFrames.{OverPieces, error_number, error_address}
use Rattle.calls_stacks.specs.declared.arm64.frames.Arm64FrameRegisters.{Arm64FrameRegisters}
use Rattle.calls_stacks.specs.declared.arm64.frames.Arm64StackFrame.{Arm64StackFrame}
use Rattle.calls_base.specs.declared.results.TheConstants.{DONE}
use Rattle.calls_base.specs.Views.{map_of}
use Rattle.calls_base.specs.declared.view.View.{View}

-- ---- unwind data

-- an item that may be absent, or what refuses it
abbrev pub if_present : {X : Type 0} → Option (Result X Refusal) → Result (Option X) Refusal
if_present None = Ok None
if_present (Some item) = item >>= λ x. Ok (Some x)

-- the unwind record of a function in an image, none where its unwind data are packed; or what refuses it
abbrev pub arm64_info_of : View → Arm64RuntimeFunction → Result (Option Arm64InfoView) Refusal
arm64_info_of v f = if_present (info_by (map_of v) v.bytes.now f)

-- ---- registers

-- the registers that a caller of the library passes
abbrev pub arm64_registers_of : Arm64FrameRegisters → Arm64Registers
arm64_registers_of g = record { general = g.general; float = g.floats; sp = g.sp; pc = g.pc }

-- registers as such a caller gets them
abbrev pub flat_arm64_registers : Arm64Registers → Arm64FrameRegisters
flat_arm64_registers g = record { general = g.general; floats = g.float; sp = g.sp; pc = g.pc }

-- ---- steps

-- a frame with the address that an error speaks of, if it speaks of one
abbrev pub at_arm64_address : Arm64StackFrame → Option ℕ → Arm64StackFrame
at_arm64_address frame None = frame
at_arm64_address frame (Some a) = record frame { address = a }

-- The number that a step returns, and the frame after it: the registers of the caller, and whether no call left it; or an error's
-- number, with the address that it speaks of. Nothing else of the frame changes.
abbrev pub HandsOutArm64Left : ℕ → Arm64StackFrame → Arm64StackFrame → Result (Arm64Registers × Bool) FrameError → Type 0
HandsOutArm64Left number old new (Ok u) =
    (number ≡ DONE) × (new ≡ record old { registers = flat_arm64_registers u.0; interrupted = if u.1 then 1 else 0 })
HandsOutArm64Left number old new (Err e) = (number ≡ error_number e) × (new ≡ at_arm64_address old (error_address e))

-- how many instructions before the frame's RVA its function has
abbrev pub place_of : Arm64StackFrame → ℕ
place_of frame = (frame.rva - (frame.function).begin_address) / 4

-- the same by the unwind data of the frame's function: a step of pe_frame over this memory
abbrev pub HandsOutArm64By : (ℕ → Option ℕ) → ℕ → Arm64StackFrame → Arm64StackFrame → Result (Option Arm64InfoView) Refusal → Type 0
HandsOutArm64By memory number old new (Err refusal) = (number ≡ result_number refusal) × (new ≡ old)
HandsOutArm64By memory number old new (Ok None) =
    HandsOutArm64Left number old new
    (stepped_out_packed memory (old.function).unwind_data (place_of old) (arm64_registers_of old.registers))
HandsOutArm64By memory number old new (Ok (Some info)) =
    (left : Result (Arm64Registers × Bool) FrameError)
    × StepsOutArm64 memory info (place_of old) (arm64_registers_of old.registers) left
    × HandsOutArm64Left number old new left

-- a frame after a leaf function has returned: its caller goes on at the link register
abbrev pub left_arm64 : Arm64StackFrame → Arm64StackFrame
left_arm64 frame =
    let g = arm64_registers_of frame.registers in
    record frame { registers = flat_arm64_registers (put_pc g (link_register g)); interrupted = 0 }

-- What a step over this memory returns, and the frame after it: 0 says that lookup found the frame's function, any other number that
-- it is a leaf.
abbrev pub HandsOutArm64Over : ℕ → View → (ℕ → Option ℕ) → ℕ → Arm64StackFrame → Arm64StackFrame → Type 0
HandsOutArm64Over zero image memory number old new = HandsOutArm64By memory number old new (arm64_info_of image old.function)
HandsOutArm64Over (suc n) image memory number old new = (number ≡ DONE) × (new ≡ left_arm64 old)

-- what a call for a step returns, and the frame after it
abbrev pub HandsOutArm64Step : View → List ℕ → List MemoryPiece → ℕ → Arm64StackFrame → Arm64StackFrame → Type 0
HandsOutArm64Step image memory pieces number old new =
    OverPieces (new ≡ old) number (λ word. HandsOutArm64Over old.leaf image word number old new) (memory_of memory pieces)
