-- What undoing ARM64 unwind codes returns. (ARM64 exception handling: unwinding.)
use Rattle.pe_core.specs.Refusals.{◌>>=◌}
use Rattle.std.specs.Prelude.{ℕ, zero, suc, ◌+◌, ◌-◌, ◌*◌, ◌/◌, ◌%◌, ◌^◌, ◌==◌, ◌||◌, nat_le, nat_lt, Bool, true, false, if◌then◌else◌, List, [], ◌∷◌, slice_index, slice_set, Option, Some, None, Result, Ok, Err}
use Rattle.pe_unwind.specs.declared.arm64.codes.Arm64CustomStackCase.TheVariants.{MachineFrame, Context, ClearUnwoundToCall}
use Rattle.pe_unwind.specs.declared.arm64.codes.Arm64UnwindCode.{Arm64UnwindCode}
use Rattle.pe_unwind.specs.declared.arm64.codes.Arm64UnwindCode.TheVariants.{CustomStack}
use Rattle.pe_frame.specs.declared.arm64.entry.Arm64Entry.{Arm64Entry}
use Rattle.pe_frame.specs.declared.arm64.operation.Arm64Operation.{Arm64Operation}
use Rattle.pe_frame.specs.declared.arm64.operation.Arm64Register.{Arm64Register}
use Rattle.pe_frame.specs.declared.arm64.operation.Arm64Register.TheVariants.{X, D}
use Rattle.pe_frame.specs.declared.arm64.registers.Arm64Registers.{Arm64Registers}
use Rattle.pe_frame.specs.declared.error.FrameError.{FrameError}
use Rattle.pe_frame.specs.declared.error.FrameError.TheVariants.{Arm64Code, NotRising}
use Rattle.pe_frame.specs.Undoing.{number, above, below_register}
use Rattle.pe_frame.specs.Arm64Operations.{Arm64Effect, Lower, Store, SetFramePointer, SignLink, effects_of, operation_in}
use Rattle.pe_frame.specs.declared.arm64.registers.TheConstants.{FRAME_POINTER, LINK_REGISTER}

-- x29 and the link register x30
abbrev pub frame_pointer : Arm64Registers → ℕ
frame_pointer g = slice_index g.general FRAME_POINTER

abbrev pub link_register : Arm64Registers → ℕ
link_register g = slice_index g.general LINK_REGISTER

-- the same registers with another value in one of them, in the stack pointer, in the instruction pointer
abbrev pub put_saved : Arm64Registers → Arm64Register → ℕ → Arm64Registers
put_saved g (X r) v = record { general = slice_set g.general r v; float = g.float; sp = g.sp; pc = g.pc }
put_saved g (D r) v = record { general = g.general; float = slice_set g.float r v; sp = g.sp; pc = g.pc }

abbrev pub put_sp : Arm64Registers → ℕ → Arm64Registers
put_sp g a = record { general = g.general; float = g.float; sp = a; pc = g.pc }

abbrev pub put_pc : Arm64Registers → ℕ → Arm64Registers
put_pc g a = record { general = g.general; float = g.float; sp = g.sp; pc = a }

-- An address without its signature. Windows has addresses of 48 bits; those of the system have all bits above them set, as
-- bit 55 is, which no signature changes, and all others have none.
abbrev pub stripped : ℕ → ℕ
stripped a = if a / 2 ^ 55 % 2 == 1 then a % 2 ^ 48 + (2 ^ 64 - 2 ^ 48) else a % 2 ^ 48

-- the registers before an effect. m is the memory
abbrev pub reverted : (ℕ → Option ℕ) → Arm64Effect → Arm64Registers → Result Arm64Registers FrameError
reverted m (Lower n) g = above g.sp n >>= λ a. Ok (put_sp g a)
reverted m (Store r o) g = above g.sp o >>= λ a. number m a >>= λ v. Ok (put_saved g r v)
reverted m (SetFramePointer n) g = below_register (frame_pointer g) n >>= λ a. Ok (put_sp g a)
reverted m SignLink g = Ok (put_saved g (X LINK_REGISTER) (stripped (link_register g)))

-- the same of effects, the last of them first
abbrev pub reverted_all : (ℕ → Option ℕ) → List Arm64Effect → Arm64Registers → Result Arm64Registers FrameError
reverted_all m [] g = Ok g
reverted_all m (e ∷ before) g = reverted m e g >>= reverted_all m before

-- ---- frames of the operating system's own (winnt.h: CONTEXT, MSFT_OP_MACHINE_FRAME, MSFT_OP_CONTEXT)

-- the stack pointer and, eight bytes above it, the instruction pointer, from so far above the stack pointer
abbrev pub loaded_pointers : (ℕ → Option ℕ) → ℕ → Arm64Registers → Result Arm64Registers FrameError
loaded_pointers m o g =
    above g.sp o >>= λ a. number m a >>= λ sp. above a 8 >>= λ b. number m b >>= λ pc. Ok (put_pc (put_sp g sp) pc)

-- The registers of a CONTEXT record by a count, and where it has them: X, which is x0 to x30, from 8 on; then d8 to d15, which
-- are the low halves of V[8] to V[15], from 190h on.
abbrev pub context_register : ℕ → Arm64Register
context_register n = if nat_lt n 31 then X n else D (n - 31)

abbrev pub context_offset : ℕ → ℕ
context_offset n = if nat_lt n 31 then 8 + 8 * n else 0x190 + 16 * (n - 31)

-- the first n of them, the last one first
unfoldable pub context_stores : ℕ → List Arm64Effect
context_stores zero = []
context_stores (suc n) = Store (context_register n) (context_offset n) ∷ context_stores n

-- the registers in a CONTEXT record at the stack pointer, with Sp at 100h and Pc at 108h
abbrev pub loaded_context : (ℕ → Option ℕ) → Arm64Registers → Result Arm64Registers FrameError
loaded_context m g = reverted_all m (context_stores 39) g >>= loaded_pointers m 0x100

-- The registers before a code that stands for no instruction: a machine frame has the stack pointer and the instruction pointer.
abbrev pub undone_custom : (ℕ → Option ℕ) → Arm64UnwindCode → Arm64Registers → Result Arm64Registers FrameError
undone_custom m (CustomStack MachineFrame) g = loaded_pointers m 0 g
undone_custom m (CustomStack Context) g = loaded_context m g
undone_custom m (CustomStack ClearUnwoundToCall) g = Ok g
undone_custom m other g = Err (Arm64Code other)

-- the registers before what the instruction of a code did, if it is known
abbrev pub undone_as : (ℕ → Option ℕ) → Arm64UnwindCode → Option Arm64Operation → Arm64Registers → Result Arm64Registers FrameError
undone_as m c None g = undone_custom m c g
undone_as m c (Some o) g = reverted_all m (effects_of o) g

-- the same of codes, the last one of the prolog first
abbrev pub undone_codes : (ℕ → Option ℕ) → List Arm64UnwindCode → Arm64Registers → Result Arm64Registers FrameError
undone_codes m [] g = Ok g
undone_codes m (c ∷ before) g = undone_as m c (operation_in before c) g >>= undone_codes m before

-- how a function was entered, by one of its codes, and by all
abbrev pub entry_by : Arm64UnwindCode → Arm64Entry
entry_by (CustomStack MachineFrame) = record { has_pc = true; is_interrupt = true }
entry_by (CustomStack Context) = record { has_pc = true; is_interrupt = true }
entry_by (CustomStack ClearUnwoundToCall) = record { has_pc = false; is_interrupt = true }
entry_by other = record { has_pc = false; is_interrupt = false }

abbrev pub joined : Arm64Entry → Arm64Entry → Arm64Entry
joined a b = record { has_pc = a.has_pc || b.has_pc; is_interrupt = a.is_interrupt || b.is_interrupt }

abbrev pub entry_of : List Arm64UnwindCode → Arm64Entry
entry_of [] = record { has_pc = false; is_interrupt = false }
entry_of (c ∷ codes) = joined (entry_by c) (entry_of codes)

-- the caller's registers at a function's entry: it returns to the link register. Its stack pointer is not below this one.
abbrev pub returned_arm64 : ℕ → Arm64Registers → Result Arm64Registers FrameError
returned_arm64 p u = if nat_le p u.sp then Ok (put_pc u (link_register u)) else Err (NotRising u.sp)

-- the caller's registers by how the function was entered, and whether no call left them: undoing has found its pointers, or it
-- returns to the link register
abbrev pub left_arm64 : ℕ → Arm64Entry → Arm64Registers → Result (Arm64Registers × Bool) FrameError
left_arm64 p e u = if e.has_pc then Ok (u, true) else returned_arm64 p u >>= λ c. Ok (c, e.is_interrupt)

-- the caller's registers, where the instructions of these codes are left to be undone
abbrev pub caller_by_list : (ℕ → Option ℕ) → List Arm64UnwindCode → Arm64Registers → Result Arm64Registers FrameError
caller_by_list m codes g = undone_codes m codes g >>= returned_arm64 g.sp

-- the same by codes of which some may be of the operating system's own frames
abbrev pub caller_by_codes : (ℕ → Option ℕ) → List Arm64UnwindCode → Arm64Registers → Result (Arm64Registers × Bool) FrameError
caller_by_codes m codes g = undone_codes m codes g >>= left_arm64 g.sp (entry_of codes)
