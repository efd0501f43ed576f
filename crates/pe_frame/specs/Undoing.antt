-- What undoing the operations of a prolog returns. (x64 exception handling: unwind procedure.)
use Rattle.std.specs.Prelude.{ℕ, ◌+◌, ◌-◌, ◌*◌, ◌^◌, ◌&&◌, ◌||◌, ◌==◌, not, nat_le, nat_lt, Bool, true, false, if◌then◌else◌, List, [], ◌∷◌, slice_index, slice_set, Option, Some, None, Result, Ok, Err}
use Rattle.pe_core.specs.Refusals.{◌>>=◌}
use Rattle.pe_unwind.specs.declared.unwind_code.StackFrameOffset.{StackFrameOffset}
use Rattle.pe_unwind.specs.declared.unwind_code.StackFrameOffset.TheVariants.{RSP, FP}
use Rattle.pe_unwind.specs.declared.unwind_code.UnwindCode.{UnwindCode}
use Rattle.pe_unwind.specs.declared.unwind_code.UnwindOperation.{UnwindOperation}
use Rattle.pe_unwind.specs.declared.unwind_code.UnwindOperation.TheVariants.{PushNonVolatile, Alloc, SetFPRegister, SaveNonVolatile, SaveXMM, Epilog, SaveXMM128, PushMachineFrame, Noop}
use Rattle.pe_frame.specs.declared.error.FrameError.{FrameError}
use Rattle.pe_frame.specs.declared.error.FrameError.TheVariants.{Memory, Address, Operation}
use Rattle.pe_frame.specs.declared.registers.Registers.{Registers}
use Rattle.pe_frame.specs.declared.registers.TheConstants as numbers

-- the stack pointer
abbrev pub stack_pointer : Registers → ℕ
stack_pointer g = slice_index g.general numbers.RSP

-- the same registers with another value in an integer register, in an XMM register, in the instruction pointer
abbrev pub put_register : Registers → ℕ → ℕ → Registers
put_register g r v = record { general = slice_set g.general r v; xmm = g.xmm; rip = g.rip }

abbrev pub put_xmm : Registers → ℕ → ℕ → Registers
put_xmm g r v = record { general = g.general; xmm = slice_set g.xmm r v; rip = g.rip }

abbrev pub put_rip : Registers → ℕ → Registers
put_rip g a = record { general = g.general; xmm = g.xmm; rip = a }

-- the number at an address, which the memory may not have
abbrev pub number_or : Option ℕ → ℕ → Result ℕ FrameError
number_or None a = Err (Memory a)
number_or (Some v) a = Ok v

abbrev pub number : (ℕ → Option ℕ) → ℕ → Result ℕ FrameError
number m a = number_or (m a) a

-- the address so many bytes above another
abbrev pub above : ℕ → ℕ → Result ℕ FrameError
above a n = if nat_lt (a + n) (2 ^ 64) then Ok (a + n) else Err (Address a)

-- the stack pointer goes up
abbrev pub raised : ℕ → Registers → Result Registers FrameError
raised n g = above (stack_pointer g) n >>= λ a. Ok (put_register g numbers.RSP a)

-- the number of an integer register, which is its own, and that of an XMM register, which follow the instruction pointer
abbrev pub require_integer : UnwindOperation → ℕ → Result ℕ FrameError
require_integer o r = if nat_lt r 16 then Ok r else Err (Operation o)

abbrev pub require_xmm : UnwindOperation → ℕ → Result ℕ FrameError
require_xmm o r = if nat_le 17 r && nat_lt r 33 then Ok (r - 17) else Err (Operation o)

-- how far a saved register lies above the base of the frame
abbrev pub bytes_above : StackFrameOffset → ℕ
bytes_above (RSP n) = n
bytes_above (FP n) = n

-- the 16 bytes at an address, the low eight first
abbrev pub xmm_number : (ℕ → Option ℕ) → ℕ → Result ℕ FrameError
xmm_number m a =
    number m a >>= λ low. above a 8 >>= λ b. number m b >>= λ high. Ok (low + high * 2 ^ 64)

-- the bytes of an error code, if an interrupt pushed one
abbrev pub error_size : Bool → ℕ
error_size has_error = if has_error then 8 else 0

-- an interrupt pushed ss, rsp, flags, cs and rip, from the top down
abbrev pub loaded_machine_frame : (ℕ → Option ℕ) → ℕ → Registers → Result Registers FrameError
loaded_machine_frame m a g =
    number m a >>= λ rip. above a 24 >>= λ b. number m b >>= λ rsp. Ok (put_rip (put_register g numbers.RSP rsp) rip)

-- the registers before an operation. m is the memory, base the base of the frame
abbrev pub undone : (ℕ → Option ℕ) → ℕ → UnwindOperation → Registers → Result Registers FrameError
undone m base (PushNonVolatile r) g =
    require_integer (PushNonVolatile r) r.0 >>= λ i. number m (stack_pointer g) >>= λ v. raised 8 (put_register g i v)
undone m base (Alloc n) g = raised n g
undone m base SetFPRegister g = Ok (put_register g numbers.RSP base)
undone m base (SaveNonVolatile r o) g =
    require_integer (SaveNonVolatile r o) r.0 >>= λ i. above base (bytes_above o) >>= λ a. number m a >>= λ v. Ok (put_register g i v)
undone m base (SaveXMM r o) g = Err (Operation (SaveXMM r o))
undone m base (Epilog a b) g = Ok g
undone m base (SaveXMM128 r o) g =
    require_xmm (SaveXMM128 r o) r.0 >>= λ i. above base (bytes_above o) >>= λ a. xmm_number m a >>= λ v. Ok (put_xmm g i v)
undone m base (PushMachineFrame e) g = above (stack_pointer g) (error_size e) >>= λ a. loaded_machine_frame m a g
undone m base Noop g = Ok g

-- the same of operations that ran, the last of them first
abbrev pub undone_all : (ℕ → Option ℕ) → ℕ → List UnwindOperation → Registers → Result Registers FrameError
undone_all m base [] g = Ok g
undone_all m base (o ∷ os) g = undone m base o g >>= undone_all m base os

-- the caller's registers at a function's entry: the return address is popped
abbrev pub popped : (ℕ → Option ℕ) → Registers → Result Registers FrameError
popped m g = number m (stack_pointer g) >>= λ a. raised 8 g >>= λ u. Ok (put_rip u a)

-- the same after `ret n`, which drops so many bytes more
abbrev pub popped_and_dropped : (ℕ → Option ℕ) → ℕ → Registers → Result Registers FrameError
popped_and_dropped m n g = number m (stack_pointer g) >>= λ a. raised (8 + n) g >>= λ u. Ok (put_rip u a)

-- an operation that sets the frame register; and that an interrupt did
abbrev pub sets_frame_register : UnwindOperation → Bool
sets_frame_register SetFPRegister = true
sets_frame_register other = false

abbrev pub interrupts : UnwindOperation → Bool
interrupts (PushMachineFrame e) = true
interrupts other = false

-- one of them is
abbrev pub any_sets_frame_register : List UnwindOperation → Bool
any_sets_frame_register [] = false
any_sets_frame_register (o ∷ os) = sets_frame_register o || any_sets_frame_register os

abbrev pub is_interrupted : List UnwindOperation → Bool
is_interrupted [] = false
is_interrupted (o ∷ os) = interrupts o || is_interrupted os

-- a record's frame register, 0 for none, and how far above the stack pointer it is set
pub record FrameRegister : Type 0 where
  pub register : ℕ
  pub offset : ℕ

-- the base of the frame by the frame register
abbrev pub below_register : ℕ → ℕ → Result ℕ FrameError
below_register v n = if nat_lt v n then Err (Address v) else Ok (v - n)

abbrev pub base_by_register : FrameRegister → Registers → Result ℕ FrameError
base_by_register f g =
    if f.register == 0 || not (nat_lt f.register 16) then Err (Operation SetFPRegister)
    else below_register (slice_index g.general f.register) f.offset

-- The base of the frame, from which the saves of a record count: by the frame register once it is set, until then the stack
-- pointer. A record that names the frame register and does not set it belongs to a function in which it is set already.
abbrev pub frame_base_of : FrameRegister → Bool → Bool → Registers → Result ℕ FrameError
frame_base_of f sets has_set g =
    if has_set || not (sets || f.register == 0) then base_by_register f g else Ok (stack_pointer g)

-- the instruction of a code has run: that of each code, or of one that ends at or before an offset in the prolog
abbrev pub has_run : Option ℕ → UnwindCode → Bool
has_run None c = true
has_run (Some n) c = nat_le c.code_offset n

-- the operations of the codes that have run
abbrev pub ran : Option ℕ → List UnwindCode → List UnwindOperation
ran limit [] = []
ran limit (c ∷ cs) = if has_run limit c then c.operation ∷ ran limit cs else ran limit cs

-- the registers where the code of a record was entered, and whether an interrupt entered it
abbrev pub entered : (ℕ → Option ℕ) → FrameRegister → Option ℕ → List UnwindCode → Registers → Result (Registers × Bool) FrameError
entered m f limit codes g =
    frame_base_of f (any_sets_frame_register (ran None codes)) (any_sets_frame_register (ran limit codes)) g >>= λ base.
    undone_all m base (ran limit codes) g >>= λ u. Ok (u, is_interrupted (ran limit codes))
