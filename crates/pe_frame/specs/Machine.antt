-- What a prolog does, an operation for each code, on a machine. Operations stand as codes do: the last one first.
use Rattle.std.specs.Prelude.{◌≡◌, ◌≢◌, ℕ, zero, suc, ◌+◌, ◌-◌, ◌*◌, ◌/◌, ◌%◌, ◌^◌, ◌<◌, ◌≤◌, ◌⊎◌, ◌&&◌, ◌||◌, ◌==◌, Bool, false, nat_lt, nat_le, if◌then◌else◌, List, [], ◌∷◌, length, slice_index, slice_set, Option, Some, None}
use Rattle.std.specs.List.{AllByRecursion}
use Rattle.pe_unwind.specs.declared.unwind_code.UnwindOperation.{UnwindOperation}
use Rattle.pe_unwind.specs.declared.unwind_code.UnwindOperation.TheVariants.{PushNonVolatile, Alloc, SetFPRegister, SaveNonVolatile, SaveXMM, Epilog, SaveXMM128, PushMachineFrame, Noop}
use Rattle.pe_frame.specs.declared.registers.Registers.{Registers}
use Rattle.pe_frame.specs.Undoing.{FrameRegister, bytes_above, stack_pointer, error_size}
use Rattle.pe_frame.specs.declared.registers.TheConstants.{RSP}

-- the number of the n bytes at an address, byte i times 256 ^ i
abbrev pub number_at : (ℕ → ℕ) → ℕ → ℕ → ℕ
number_at m a zero = 0
number_at m a (suc n) = number_at m a n + m (a + n) * 256 ^ n

-- the number of eight bytes
abbrev pub loaded : (ℕ → ℕ) → ℕ → ℕ
loaded m a = number_at m a 8

-- the bytes after a number of eight bytes is stored at an address
abbrev pub stored : (ℕ → ℕ) → ℕ → ℕ → ℕ → ℕ
stored m a v b = if nat_le a b && nat_lt b (a + 8) then v / 256 ^ (b - a) % 256 else m b

-- the bytes after a number of 16 bytes is stored
abbrev pub stored_xmm : (ℕ → ℕ) → ℕ → ℕ → ℕ → ℕ
stored_xmm m a v = stored (stored m a (v % 2 ^ 64)) (a + 8) (v / 2 ^ 64)

-- A machine: its integer registers, its XMM registers, its memory byte by byte and, once the frame register is set, the
-- base of the frame.
pub record Machine : Type 0 where
  pub general : List ℕ
  pub xmm : List ℕ
  pub memory : ℕ → ℕ
  pub frame_base : Option ℕ

-- its stack pointer
abbrev pub machine_stack_pointer : Machine → ℕ
machine_stack_pointer s = slice_index s.general RSP

-- from where saves count
abbrev pub base_by : Option ℕ → ℕ → ℕ
base_by None machine_stack_pointer = machine_stack_pointer
base_by (Some b) machine_stack_pointer = b

abbrev pub base : Machine → ℕ
base s = base_by s.frame_base (machine_stack_pointer s)

-- what an operation does: a push stores below the stack pointer, a save stores above the base of the frame
abbrev pub done : FrameRegister → UnwindOperation → Machine → Machine
done f (PushNonVolatile r) s =
    record {
      general = slice_set s.general RSP (machine_stack_pointer s - 8);
      xmm = s.xmm;
      memory = stored s.memory (machine_stack_pointer s - 8) (slice_index s.general r.0);
      frame_base = s.frame_base;
    }
done f (Alloc n) s = record { general = slice_set s.general RSP (machine_stack_pointer s - n); xmm = s.xmm; memory = s.memory; frame_base = s.frame_base }
done f SetFPRegister s =
    record { general = slice_set s.general f.register (machine_stack_pointer s + f.offset); xmm = s.xmm; memory = s.memory; frame_base = Some (machine_stack_pointer s) }
done f (SaveNonVolatile r o) s =
    record { general = s.general; xmm = s.xmm; memory = stored s.memory (base s + bytes_above o) (slice_index s.general r.0); frame_base = s.frame_base }
done f (SaveXMM128 r o) s =
    record { general = s.general; xmm = s.xmm; memory = stored_xmm s.memory (base s + bytes_above o) (slice_index s.xmm (r.0 - 17)); frame_base = s.frame_base }
done f other s = s

-- the machine after these operations
abbrev pub run : FrameRegister → List UnwindOperation → Machine → Machine
run f [] s = s
run f (o ∷ before) s = done f o (run f before s)

-- no register was saved by a store
abbrev pub SavesNone : List UnwindOperation → Type 0
SavesNone [] = Unit {0}
SavesNone (SaveNonVolatile r o ∷ before) = ⊥
SavesNone (SaveXMM128 r o ∷ before) = ⊥
SavesNone (other ∷ before) = SavesNone before

-- where a call left the return address
abbrev pub return_slots : Bool → Machine → List ℕ
return_slots called s = if called then machine_stack_pointer s ∷ [] else []

-- the addresses of eight bytes that the operations stored, or an interrupt did, and that of the return address, if a call
-- entered the code
abbrev pub slots : Bool → FrameRegister → List UnwindOperation → Machine → List ℕ
slots called f [] s = return_slots called s
slots called f (PushNonVolatile r ∷ before) s = (machine_stack_pointer (run f before s) - 8) ∷ slots called f before s
slots called f (SaveNonVolatile r o ∷ before) s = (base (run f before s) + bytes_above o) ∷ slots called f before s
slots called f (SaveXMM128 r o ∷ before) s =
    (base (run f before s) + bytes_above o) ∷ (base (run f before s) + bytes_above o + 8) ∷ slots called f before s
slots called f (PushMachineFrame e ∷ before) s = (machine_stack_pointer s + error_size e) ∷ (machine_stack_pointer s + error_size e + 24) ∷ slots called f before s
slots called f (other ∷ before) s = slots called f before s

-- eight bytes here and eight bytes there share none
abbrev pub Apart : ℕ → ℕ → Type 0
Apart a b = (a + 8 ≤ b) ⊎ (b + 8 ≤ a)

-- an integer register that can be saved: none of a greater number, and not the stack pointer
pub record IsSavable (r : ℕ) : Type 0 where
  pub number : r < 16
  pub other : r ≢ RSP

-- a register that can be the frame register: 0 says that there is none
pub record IsFrameRegister (r : ℕ) : Type 0 where
  pub savable : IsSavable r
  pub some : r ≢ 0

-- the number of an XMM register
pub record IsXmm (r : ℕ) : Type 0 where
  pub least : 17 ≤ r
  pub most : r < 33

-- the code is entered: the machine has 16 registers of 64 bits and 16 of 128, and no frame register is set
pub record IsEntered (s : Machine) : Type 0 where
  pub count : length s.general ≡ 16
  pub values : (r : ℕ) → slice_index s.general r < 2 ^ 64
  pub xmm_count : length s.xmm ≡ 16
  pub xmm_values : (r : ℕ) → slice_index s.xmm r < 2 ^ 128
  pub frame : s.frame_base ≡ None

-- without a frame register the stack pointer stays once a register was saved by a store
abbrev pub MayMove : Option ℕ → List UnwindOperation → Type 0
MayMove None before = SavesNone before
MayMove (Some b) before = Unit {0}

-- the frame register is not saved after it was set
abbrev pub MaySave : Option ℕ → ℕ → ℕ → Type 0
MaySave None register r = Unit {0}
MaySave (Some b) register r = r ≢ register

-- nothing was done before
abbrev pub IsFirst : List UnwindOperation → Type 0
IsFirst [] = Unit {0}
IsFirst (o ∷ before) = ⊥

-- An operation that a prolog may do after those before it.
-- A push or an allocation: not below address 0, nor after a save without a frame register.
-- A frame register: once.
-- A machine frame: first, where an interrupt enters and no call.
-- A save: on none of the slots, the return address among them.
abbrev pub MayFollow : Bool → FrameRegister → List UnwindOperation → Machine → Machine → UnwindOperation → Type 0
MayFollow called f before s t (PushNonVolatile r) = IsSavable r.0 × MaySave t.frame_base f.register r.0 × MayMove t.frame_base before × (8 ≤ machine_stack_pointer t)
MayFollow called f before s t (Alloc n) = MayMove t.frame_base before × (n ≤ machine_stack_pointer t)
MayFollow called f before s t SetFPRegister = IsFrameRegister f.register × (t.frame_base ≡ None) × (machine_stack_pointer t + f.offset < 2 ^ 64)
MayFollow called f before s t (SaveNonVolatile r o) =
    IsSavable r.0 × MaySave t.frame_base f.register r.0 × (base t + bytes_above o < 2 ^ 64)
    × AllByRecursion (Apart (base t + bytes_above o)) (slots called f before s)
MayFollow called f before s t (SaveXMM128 r o) =
    IsXmm r.0 × (base t + bytes_above o + 8 < 2 ^ 64)
    × AllByRecursion (Apart (base t + bytes_above o)) (slots called f before s)
    × AllByRecursion (Apart (base t + bytes_above o + 8)) (slots called f before s)
MayFollow called f before s t (Epilog a b) = Unit {0}
MayFollow called f before s t Noop = Unit {0}
MayFollow called f before s t (PushMachineFrame e) = IsFirst before × (machine_stack_pointer s + error_size e + 24 < 2 ^ 64)
MayFollow called f before s t (SaveXMM r o) = ⊥

-- a prolog that a machine may run, or the first part of one
abbrev pub IsProlog : Bool → FrameRegister → List UnwindOperation → Machine → Type 0
IsProlog called f [] s = IsEntered s
IsProlog called f (o ∷ before) s = MayFollow called f before s (run f before s) o × IsProlog called f before s

-- a register was pushed once the frame register was set
abbrev pub PushesLate : List UnwindOperation → Type 0
PushesLate [] = ⊥
PushesLate (PushNonVolatile r ∷ before) = Unit {0}
PushesLate (SetFPRegister ∷ before) = ⊥
PushesLate (other ∷ before) = PushesLate before

-- The stack pointer is where the prolog left it. With a frame register, which is as it was set, it may be anywhere below
-- unless a register was pushed late.
abbrev pub KeepsStackPointer : FrameRegister → List UnwindOperation → Option ℕ → List ℕ → Registers → Type 0
KeepsStackPointer f codes None left g = stack_pointer g ≡ slice_index left RSP
KeepsStackPointer f codes (Some b) left g =
    (stack_pointer g ≤ slice_index left RSP) × (PushesLate codes → stack_pointer g ≡ slice_index left RSP) × (slice_index g.general f.register ≡ slice_index left f.register)

-- What a body may make of the machine that a prolog leaves: all other registers, and all memory but the slots. m is what
-- is known of the memory.
pub record IsBody (called : Bool) (f : FrameRegister) (codes : List UnwindOperation) (s : Machine) (m : ℕ → Option ℕ) (g : Registers) : Type 0 where
  pub count : length g.general ≡ 16
  pub xmm_count : length g.xmm ≡ 16
  pub frame : KeepsStackPointer f codes (run f codes s).frame_base (run f codes s).general g
  pub memory : AllByRecursion (λ a. m a ≡ Some (loaded (run f codes s).memory a)) (slots called f codes s)

-- one of the operations saved the register, of the integer registers and of the XMM registers, by their numbers from 0 on
abbrev pub saves : List UnwindOperation → ℕ → Bool
saves [] r = false
saves (PushNonVolatile q ∷ before) r = q.0 == r || saves before r
saves (SaveNonVolatile q o ∷ before) r = q.0 == r || saves before r
saves (other ∷ before) r = saves before r

abbrev pub saves_xmm : List UnwindOperation → ℕ → Bool
saves_xmm [] r = false
saves_xmm (SaveXMM128 q o ∷ before) r = q.0 - 17 == r || saves_xmm before r
saves_xmm (other ∷ before) r = saves_xmm before r

-- what a register has once the operations are undone: what it had where they began, if one of them saved it; else what it has
abbrev pub chosen : Bool → ℕ → ℕ → ℕ
chosen saved old now = if saved then old else now
