-- Records of frames: a frame pointer leads to two words of the stack, the frame pointer of the caller and the return address after it.
use Rattle.std.specs.Prelude.{◌≡◌, ℕ, ◌+◌, ◌%◌, ◌<◌, ◌≤◌, ◌^◌, ◌==◌, ◌&&◌, ◌||◌, ◌⊎◌, nat_le, nat_lt, Bool, if◌then◌else◌, Option, Some, None}
use Rattle.std.specs.Option.{option_and_then, option_map}
use Rattle.pe_frame.specs.declared.chain.FrameRecord.{FrameRecord}

-- A frame pointer may lead to a record: it is aligned, and the return address is at or above the stack pointer.
abbrev pub may_lead : ℕ → ℕ → Bool
may_lead stack pointer = pointer % 8 == 0 && nat_le stack (pointer + 8) && nat_lt (pointer + 16) (2 ^ 64)

-- the frame pointer of a caller lies higher, or is 0 where no record follows
abbrev pub is_higher : ℕ → ℕ → Bool
is_higher pointer caller = caller == 0 || nat_lt pointer caller

-- what a record says of the caller: it goes on above the record
abbrev pub caller_of_record : ℕ → ℕ → ℕ → FrameRecord
caller_of_record pointer caller address = record { stack_pointer = pointer + 16; frame_pointer = caller; address = address }

-- by the frame pointer of the caller, if it is one: `returns` says of a number which return address it is
abbrev pub record_with : (ℕ → Option ℕ) → (ℕ → Option ℕ) → ℕ → ℕ → Option FrameRecord
record_with memory returns pointer caller =
    if is_higher pointer caller
    then option_map (caller_of_record pointer caller) (option_and_then returns (memory (pointer + 8))) else None

-- the record to which a frame pointer leads, above a stack pointer
abbrev pub frame_record : (ℕ → Option ℕ) → (ℕ → Option ℕ) → ℕ → ℕ → Option FrameRecord
frame_record memory returns stack pointer =
    if may_lead stack pointer then option_and_then (record_with memory returns pointer) (memory pointer) else None

-- a record of these words is there
pub record IsFrameRecord (memory returns : ℕ → Option ℕ) (stack pointer caller address : ℕ) : Type 0 where
  pub aligned : pointer % 8 ≡ 0
  pub above : stack ≤ pointer + 8
  pub fits : pointer + 16 < 2 ^ 64
  pub saved : memory pointer ≡ Some caller
  pub higher : (caller ≡ 0) ⊎ (pointer < caller)
  pub returns_there : option_and_then returns (memory (pointer + 8)) ≡ Some address
