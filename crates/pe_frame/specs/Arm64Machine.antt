-- What a prolog does on an ARM64 machine, effect by effect, the last one first.
use Rattle.std.specs.Prelude.{◌≡◌, ◌≢◌, ℕ, ◌+◌, ◌-◌, ◌^◌, ◌<◌, ◌≤◌, ◌⊎◌, ◌||◌, ◌==◌, Bool, true, false, List, [], ◌∷◌, length, slice_index, slice_set, Option, Some}
use Rattle.std.specs.List.{AllByRecursion}
use Rattle.pe_frame.specs.declared.arm64.operation.Arm64Register.{Arm64Register}
use Rattle.pe_frame.specs.declared.arm64.operation.Arm64Register.TheVariants.{X, D}
use Rattle.pe_frame.specs.declared.arm64.registers.Arm64Registers.{Arm64Registers}
use Rattle.pe_frame.specs.Machine.{loaded, stored, Apart, chosen}
use Rattle.pe_frame.specs.Arm64Operations.{Arm64Effect, Lower, Store, SetFramePointer, SignLink, is_register}
use Rattle.pe_frame.specs.Arm64Undoing.{frame_pointer, link_register, stripped}
use Rattle.pe_frame.specs.declared.arm64.registers.TheConstants.{FRAME_POINTER, LINK_REGISTER}

-- A machine: x0 to x30, d8 to d15, its stack pointer, its memory byte by byte, and what signing makes of an address.
pub record Arm64Machine : Type 0 where
  pub general : List ℕ
  pub float : List ℕ
  pub sp : ℕ
  pub memory : ℕ → ℕ
  pub sign : ℕ → ℕ

-- what a register has
abbrev pub held : Arm64Machine → Arm64Register → ℕ
held s (X r) = slice_index s.general r
held s (D r) = slice_index s.float r

-- the machine after an effect
abbrev pub caused : Arm64Effect → Arm64Machine → Arm64Machine
caused (Lower n) s = record { general = s.general; float = s.float; sp = s.sp - n; memory = s.memory; sign = s.sign }
caused (Store r o) s = record { general = s.general; float = s.float; sp = s.sp; memory = stored s.memory (s.sp + o) (held s r); sign = s.sign }
caused (SetFramePointer n) s = record { general = slice_set s.general FRAME_POINTER (s.sp + n); float = s.float; sp = s.sp; memory = s.memory; sign = s.sign }
caused SignLink s = record { general = slice_set s.general LINK_REGISTER (s.sign (slice_index s.general LINK_REGISTER)); float = s.float; sp = s.sp; memory = s.memory; sign = s.sign }

-- the machine after these effects
abbrev pub run_arm64 : List Arm64Effect → Arm64Machine → Arm64Machine
run_arm64 [] s = s
run_arm64 (e ∷ before) s = caused e (run_arm64 before s)

-- the addresses of eight bytes that were stored
abbrev pub stored_at : List Arm64Effect → Arm64Machine → List ℕ
stored_at [] s = []
stored_at (Store r o ∷ before) s = ((run_arm64 before s).sp + o) ∷ stored_at before s
stored_at (other ∷ before) s = stored_at before s

-- x29 was set to the frame
abbrev pub sets_frame_pointer : List Arm64Effect → Bool
sets_frame_pointer [] = false
sets_frame_pointer (SetFramePointer n ∷ before) = true
sets_frame_pointer (other ∷ before) = sets_frame_pointer before

-- x29 is not stored once it is set
abbrev pub KeepsFramePointer : Bool → Arm64Register → Type 0
KeepsFramePointer false r = Unit {0}
KeepsFramePointer true r = r ≢ X FRAME_POINTER

-- An effect that a prolog may have after those before it, on the machine that these left.
-- The stack pointer: not below address 0.
-- A store: on none of the bytes that were stored, nor of x29 once that is set.
-- x29: once.
-- A signature: one that is taken off again.
abbrev pub MayCome : List Arm64Effect → Arm64Machine → Arm64Machine → Arm64Effect → Type 0
MayCome before s t (Lower n) = n ≤ t.sp
MayCome before s t (Store r o) =
    (is_register r ≡ true) × KeepsFramePointer (sets_frame_pointer before) r × (t.sp + o < 2 ^ 64)
    × AllByRecursion (Apart (t.sp + o)) (stored_at before s)
MayCome before s t (SetFramePointer n) = (sets_frame_pointer before ≡ false) × (t.sp + n < 2 ^ 64)
MayCome before s t SignLink =
    (t.sign (slice_index t.general LINK_REGISTER) < 2 ^ 64) × (stripped (t.sign (slice_index t.general LINK_REGISTER)) ≡ slice_index t.general LINK_REGISTER)

-- the function is entered: its registers have 64 bits
pub record IsArm64Entered (s : Arm64Machine) : Type 0 where
  pub count : length s.general ≡ 31
  pub values : (r : ℕ) → slice_index s.general r < 2 ^ 64
  pub float_count : length s.float ≡ 8
  pub float_values : (r : ℕ) → slice_index s.float r < 2 ^ 64
  pub stack : s.sp < 2 ^ 64

-- a prolog that a machine may run, or the first part of one
abbrev pub IsArm64Prolog : List Arm64Effect → Arm64Machine → Type 0
IsArm64Prolog [] s = IsArm64Entered s
IsArm64Prolog (e ∷ before) s = MayCome before s (run_arm64 before s) e × IsArm64Prolog before s

-- a register was stored once x29 was set
abbrev pub StoresLate : List Arm64Effect → Type 0
StoresLate [] = ⊥
StoresLate (Store r o ∷ before) = Unit {0}
StoresLate (SetFramePointer n ∷ before) = ⊥
StoresLate (other ∷ before) = StoresLate before

-- The stack pointer is where the prolog left it. Once x29 is set, and is as it was set, it may be anywhere below unless a
-- register was stored after that.
abbrev pub KeepsStackPointerArm64 : Bool → List Arm64Effect → Arm64Machine → Arm64Registers → Type 0
KeepsStackPointerArm64 false effects t g = g.sp ≡ t.sp
KeepsStackPointerArm64 true effects t g =
    (g.sp ≤ t.sp) × (StoresLate effects → g.sp ≡ t.sp) × (frame_pointer g ≡ slice_index t.general FRAME_POINTER)

-- one of the effects stored the register, of x0 to x30 and of d8 to d15
abbrev pub stores : List Arm64Effect → ℕ → Bool
stores [] r = false
stores (Store (X q) o ∷ before) r = q == r || stores before r
stores (other ∷ before) r = stores before r

abbrev pub stores_float : List Arm64Effect → ℕ → Bool
stores_float [] r = false
stores_float (Store (D q) o ∷ before) r = q == r || stores_float before r
stores_float (other ∷ before) r = stores_float before r

-- What a body may make of the machine that a prolog leaves: all registers but the link register if it was not stored, and
-- all memory but what was stored. m is what is known of the memory.
pub record IsArm64Body (effects : List Arm64Effect) (s : Arm64Machine) (m : ℕ → Option ℕ) (g : Arm64Registers) : Type 0 where
  pub count : length g.general ≡ 31
  pub float_count : length g.float ≡ 8
  pub stack : KeepsStackPointerArm64 (sets_frame_pointer effects) effects (run_arm64 effects s) g
  pub link : (stores effects LINK_REGISTER ≡ true) ⊎ (link_register g ≡ slice_index (run_arm64 effects s).general LINK_REGISTER)
  pub memory : AllByRecursion (λ a. m a ≡ Some (loaded (run_arm64 effects s).memory a)) (stored_at effects s)

-- the registers of the caller: where the function was entered, those that the prolog stored, and else those that there are
pub record IsArm64Caller (effects : List Arm64Effect) (s : Arm64Machine) (g u : Arm64Registers) : Type 0 where
  pub stack : u.sp ≡ s.sp
  pub returns : u.pc ≡ slice_index s.general LINK_REGISTER
  pub link : link_register u ≡ slice_index s.general LINK_REGISTER
  pub registers : (r : ℕ) → r ≢ LINK_REGISTER → slice_index u.general r ≡ chosen (stores effects r) (slice_index s.general r) (slice_index g.general r)
  pub floats : (r : ℕ) → slice_index u.float r ≡ chosen (stores_float effects r) (slice_index s.float r) (slice_index g.float r)
