-- What the instruction of each ARM64 unwind code did in the prolog. (ARM64 exception handling: unwind codes.)
use Rattle.std.specs.Prelude.{ℕ, ◌+◌, ◌-◌, ◌*◌, ◌==◌, ◌&&◌, nat_le, nat_lt, Bool, true, false, if◌then◌else◌, List, [], ◌∷◌, ◌++◌, Option, Some, None}
use Rattle.std.specs.Option.{option_map, option_and_then}
use Rattle.pe_unwind.specs.declared.arm64.codes.Arm64UnwindCode.{Arm64UnwindCode}
use Rattle.pe_unwind.specs.declared.arm64.codes.Arm64UnwindCode.TheVariants.{AllocSmall, SaveR19R20Preindexed, SaveFpLr, SaveFpLrPreindexed, AllocMedium, SaveRegPair, SaveRegPairPreindexed, SaveReg, SaveRegPreindexed, SaveLrPair, SaveFRegPair, SaveFRegPairPreindexed, SaveFReg, SaveFRegPreindexed, AllocLarge, SetFp, AddFp, Nop, End, EndC, SaveNext, SaveAnyReg, PacSignLr}
use Rattle.pe_frame.specs.declared.arm64.operation.Arm64Operation.{Arm64Operation}
use Rattle.pe_frame.specs.declared.arm64.operation.Arm64Operation.TheVariants.{Allocate, Save, SavePair, SaveWithLink, SaveEach, SetFrame, Sign, Nothing}
use Rattle.pe_frame.specs.declared.arm64.operation.Arm64Register.{Arm64Register}
use Rattle.pe_frame.specs.declared.arm64.operation.Arm64Register.TheVariants.{X, D}
use Rattle.pe_frame.specs.declared.arm64.registers.TheConstants.{FRAME_POINTER, LINK_REGISTER}

-- the register so many after another
abbrev pub register_after : ℕ → Arm64Register → Arm64Register
register_after n (X r) = X (r + n)
register_after n (D r) = D (r + n)

-- x0 to x30, and d8 to d15, which count from 0
abbrev pub is_register : Arm64Register → Bool
is_register (X r) = nat_lt r 31
is_register (D r) = nat_lt r 8

-- a register was stored o bytes above the stack pointer, once that had moved n bytes down
abbrev pub save : Arm64Register → ℕ → ℕ → Option Arm64Operation
save r o n = if is_register r then Some (Save r o n) else None

-- the same of a register and the next one
abbrev pub save_pair : Arm64Register → ℕ → ℕ → Option Arm64Operation
save_pair r o n =
    if is_register (register_after 1 r) then Some (SavePair r (register_after 1 r) o n) else None

-- the same of a register and the link register, where the stack pointer stayed
abbrev pub save_with_link : Arm64Register → ℕ → Option Arm64Operation
save_with_link r o = if is_register r then Some (SaveWithLink r o) else None

-- codes of floating-point registers, whose number 8 is that of d8
abbrev pub float_operation : Arm64UnwindCode → Option Arm64Operation
float_operation (SaveFRegPair r o) = save_pair (D (r - 8)) o 0
float_operation (SaveFRegPairPreindexed r n) = save_pair (D (r - 8)) 0 n
float_operation (SaveFReg r o) = save (D (r - 8)) o 0
float_operation (SaveFRegPreindexed r n) = save (D (r - 8)) 0 n
float_operation other = None

-- codes of integer registers, and these
abbrev pub save_operation : Arm64UnwindCode → Option Arm64Operation
save_operation (SaveR19R20Preindexed n) = save_pair (X 19) 0 n
save_operation (SaveFpLr o) = save_pair (X FRAME_POINTER) o 0
save_operation (SaveFpLrPreindexed n) = save_pair (X FRAME_POINTER) 0 n
save_operation (SaveRegPair r o) = save_pair (X r) o 0
save_operation (SaveRegPairPreindexed r n) = save_pair (X r) 0 n
save_operation (SaveReg r o) = save (X r) o 0
save_operation (SaveRegPreindexed r n) = save (X r) 0 n
save_operation (SaveLrPair r o) = save_with_link (X r) o
save_operation other = float_operation other

-- `save_any_reg`: a register of some kind by its number, and the next one if it stores a pair. The kinds are integer registers (0),
-- the low halves of vectors (1) and vectors (2). Of vectors the low halves of v8 to v15 are restored, d8 to d15: a function need not
-- preserve anything else of one, so from other slots nothing is loaded.
abbrev pub any_register : ℕ → ℕ → Option Arm64Register
any_register kind r =
    if kind == 0 then Some (X r) else (if nat_le 8 r && nat_lt r 16 then Some (D (r - 8)) else None)

-- None where there is no such register. How far a preindexed store moves the stack pointer is not known: by Microsoft's page so many
-- bytes, by assemblers 16 more.
abbrev pub any_operation : ℕ → Bool → Bool → ℕ → ℕ → Option Arm64Operation
any_operation kind pair preindexed r o =
    if preindexed then None
    else (if nat_lt (r + (if pair then 1 else 0)) (if kind == 0 then 31 else 32)
    then Some (SaveEach (any_register kind r) (if pair then any_register kind (r + 1) else None) o (if kind == 2 then 16 else 8))
    else None)

-- All codes but `save_next`. None of one that is not undone: of scalable vectors, of a frame of the operating system's own,
-- reserved, or for a register that there is not.
abbrev pub operation_of : Arm64UnwindCode → Option Arm64Operation
operation_of (AllocSmall n) = Some (Allocate n)
operation_of (AllocMedium n) = Some (Allocate n)
operation_of (AllocLarge n) = Some (Allocate n)
operation_of SetFp = Some (SetFrame 0)
operation_of (AddFp b n) = Some (SetFrame n)
operation_of PacSignLr = Some Sign
operation_of (SaveAnyReg kind pair preindexed r o) = any_operation kind pair preindexed r o
operation_of Nop = Some Nothing
operation_of End = Some Nothing
operation_of EndC = Some Nothing
operation_of other = save_operation other

abbrev pub is_save_next : Arm64UnwindCode → Bool
is_save_next SaveNext = true
is_save_next other = false

-- the n-th pair after a pair, each 16 bytes above the one before it
abbrev pub pair_after : ℕ → Arm64Operation → Option Arm64Operation
pair_after n (SavePair r q o moved) = save_pair (register_after (2 * n) r) (o + 16 * n) 0
pair_after n other = None

-- what the n-th `save_next` in a row did, by the codes of the instructions before these
abbrev pub next_operation : ℕ → List Arm64UnwindCode → Option Arm64Operation
next_operation n [] = None
next_operation n (c ∷ before) =
    if is_save_next c then next_operation (n + 1) before else option_and_then (pair_after n) (operation_of c)

-- what the instruction of a code did, by the codes of those before it
abbrev pub operation_in : List Arm64UnwindCode → Arm64UnwindCode → Option Arm64Operation
operation_in before c = if is_save_next c then next_operation 1 before else operation_of c

-- The effects of an instruction: the stack pointer moves down; a register is stored so far above it; x29 is set so far above
-- it; the link register is signed.
pub data Arm64Effect : Type 0 where
  Lower : ℕ → Arm64Effect
  Store : Arm64Register → ℕ → Arm64Effect
  SetFramePointer : ℕ → Arm64Effect
  SignLink : Arm64Effect

-- a store, if the slot has a register that is restored
abbrev pub store_some : Option Arm64Register → ℕ → List Arm64Effect
store_some None o = []
store_some (Some r) o = Store r o ∷ []

-- those of an operation, the last one first
abbrev pub effects_of : Arm64Operation → List Arm64Effect
effects_of (Allocate n) = Lower n ∷ []
effects_of (Save r o n) = Store r o ∷ Lower n ∷ []
effects_of (SavePair r q o n) = Store r o ∷ Store q (o + 8) ∷ Lower n ∷ []
effects_of (SaveWithLink r o) = Store r o ∷ Store (X LINK_REGISTER) (o + 8) ∷ Lower 0 ∷ []
effects_of (SaveEach a b o apart) = store_some a o ++ store_some b (o + apart)
effects_of (SetFrame n) = SetFramePointer n ∷ []
effects_of Sign = SignLink ∷ []
effects_of Nothing = []

-- the operations of codes, which both stand the last one first. None if one of the codes is not undone
abbrev pub operations : List Arm64UnwindCode → Option (List Arm64Operation)
operations [] = Some []
operations (c ∷ before) =
    option_and_then (λ o. option_map (λ os. o ∷ os) (operations before)) (operation_in before c)

-- the effects of operations
abbrev pub all_effects : List Arm64Operation → List Arm64Effect
all_effects [] = []
all_effects (o ∷ before) = effects_of o ++ all_effects before
