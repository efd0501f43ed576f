-- What the first slot of an x64 unwind code says. Only contracts of private functions cite it.
use Rattle.std.specs.Prelude.{ℕ, ◌+◌, ◌*◌, ◌/◌, ◌%◌, if◌then◌else◌, nat_lt, ◌==◌, ◌||◌, [], ◌∷◌, Option, Some, None}
use Rattle.pe_unwind.specs.UnwindCodes.{SpellsOperation, offset}
use Rattle.pe_unwind.specs.declared.unwind_code.FirstSlot.{FirstSlot}
use Rattle.pe_unwind.specs.declared.unwind_code.FirstSlot.TheVariants.{Whole, Scaled, Long}
use Rattle.pe_unwind.specs.declared.unwind_code.Operand.{Operand}
use Rattle.pe_unwind.specs.declared.unwind_code.Operand.TheVariants.{StackSize, Integer, HalfOfXMM, XMM, Unused}
use Rattle.pe_unwind.specs.declared.unwind_code.TheConstants.{UWOP_ALLOC_LARGE, UWOP_ALLOC_SMALL, UWOP_EPILOG, UWOP_PUSH_MACHFRAME, UWOP_PUSH_NONVOL, UWOP_SAVE_NONVOL, UWOP_SAVE_NONVOL_FAR, UWOP_SAVE_XMM128, UWOP_SAVE_XMM128_FAR, UWOP_SET_FPREG, UWOP_SPARE_CODE}
use Rattle.pe_unwind.specs.declared.unwind_code.UnwindOperation.{UnwindOperation}
use Rattle.pe_unwind.specs.declared.unwind_code.UnwindOperation.TheVariants.{Alloc, SaveNonVolatile, SaveXMM, SaveXMM128, Noop}

-- how many slots a code with this version, opcode and operation info has, if there is such a code
abbrev pub slots_at : ℕ → ℕ → ℕ → Option ℕ
slots_at v op info =
    if op == UWOP_PUSH_NONVOL then Some 1
    else (if op == UWOP_ALLOC_LARGE then (if info == 0 then Some 2 else (if info == 1 then Some 3 else None))
    else (if op == UWOP_ALLOC_SMALL then Some 1
    else (if op == UWOP_SET_FPREG then Some 1
    else (if op == UWOP_SAVE_NONVOL then Some 2
    else (if op == UWOP_SAVE_NONVOL_FAR then Some 3
    else (if op == UWOP_EPILOG then (if v == 1 then Some 2 else (if v == 2 then Some 1 else None))
    else (if op == UWOP_SPARE_CODE then (if v == 1 || v == 2 then Some 3 else None)
    else (if op == UWOP_SAVE_XMM128 then Some 2
    else (if op == UWOP_SAVE_XMM128_FAR then Some 3
    else (if op == UWOP_PUSH_MACHFRAME then (if nat_lt info 2 then Some 1 else None) else None))))))))))

-- the operation that has an operand of this kind
abbrev pub with_operand : Operand → ℕ → ℕ → UnwindOperation
with_operand StackSize f n = Alloc n
with_operand (Integer r) f n = SaveNonVolatile r (offset f n)
with_operand (HalfOfXMM r) f n = SaveXMM r (offset f n)
with_operand (XMM r) f n = SaveXMM128 r (offset f n)
with_operand Unused f n = Noop

-- how many slots a code has whose first slot says this
abbrev pub slots_of : FirstSlot → ℕ
slots_of (Whole o) = 1
slots_of (Scaled operand unit) = 2
slots_of (Long operand) = 3

-- a first slot of these two bytes says this: with the bytes of an operand it spells the operation
abbrev pub IsFirstSlot : ℕ → ℕ → ℕ → FirstSlot → Type 0
IsFirstSlot v code_offset second (Whole o) =
    (f : ℕ) → SpellsOperation v f code_offset (second % 16) (second / 16) [] o
IsFirstSlot v code_offset second (Scaled operand unit) =
    (f a b : ℕ) → SpellsOperation v f code_offset (second % 16) (second / 16) (a ∷ b ∷ [])
    (with_operand operand f ((a + 256 * b) * unit))
IsFirstSlot v code_offset second (Long operand) =
    (f a b c d : ℕ) → SpellsOperation v f code_offset (second % 16) (second / 16) (a ∷ b ∷ c ∷ d ∷ [])
    (with_operand operand f (a + 256 * b + 65536 * c + 16777216 * d))
