-- The spellings of x64 unwind codes. (x64 exception handling: unwind codes; opcodes 6 and 7 by this project's
-- profile.)
use Rattle.std.specs.Prelude.{◌≡◌, ℕ, ◌+◌, ◌*◌, ◌/◌, ◌%◌, ◌<◌, ◌≤◌, ◌⊎◌, if◌then◌else◌, ◌==◌, List, [], ◌∷◌, ◌++◌, length, take}
use Rattle.pe_core.specs.Bytes.{AreBytes}
use Rattle.pe_core.specs.Refusals.{Refusal, Short, UnwindCode as BadCode}
use Rattle.pe_unwind.specs.declared.register.Register.{Register}
use Rattle.pe_unwind.specs.declared.unwind_code.TheConstants.{UWOP_ALLOC_LARGE, UWOP_ALLOC_SMALL, UWOP_EPILOG, UWOP_PUSH_MACHFRAME, UWOP_PUSH_NONVOL, UWOP_SAVE_NONVOL, UWOP_SAVE_NONVOL_FAR, UWOP_SAVE_XMM128, UWOP_SAVE_XMM128_FAR, UWOP_SET_FPREG, UWOP_SPARE_CODE}
use Rattle.pe_unwind.specs.declared.unwind_code.StackFrameOffset.{StackFrameOffset}
use Rattle.pe_unwind.specs.declared.unwind_code.StackFrameOffset.TheVariants.{RSP, FP}
use Rattle.pe_unwind.specs.declared.unwind_code.UnwindOperation.{UnwindOperation}
use Rattle.pe_unwind.specs.declared.unwind_code.UnwindOperation.TheVariants.{PushNonVolatile, Alloc, SetFPRegister, SaveNonVolatile, SaveXMM, Epilog, SaveXMM128, PushMachineFrame, Noop}
use Rattle.pe_unwind.specs.declared.unwind_code.UnwindCode.{UnwindCode}

-- the register with a number, and the XMM register with a number
abbrev pub integer : ℕ → Register
integer n = record { 0 = n }

abbrev pub xmm : ℕ → Register
xmm n = record { 0 = n + 17 }

-- an offset from the stack pointer or, with a frame register, from the frame
abbrev pub offset : ℕ → ℕ → StackFrameOffset
offset f n = if f == 0 then RSP n else FP n

-- the operation of an opcode and its info, which these bytes follow: one case for each line of the table
abbrev pub SpellsOperation : ℕ → ℕ → ℕ → ℕ → ℕ → List ℕ → UnwindOperation → Type 0
SpellsOperation v f code_offset op info [] o =
    ((op ≡ UWOP_PUSH_NONVOL) × (o ≡ PushNonVolatile (integer info)))
    ⊎ (((op ≡ UWOP_ALLOC_SMALL) × (o ≡ Alloc (info * 8 + 8)))
    ⊎ (((op ≡ UWOP_SET_FPREG) × (o ≡ SetFPRegister))
    ⊎ (((op ≡ UWOP_EPILOG) × (v ≡ 2) × (o ≡ Epilog code_offset info))
    ⊎ ((op ≡ UWOP_PUSH_MACHFRAME) × (info < 2) × (o ≡ PushMachineFrame (info == 1))))))
SpellsOperation v f code_offset op info (a ∷ b ∷ []) o =
    ((op ≡ UWOP_ALLOC_LARGE) × (info ≡ 0) × (o ≡ Alloc ((a + 256 * b) * 8)))
    ⊎ (((op ≡ UWOP_SAVE_NONVOL) × (o ≡ SaveNonVolatile (integer info) (offset f ((a + 256 * b) * 8))))
    ⊎ (((op ≡ UWOP_EPILOG) × (v ≡ 1) × (o ≡ SaveXMM (xmm info) (offset f ((a + 256 * b) * 16))))
    ⊎ ((op ≡ UWOP_SAVE_XMM128) × (o ≡ SaveXMM128 (xmm info) (offset f ((a + 256 * b) * 16))))))
SpellsOperation v f code_offset op info (a ∷ b ∷ c ∷ d ∷ []) o =
    ((op ≡ UWOP_ALLOC_LARGE) × (info ≡ 1) × (o ≡ Alloc (a + 256 * b + 65536 * c + 16777216 * d)))
    ⊎ (((op ≡ UWOP_SAVE_NONVOL_FAR) × (o ≡ SaveNonVolatile (integer info) (offset f (a + 256 * b + 65536 * c + 16777216 * d))))
    ⊎ (((op ≡ UWOP_SPARE_CODE) × (v ≡ 1) × (o ≡ SaveXMM128 (xmm info) (offset f (a + 256 * b + 65536 * c + 16777216 * d))))
    ⊎ (((op ≡ UWOP_SPARE_CODE) × (v ≡ 2) × (o ≡ Noop))
    ⊎ ((op ≡ UWOP_SAVE_XMM128_FAR) × (o ≡ SaveXMM128 (xmm info) (offset f (a + 256 * b + 65536 * c + 16777216 * d)))))))
SpellsOperation v f code_offset op info other o = ⊥

-- the bytes spell the code, for version v and frame register f
abbrev pub Spells : ℕ → ℕ → List ℕ → UnwindCode → Type 0
Spells v f (code_offset ∷ second ∷ more) code =
    (code.code_offset ≡ code_offset) × SpellsOperation v f code_offset (second % 16) (second / 16) more code.operation
Spells v f other code = ⊥

-- the bytes start with the code, which has n bytes
abbrev pub StartsWithCode : ℕ → ℕ → List ℕ → UnwindCode → ℕ → Type 0
StartsWithCode v f bytes code n = (n ≤ length bytes) × Spells v f (take n bytes) code

-- the bytes start with no code
abbrev pub StartsWithNoCode : ℕ → ℕ → List ℕ → Type 0
StartsWithNoCode v f bytes = (code : UnwindCode) (n : ℕ) → StartsWithCode v f bytes code n → ⊥

-- the bytes are a truncated code: some missing bytes make them whole
pub record IsTruncatedCode (v f : ℕ) (bytes : List ℕ) : Type 0 where
  pub code : UnwindCode
  pub missing : List ℕ
  pub are_bytes : AreBytes missing
  pub some : 0 < length missing
  pub spelled : Spells v f (bytes ++ missing) code

-- the refusal of bytes that start with no code
abbrev pub IsCodeRefusal : ℕ → ℕ → List ℕ → Refusal → Type 0
IsCodeRefusal v f bytes Short = IsTruncatedCode v f bytes
IsCodeRefusal v f bytes BadCode = IsTruncatedCode v f bytes → ⊥
IsCodeRefusal v f bytes other = ⊥
