-- The bytes of ARM64 unwind codes: one line for each line of Microsoft's table. (ARM64 exception handling: unwind
-- codes; reserved codes by this project's profile.)
use Rattle.std.specs.Prelude.{◌≡◌, nat_eq, ℕ, zero, suc, ◌+◌, ◌-◌, ◌*◌, ◌/◌, ◌%◌, ◌^◌, ◌<◌, ◌≤◌, ◌⊎◌, Bool, true, false, if◌then◌else◌, List, [], ◌∷◌, ◌++◌, length, drop}
use Rattle.pe_unwind.specs.declared.arm64.codes.Arm64CustomStackCase.{Arm64CustomStackCase}
use Rattle.pe_unwind.specs.declared.arm64.codes.Arm64CustomStackCase.TheVariants.{TrapFrame, MachineFrame, Context, EcContext, ClearUnwoundToCall}
use Rattle.pe_unwind.specs.declared.arm64.codes.Arm64UnwindCode.{Arm64UnwindCode}
use Rattle.pe_unwind.specs.declared.arm64.codes.Arm64UnwindCode.TheVariants.{AllocSmall, SaveR19R20Preindexed, SaveFpLr, SaveFpLrPreindexed, AllocMedium, SaveRegPair, SaveRegPairPreindexed, SaveReg, SaveRegPreindexed, SaveLrPair, SaveFRegPair, SaveFRegPairPreindexed, SaveFReg, SaveFRegPreindexed, AllocZ, AllocLarge, SetFp, AddFp, Nop, End, EndC, SaveNext, SaveAnyReg, SaveZReg, SavePReg, CustomStack, PacSignLr, Reserved}

-- a flag as one bit
abbrev pub bit : Bool → ℕ
bit true = 1
bit false = 0

-- the unit of an offset of SaveAnyReg: 16 for a pair, for a preindexed store and for kind 2, else 8
abbrev pub scale : ℕ → Bool → Bool → ℕ
scale kind true preindexed = 16
scale kind false true = 16
scale kind false false = if nat_eq kind 2 then 16 else 8

-- the byte of a frame of the operating system's own
abbrev pub case_byte : Arm64CustomStackCase → ℕ
case_byte TrapFrame = 0xE8
case_byte MachineFrame = 0xE9
case_byte Context = 0xEA
case_byte EcContext = 0xEB
case_byte ClearUnwoundToCall = 0xEC

-- a reserved opcode, followed by a value in this many bytes, the highest first
abbrev pub reserved_bytes : ℕ → ℕ → ℕ → List ℕ
reserved_bytes opcode value zero = opcode ∷ []
reserved_bytes opcode value (suc zero) = opcode ∷ value ∷ []
reserved_bytes opcode value (suc (suc zero)) = opcode ∷ (value / 256) ∷ (value % 256) ∷ []
reserved_bytes opcode value (suc (suc (suc zero))) = opcode ∷ (value / 65536) ∷ (value / 256 % 256) ∷ (value % 256) ∷ []
reserved_bytes opcode value (suc (suc (suc (suc n)))) = opcode ∷ (value / 16777216) ∷ (value / 65536 % 256) ∷ (value / 256 % 256) ∷ (value % 256) ∷ []

-- the bytes of a code
abbrev pub encoding : Arm64UnwindCode → List ℕ
encoding (AllocSmall size) = (size / 16) ∷ []
encoding (SaveR19R20Preindexed offset) = (0x20 + offset / 8) ∷ []
encoding (SaveFpLr offset) = (0x40 + offset / 8) ∷ []
encoding (SaveFpLrPreindexed offset) = (0x80 + (offset - 8) / 8) ∷ []
encoding (AllocMedium size) = (0xC0 + size / 16 / 256) ∷ (size / 16 % 256) ∷ []
encoding (SaveRegPair register offset) = (0xC8 + (register - 19) / 4) ∷ (64 * ((register - 19) % 4) + offset / 8) ∷ []
encoding (SaveRegPairPreindexed register offset) = (0xCC + (register - 19) / 4) ∷ (64 * ((register - 19) % 4) + (offset - 8) / 8) ∷ []
encoding (SaveReg register offset) = (0xD0 + (register - 19) / 4) ∷ (64 * ((register - 19) % 4) + offset / 8) ∷ []
encoding (SaveRegPreindexed register offset) = (0xD4 + (register - 19) / 8) ∷ (32 * ((register - 19) % 8) + (offset - 8) / 8) ∷ []
encoding (SaveLrPair register offset) = (0xD6 + (register - 19) / 2 / 4) ∷ (64 * ((register - 19) / 2 % 4) + offset / 8) ∷ []
encoding (SaveFRegPair register offset) = (0xD8 + (register - 8) / 4) ∷ (64 * ((register - 8) % 4) + offset / 8) ∷ []
encoding (SaveFRegPairPreindexed register offset) = (0xDA + (register - 8) / 4) ∷ (64 * ((register - 8) % 4) + (offset - 8) / 8) ∷ []
encoding (SaveFReg register offset) = (0xDC + (register - 8) / 4) ∷ (64 * ((register - 8) % 4) + offset / 8) ∷ []
encoding (SaveFRegPreindexed register offset) = 0xDE ∷ (32 * (register - 8) + (offset - 8) / 8) ∷ []
encoding (AllocZ count) = 0xDF ∷ count ∷ []
encoding (AllocLarge size) = 0xE0 ∷ (size / 16 / 65536) ∷ (size / 16 / 256 % 256) ∷ (size / 16 % 256) ∷ []
encoding SetFp = 0xE1 ∷ []
encoding Nop = 0xE3 ∷ []
encoding End = 0xE4 ∷ []
encoding EndC = 0xE5 ∷ []
encoding SaveNext = 0xE6 ∷ []
encoding (AddFp imm8 offset) = 0xE2 ∷ imm8 ∷ []
encoding (SaveAnyReg kind pair preindexed register offset) =
    0xE7 ∷ (64 * bit pair + 32 * bit preindexed + register) ∷ (64 * kind + offset / scale kind pair preindexed) ∷ []
encoding (SaveZReg register offset) = 0xE7 ∷ (32 * (offset / 64) + register) ∷ (192 + offset % 64) ∷ []
encoding (SavePReg register offset) = 0xE7 ∷ (32 * (offset / 64) + 16 + register) ∷ (192 + offset % 64) ∷ []
encoding (CustomStack what) = case_byte what ∷ []
encoding PacSignLr = 0xFC ∷ []
encoding (Reserved opcode value n) = reserved_bytes opcode value n

-- the reserved opcodes that this many bytes follow, and the values that those bytes hold
abbrev pub IsReserved : ℕ → ℕ → ℕ → Type 0
IsReserved opcode value zero = (value ≡ 0) × (((0xED ≤ opcode) × (opcode ≤ 0xF7)) ⊎ ((0xFD ≤ opcode) × (opcode ≤ 0xFF)))
IsReserved opcode value (suc zero) = ((opcode ≡ 0xE7) × (128 ≤ value) × (value < 256)) ⊎ ((opcode ≡ 0xF8) × (value < 256))
IsReserved opcode value (suc (suc zero)) = (opcode ≡ 0xF9) × (value < 65536)
IsReserved opcode value (suc (suc (suc zero))) = (opcode ≡ 0xFA) × (value < 2 ^ 24)
IsReserved opcode value (suc (suc (suc (suc zero)))) = (opcode ≡ 0xFB) × (value < 2 ^ 32)
IsReserved opcode value (suc (suc (suc (suc (suc n))))) = ⊥

-- the table has this code: each field is in its range
abbrev pub Legal : Arm64UnwindCode → Type 0
Legal (AllocSmall size) = (size % 16 ≡ 0) × (size / 16 < 32)
Legal (SaveR19R20Preindexed offset) = (offset % 8 ≡ 0) × (offset / 8 < 32)
Legal (SaveFpLr offset) = (offset % 8 ≡ 0) × (offset / 8 < 64)
Legal (SaveFpLrPreindexed offset) = (8 ≤ offset) × (offset % 8 ≡ 0) × ((offset - 8) / 8 < 64)
Legal (AllocMedium size) = (size % 16 ≡ 0) × (size / 16 < 2048)
Legal (SaveRegPair register offset) = (19 ≤ register) × (register < 35) × (offset % 8 ≡ 0) × (offset / 8 < 64)
Legal (SaveRegPairPreindexed register offset) = (19 ≤ register) × (register < 35) × (8 ≤ offset) × (offset % 8 ≡ 0) × ((offset - 8) / 8 < 64)
Legal (SaveReg register offset) = (19 ≤ register) × (register < 35) × (offset % 8 ≡ 0) × (offset / 8 < 64)
Legal (SaveRegPreindexed register offset) = (19 ≤ register) × (register < 35) × (8 ≤ offset) × (offset % 8 ≡ 0) × ((offset - 8) / 8 < 32)
Legal (SaveLrPair register offset) = (19 ≤ register) × (register < 35) × ((register - 19) % 2 ≡ 0) × (offset % 8 ≡ 0) × (offset / 8 < 64)
Legal (SaveFRegPair register offset) = (8 ≤ register) × (register < 16) × (offset % 8 ≡ 0) × (offset / 8 < 64)
Legal (SaveFRegPairPreindexed register offset) = (8 ≤ register) × (register < 16) × (8 ≤ offset) × (offset % 8 ≡ 0) × ((offset - 8) / 8 < 64)
Legal (SaveFReg register offset) = (8 ≤ register) × (register < 16) × (offset % 8 ≡ 0) × (offset / 8 < 64)
Legal (SaveFRegPreindexed register offset) = (8 ≤ register) × (register < 16) × (8 ≤ offset) × (offset % 8 ≡ 0) × ((offset - 8) / 8 < 32)
Legal (AllocZ count) = count < 256
Legal (AllocLarge size) = (size % 16 ≡ 0) × (size / 16 < 2 ^ 24)
Legal SetFp = Unit {0}
Legal Nop = Unit {0}
Legal End = Unit {0}
Legal EndC = Unit {0}
Legal SaveNext = Unit {0}
Legal (AddFp imm8 offset) = (imm8 < 256) × (offset ≡ 8 * imm8)
Legal (SaveAnyReg kind pair preindexed register offset) =
    (kind < 3) × (register < 32) × (offset % scale kind pair preindexed ≡ 0) × (offset / scale kind pair preindexed < 64)
Legal (SaveZReg register offset) = (register < 16) × (offset < 256)
Legal (SavePReg register offset) = (register < 16) × (offset < 256)
Legal (CustomStack what) = Unit {0}
Legal PacSignLr = Unit {0}
Legal (Reserved opcode value n) = IsReserved opcode value n

-- the bytes start with those of this legal code
pub record StartsWithArm64Code (bytes : List ℕ) (code : Arm64UnwindCode) : Type 0 where
  pub legal : Legal code
  pub spelled : bytes ≡ encoding code ++ drop (length (encoding code)) bytes

-- the bytes start with no code
abbrev pub StartsWithNoArm64Code : List ℕ → Type 0
StartsWithNoArm64Code bytes = (code : Arm64UnwindCode) → StartsWithArm64Code bytes code → ⊥

-- the bytes are a truncated legal code: some more bytes make them whole
pub record IsTruncatedArm64Code (bytes : List ℕ) : Type 0 where
  pub code : Arm64UnwindCode
  pub missing : List ℕ
  pub legal : Legal code
  pub some : 0 < length missing
  pub spelled : bytes ++ missing ≡ encoding code
