-- ARM64 prologs, their unwind records, and a machine that runs them.
use Rattle.std.specs.Prelude.{ℕ, ◌+◌, ◌*◌, ◌^◌, List, [], ◌∷◌, Option, Some}
use Rattle.pe_unwind.specs.declared.arm64.codes.Arm64UnwindCode.TheVariants.{AllocSmall, SaveR19R20Preindexed, SaveFpLrPreindexed, SaveRegPair, SaveRegPairPreindexed, SaveReg, SaveLrPair, SaveFRegPair, AllocMedium, SetFp, SaveNext, PacSignLr}
use Rattle.pe_frame.specs.declared.arm64.operation.Arm64Operation.TheVariants.{Allocate, Save, SavePair, SaveWithLink, SetFrame, Sign}
use Rattle.pe_frame.specs.declared.arm64.operation.Arm64Register.TheVariants.{X, D}
use Rattle.pe_frame.specs.declared.arm64.registers.Arm64Registers.{Arm64Registers}
use Rattle.pe_frame.specs.Machine.{loaded}
use Rattle.pe_frame.specs.Arm64Machine.{Arm64Machine, run_arm64}
use Rattle.pe_frame.specs.Arm64Frames.{Arm64Part, effects_at}

-- each integer register has 4096, and a signature is bit 48
abbrev pub sample_arm64_machine : Arm64Machine
sample_arm64_machine = record {
  general =
      4096 ∷ 4096 ∷ 4096 ∷ 4096 ∷ 4096 ∷ 4096 ∷ 4096 ∷ 4096 ∷ 4096 ∷ 4096 ∷ 4096 ∷ 4096 ∷ 4096 ∷ 4096 ∷ 4096 ∷ 4096 ∷
      4096 ∷ 4096 ∷ 4096 ∷ 4096 ∷ 4096 ∷ 4096 ∷ 4096 ∷ 4096 ∷ 4096 ∷ 4096 ∷ 4096 ∷ 4096 ∷ 4096 ∷ 4096 ∷ 4096 ∷ [];
  float = 7 ∷ 7 ∷ 7 ∷ 7 ∷ 7 ∷ 7 ∷ 7 ∷ 7 ∷ [];
  sp = 4096;
  memory = λ _. 0;
  sign = λ a. a + 2 ^ 48;
}

-- the machine where a part stopped, its registers, and its whole memory, known
abbrev pub stopped : ℕ → Arm64Part → Arm64Machine
stopped place p = run_arm64 (effects_at place p) p.entry

abbrev pub arm64_registers_of : Arm64Machine → Arm64Registers
arm64_registers_of s = record { general = s.general; float = s.float; sp = s.sp; pc = 0 }

abbrev pub all_known_arm64 : Arm64Machine → ℕ → Option ℕ
all_known_arm64 s a = Some (loaded s.memory a)

-- stp x29,lr,[sp,#-256]!; stp d8,d9,[sp,#224]; stp x19,x20,[sp,#240]; mov x29,sp; sub sp,sp,#512
abbrev pub chained_part : Arm64Part
chained_part = record {
  codes = AllocMedium 512 ∷ SetFp ∷ SaveRegPair 19 240 ∷ SaveFRegPair 8 224 ∷ SaveFpLrPreindexed 256 ∷ [];
  operations = Allocate 512 ∷ SetFrame 0 ∷ SavePair (X 19) (X 20) 240 0 ∷ SavePair (D 0) (D 1) 224 0 ∷ SavePair (X 29) (X 30) 0 256 ∷ [];
  entry = sample_arm64_machine;
}

abbrev pub chained_bytes : List ℕ
chained_bytes = 0xC0 ∷ 0x20 ∷ 0xE1 ∷ 0xC8 ∷ 0x1E ∷ 0xD8 ∷ 0x1C ∷ 0x9F ∷ 0xE4 ∷ 0xE3 ∷ 0xE3 ∷ 0xE3 ∷ []

-- pacibsp; stp x19,x20,[sp,#-48]!; stp x21,x22,[sp,#16]; stp x23,lr,[sp,#32]
abbrev pub signed_part : Arm64Part
signed_part = record {
  codes = SaveLrPair 23 32 ∷ SaveNext ∷ SaveR19R20Preindexed 48 ∷ PacSignLr ∷ [];
  operations = SaveWithLink (X 23) 32 ∷ SavePair (X 21) (X 22) 16 0 ∷ SavePair (X 19) (X 20) 0 48 ∷ Sign ∷ [];
  entry = sample_arm64_machine;
}

abbrev pub signed_bytes : List ℕ
signed_bytes = 0xD6 ∷ 0x84 ∷ 0xE6 ∷ 0x26 ∷ 0xFC ∷ 0xE4 ∷ 0xE3 ∷ 0xE3 ∷ []

-- stp x19,x20,[sp,#-32]!; str lr,[sp,#16]; sub sp,sp,#16, by CR 1, RegI 2 and a frame of 48 bytes
abbrev pub packed_part : Arm64Part
packed_part = record {
  codes = AllocSmall 16 ∷ SaveReg 30 16 ∷ SaveRegPairPreindexed 19 32 ∷ [];
  operations = Allocate 16 ∷ Save (X 30) 16 0 ∷ SavePair (X 19) (X 20) 0 32 ∷ [];
  entry = sample_arm64_machine;
}

abbrev pub packed_data : ℕ
packed_data = 1 + 4 * 32 + 2 ^ 16 * 2 + 2 ^ 21 * 1 + 2 ^ 23 * 3
