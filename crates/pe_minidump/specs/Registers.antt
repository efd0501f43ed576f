-- What it says that registers are those of a context: written as bytes they are the bytes of the context.
use Rattle.std.specs.Prelude.{◌≡◌, ℕ, List, Option, Some, None}
use Rattle.std.specs.List.{flat_map}
use Rattle.pe_core.specs.Bytes.{bytes_of, range}
use Rattle.pe_minidump.specs.declared.context_arm64.ContextArm64.{ContextArm64}
use Rattle.pe_minidump.specs.declared.context_x64.ContextX64.{ContextX64}

-- registers of so many bytes each, one after the other
abbrev pub spelled : ℕ → List ℕ → List ℕ
spelled width registers = flat_map (bytes_of width) registers

-- registers that may not have been saved stand there if they were
abbrev pub StandAt : ℕ → Option (List ℕ) → List ℕ → Type 0
StandAt width None bytes = Unit {0}
StandAt width (Some registers) bytes = spelled width registers ≡ bytes

-- the registers of a context on x64: rax to r15, rip, and xmm0 to xmm15
pub record AreX64 (b : List ℕ) (c : ContextX64) : Type 0 where
  pub general : spelled 8 c.general ≡ range b 120 128
  pub rip : bytes_of 8 c.rip ≡ range b 248 8
  pub xmm : StandAt 16 c.xmm (range b 416 256)

-- those on ARM64: x0 to x30, sp, pc, and v0 to v31
pub record AreArm64 (b : List ℕ) (c : ContextArm64) : Type 0 where
  pub x : spelled 8 c.x ≡ range b 8 248
  pub sp : bytes_of 8 c.sp ≡ range b 256 8
  pub pc : bytes_of 8 c.pc ≡ range b 264 8
  pub v : StandAt 16 c.v (range b 272 512)
