-- The registers that contexts have. Which parts were saved, the flags say.
use Rattle.std.specs.Prelude.{ℕ, ◌+◌, ◌*◌, ◌/◌, ◌%◌, ◌==◌, List, [], ◌∷◌, Some, None, Result, if◌then◌else◌}
use Rattle.pe_core.specs.Bytes.{le, holds}
use Rattle.pe_core.specs.Refusals.{outcome}
use Rattle.pe_core.specs.Rows.{each}
use Rattle.pe_minidump.specs.Refusals.{DumpRefusal, ContextFlags, ContextSize, Machine}
use Rattle.pe_minidump.specs.declared.context_arm64.ContextArm64.{ContextArm64}
use Rattle.pe_minidump.specs.declared.context_arm64.TheConstants.{CONTEXT_ARM64}
use Rattle.pe_minidump.specs.declared.context_x64.ContextX64.{ContextX64}
use Rattle.pe_minidump.specs.declared.context_x64.TheConstants.{CONTEXT_AMD64}

-- x64: the registers by their numbers, rax first, and the XMM registers if bit 3 of the flags says that they were saved
unfoldable pub context_x64 : List ℕ → Result ContextX64 DumpRefusal
context_x64 b =
    outcome (
    (holds b 0 1232, ContextSize)
    ∷ (le b 48 4 / CONTEXT_AMD64 % 2 == 1, Machine)
    ∷ (le b 48 4 % 4 == 3, ContextFlags) ∷ []
    ) (record {
      context_flags = le b 48 4;
      eflags = le b 68 4;
      general = each (λ k. le b (120 + 8 * k) 8) 16;
      rip = le b 248 8;
      xmm = if le b 48 4 / 8 % 2 == 1 then Some (each (λ k. le b (416 + 16 * k) 16) 16) else None;
    })

-- ARM64: x0 to x30, and the vector registers if bit 2 of the flags says that they were saved
unfoldable pub context_arm64 : List ℕ → Result ContextArm64 DumpRefusal
context_arm64 b =
    outcome (
    (holds b 0 912, ContextSize)
    ∷ (le b 0 4 / CONTEXT_ARM64 % 2 == 1, Machine)
    ∷ (le b 0 4 % 4 == 3, ContextFlags) ∷ []
    ) (record {
      context_flags = le b 0 4;
      cpsr = le b 4 4;
      x = each (λ k. le b (8 + 8 * k) 8) 31;
      sp = le b 256 8;
      pc = le b 264 8;
      v = if le b 0 4 / 4 % 2 == 1 then Some (each (λ k. le b (272 + 16 * k) 16) 32) else None;
    })
