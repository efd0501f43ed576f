-- Plain records: those that are chained to none, have no frame register, and whose codes pushed or saved an integer register or
-- allocated stack. Of the registers undoing them changes the integer registers alone.
use Rattle.std.specs.Prelude.{◌≡◌, ℕ, ◌<◌, ◌≤◌, false, List, length, slice_index, slice_set, Option, Some, Ok}
use Rattle.pe_unwind.specs.CodeStream.{CodeStream}
use Rattle.pe_unwind.specs.UnwindCodes.{StartsWithCode}
use Rattle.pe_unwind.specs.declared.unwind_code.UnwindOperation.{UnwindOperation}
use Rattle.pe_frame.specs.declared.registers.Registers.{Registers}
use Rattle.pe_frame.specs.Undoing.{interrupts, raised, sets_frame_register, stack_pointer}

-- the same registers with other integer registers
abbrev pub with_general : Registers → List ℕ → Registers
with_general g r = record { general = r; xmm = g.xmm; rip = g.rip }

-- these bytes of the codes of a record without a frame register are left
abbrev pub plain_stream : ℕ → List ℕ → CodeStream
plain_stream v b = record { content = b; version = v; frame = 0 }

-- In such a record the bytes start with a code of n bytes that undoes this, whatever the version is, and of which nothing is to be
-- known.
abbrev pub IsPlain : List ℕ → UnwindOperation → ℕ → Type 0
IsPlain bytes o n =
    (n ≤ length bytes) × ((v : ℕ) → StartsWithCode v 0 bytes (record { code_offset = slice_index bytes 0; operation = o }) n)
    × (sets_frame_register o ≡ false) × (interrupts o ≡ false)

-- integer registers before and after one of them is loaded with the word at an address
pub record Loads (m : ℕ → Option ℕ) (a r : ℕ) (old new : List ℕ) : Type 0 where
  pub value : ℕ
  pub within : r < 16
  pub word : m a ≡ Some value
  pub is : new ≡ slice_set old r value

-- registers before and after the return address is popped; the stack pointer is then above this one
pub record Returns (m : ℕ → Option ℕ) (p rip : ℕ) (old new : Registers) : Type 0 where
  pub word : m (stack_pointer old) ≡ Some rip
  pub up : raised 8 old ≡ Ok new
  pub rises : p < stack_pointer new
