-- The fields of Windows in PE32: those of 8 bytes have 4.
use Rattle.std.specs.Prelude.{◌<◌, ◌^◌}
use Rattle.pe_core.specs.declared.optional_header.WindowsFields.{WindowsFields}

-- these fields fit in 4 bytes
pub record IsPe32 (w : WindowsFields) : Type 0 where
  pub image_base : w.image_base < 2 ^ 32
  pub stack_reserve : w.size_of_stack_reserve < 2 ^ 32
  pub stack_commit : w.size_of_stack_commit < 2 ^ 32
  pub heap_reserve : w.size_of_heap_reserve < 2 ^ 32
  pub heap_commit : w.size_of_heap_commit < 2 ^ 32
