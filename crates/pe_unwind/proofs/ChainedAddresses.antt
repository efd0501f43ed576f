-- The unwind address of a chained function has four bytes.
use Rattle.std.proofs.Common.{ℕ, ◌^◌, ◌<◌, List, Option, arith}
use Rattle.std.specs.Prelude.{IfSome}
use Rattle.pe_core.proofs.NumberBytes.{le_small}
use Rattle.pe_core.specs.Bytes.{AreBytes}
use Rattle.pe_unwind.specs.UnwindRecord.{ending_at, unwind_record, after_codes, flags_at}
use Rattle.pe_unwind.specs.declared.function_table.RuntimeFunction.{RuntimeFunction}

abbrev pub IsSmall : Option RuntimeFunction → Type 0
IsSmall o = IfSome o (λ f. f.unwind_info_address < 2 ^ 32)

small_ending : (b : List ℕ) (q flags : ℕ) → AreBytes b → IsSmall (ending_at b q flags).chained
unfolding ending_at
small_ending b q flags small = grind (arith, le_small)

pub small_record : (b : List ℕ) (p : ℕ) → AreBytes b → IsSmall (unwind_record b p).chained_info
unfolding unwind_record
small_record b p small = small_ending b (after_codes b p) (flags_at b p) small
