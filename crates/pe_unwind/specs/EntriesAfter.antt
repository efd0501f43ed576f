-- Each entry of a table is read alike wherever it stands. For proofs only.
use Rattle.std.proofs.Common.{◌+◌, arith}
use Rattle.pe_core.specs.Rows.{ReadsAfter}
use Rattle.pe_core.proofs.EntryItems.{le_after}
use Rattle.pe_unwind.specs.FunctionTable.{function_at}
use Rattle.pe_unwind.specs.Arm64Functions.{arm64_function_at}
use Rattle.pe_unwind.specs.Arm64Words.{epilog_scope_at}
use Rattle.pe_unwind.specs.ScopeTable.{scope_at}

pub functions_after : ReadsAfter function_at 12
functions_after b p q e =
    simp (le_after b 12 p q 4 e, le_after b 12 (p + 4) (q + 4) 4 (omega arith), le_after b 12 (p + 8) (q + 8) 4 (omega arith))

pub arm64_functions_after : ReadsAfter arm64_function_at 8
arm64_functions_after b p q e = simp (le_after b 8 p q 4 e, le_after b 8 (p + 4) (q + 4) 4 (omega arith))

pub epilog_scopes_after : ReadsAfter epilog_scope_at 4
epilog_scopes_after b p q e = simp (le_after b 4 p q 4 e)

pub scopes_after : ReadsAfter scope_at 16
scopes_after b p q e =
    simp (le_after b 16 p q 4 e, le_after b 16 (p + 4) (q + 4) 4 (omega arith), le_after b 16 (p + 8) (q + 8) 4 (omega arith), le_after b 16 (p + 12) (q + 12) 4 (omega arith))
