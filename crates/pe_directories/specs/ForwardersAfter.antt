-- Each forwarder is read alike wherever it stands. For proofs only.
use Rattle.std.proofs.Common.{◌+◌, arith}
use Rattle.pe_core.specs.Rows.{ReadsAfter}
use Rattle.pe_core.proofs.EntryItems.{le_after}
use Rattle.pe_directories.specs.BoundImports.{bound_forwarder_at}

pub forwarders_after : ReadsAfter bound_forwarder_at 8
forwarders_after b p q e = simp (le_after b 8 p q 4 e, le_after b 8 (p + 4) (q + 4) 2 (omega arith))
