use Rattle.std.proofs.lemmas.Result.{err_from_is_err_and}
use Rattle.pe_core.proofs.ImportLists.{entries-refused}
use Rattle.pe_core.proofs.import.lookups_at.Goals as goal

pub returns-in_err-require_bytes : goal.returns-in_err-require_bytes
returns-in_err-require_bytes c =
    let p = err_from_is_err_and c.from_residual.result c.from_residual.ensures.1 in
    rw (p.1, p.2) (entries-refused _ _ _ _ _ _ c.loop-count.invariant (rw c.lookup_size-size.ensures at c.in_err-require_bytes.ensures))
