use Rattle.std.proofs.Common.{arith}
use Rattle.pe_core.proofs.ImportLists.{names_are}
use Rattle.pe_core.proofs.import.records_at.Goals as goal

pub named_records-requires-clause-names : goal.named_records-requires-clause-names
named_records-requires-clause-names g c =
    names_are _ c.args.image.now.bytes.now c.args.offset c.count_records-count.result c.deref.result.now c.deref-4.result.now (omega arith) (rw c.deref.ensures.value c.in_ok-offsets.ensures) (rw c.deref-4.ensures.value c.in_ok-names.ensures)
