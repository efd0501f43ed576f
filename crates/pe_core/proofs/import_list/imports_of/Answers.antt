use Rattle.pe_core.proofs.ImportLists.{entry_names_are}
use Rattle.pe_core.proofs.import_list.imports_of.Goals as goal

pub named_imports-requires-clause-names : goal.named_imports-requires-clause-names
named_imports-requires-clause-names g c =
    entry_names_are _ _ c.args.image.now.bytes.now c.args.entries.now c.deref.result.now c.deref-2.result.now
    (rw c.deref.ensures.value c.in_ok-offsets.ensures)
    (rw c.deref-2.ensures.value c.in_ok-names.ensures)
