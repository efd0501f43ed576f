use Rattle.std.proofs.Common.{arith}
use Rattle.pe_core.specs.Imports.{import_data_view}
use Rattle.pe_core.proofs.NamesRead.{libraries_read}
use Rattle.pe_core.proofs.import.ImportData.libraries_with_map.Goals as goal

pub returns-clause-listed : goal.returns-clause-listed
returns-clause-listed g c =
    libraries_read _ _ (import_data_view c.args.self.now) c.in_ok-offsets.offsets.items c.deref-2.result.now c.deref-3.result.now _ _ (omega arith)
    (rw c.deref.ensures.value at c.in_ok-offsets.ensures)
    (rw c.deref-2.ensures.value c.keep_once.ensures)
    (rw c.deref-3.ensures.value c.in_ok-texts.ensures)
    c.in_ok-names.ensures c.sort_once.ensures
