use Rattle.calls_directories.proofs.ExportParts.{tables_stand}
use Rattle.pe_c.proofs.laws.walks_report_the_exports.Goals as goal

pub returns-clause-tables : goal.returns-clause-tables
returns-clause-tables c = tables_stand
