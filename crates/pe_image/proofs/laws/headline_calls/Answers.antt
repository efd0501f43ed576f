use Rattle.std.proofs.Common.{rules, arith}
use Rattle.pe_image.proofs.ExceptionFields.{entries_of_table}
use Rattle.pe_image.proofs.HeadlineCalls.{finds_scanned}
use Rattle.pe_image.proofs.laws.headline_calls.Goals as goal

pub returns-clause-lookup : goal.returns-clause-lookup
returns-clause-lookup c = search (rules, arith, finds_scanned)

pub returns-clause-entries : goal.returns-clause-entries
returns-clause-entries c = search (rules, arith, entries_of_table)
