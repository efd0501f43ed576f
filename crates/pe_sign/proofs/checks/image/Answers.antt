use Rattle.std.proofs.Common.{rules, arith}
use Rattle.pe_sign.proofs.Cited.{err_from_is_err_and}
use Rattle.pe_sign.proofs.Tests.{section_refused}
use Rattle.pe_sign.proofs.checks.image.Goals as goal

pub returns-in_err-require_sections-clause-parts : goal.returns-in_err-require_sections-clause-parts
returns-in_err-require_sections-clause-parts c = search (rules, arith, err_from_is_err_and, section_refused)
