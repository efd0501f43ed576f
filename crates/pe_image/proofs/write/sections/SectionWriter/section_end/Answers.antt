use Rattle.std.proofs.Common.{rules, arith}
use Rattle.std.proofs.lemmas.Result.{err_from_is_err_and}
use Rattle.pe_image.proofs.Ends.{header_impossible}
use Rattle.pe_image.proofs.write.sections.SectionWriter.section_end.Goals as goal

pub returns-in_err-header-clause-end : goal.returns-in_err-header-clause-end
returns-in_err-header-clause-end c = search (rules, arith, err_from_is_err_and, header_impossible)
