use Rattle.std.proofs.Common.{rules, arith}
use Rattle.std.proofs.lemmas.Result.{err_from_is_err_and}
use Rattle.pe_image.proofs.Limited.{refused_by_header}
use Rattle.pe_image.proofs.core_image.Core.read_within.Goals as goal

pub returns-in_err-header-clause-core : goal.returns-in_err-header-clause-core
returns-in_err-header-clause-core g c = search (rules, arith, err_from_is_err_and, refused_by_header)
