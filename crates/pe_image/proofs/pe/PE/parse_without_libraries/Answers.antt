use Rattle.std.proofs.Common.{rules, arith}
use Rattle.std.proofs.lemmas.Result.{err_from_is_err_and}
use Rattle.pe_image.proofs.Images.{core_refused_unless, from_core}
use Rattle.pe_image.proofs.Requests.{asks_for_certificates}
use Rattle.pe_image.proofs.SectionsFirst.{sections_given}
use Rattle.pe_image.proofs.pe.PE.parse_without_libraries.Goals as goal

pub returns-in_err-core-clause-image : goal.returns-in_err-core-clause-image
returns-in_err-core-clause-image g c = search (rules, arith, err_from_is_err_and, core_refused_unless)

pub returns-clause-image : goal.returns-clause-image
returns-clause-image g c = from_core _ _ _ _ c.in_ok-core.ensures.core c.with_core.ensures.image

pub returns-clause-sections : goal.returns-clause-sections
returns-clause-sections g c = sections_given _ _ _ (from_core _ _ _ _ c.in_ok-core.ensures.core c.with_core.ensures.image)

pub returns-clause-memory : goal.returns-clause-memory
returns-clause-memory g c = asks_for_certificates _ _ _ _ c.in_ok-core.ensures.core c.with_core.ensures.memory
