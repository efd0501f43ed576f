use Rattle.std.proofs.Common.{rules, arith}
use Rattle.std.proofs.lemmas.Result.{err_from_is_err_and}
use Rattle.pe_image.proofs.Images.{from_core}
use Rattle.pe_image.proofs.Limited.{core_within, image_within, refused_within_unless}
use Rattle.pe_image.proofs.Requests.{asks_for_certificates}
use Rattle.pe_image.proofs.SectionsFirst.{sections_given}
use Rattle.pe_image.proofs.pe.PE.parse_with_limits.Goals as goal

pub returns-in_err-core-clause-image : goal.returns-in_err-core-clause-image
returns-in_err-core-clause-image g c = search (rules, arith, err_from_is_err_and, refused_within_unless)

pub returns : goal.returns
returns g c = record {
  image = image_within _ _ _ _ _ c.in_ok-core.ensures.core (from_core _ _ _ _ (core_within _ _ _ _ c.in_ok-core.ensures.core) c.with_core.ensures.image);
  memory = asks_for_certificates _ _ _ _ (core_within _ _ _ _ c.in_ok-core.ensures.core) c.with_core.ensures.memory;
  sections = sections_given _ _ _ (from_core _ _ _ _ (core_within _ _ _ _ c.in_ok-core.ensures.core) c.with_core.ensures.image);
  libraries = search rules;
  source = search rules;
}
