use Rattle.pe_image.proofs.Permissive.{one_image, some_image}
use Rattle.pe_image.proofs.laws.images_are_one.Goals as goal

pub returns : goal.returns
returns c = record { exists = some_image c.resources_have_an_answer.ensures.resource; one = one_image c.resources_have_one_answer.ensures.resource }
