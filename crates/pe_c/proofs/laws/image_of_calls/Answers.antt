use Rattle.pe_c.proofs.OneImage.{image_is_of_calls}
use Rattle.pe_c.proofs.laws.image_of_calls.Goals as goal

pub returns : goal.returns
returns c = image_is_of_calls c.resources_have_an_answer.ensures.resource c.resources_have_one_answer.ensures.range c.images_are_one.ensures.exists
