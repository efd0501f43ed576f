use Rattle.pe_image.proofs.Permissive.{refused_as_the_core}
use Rattle.pe_image.proofs.laws.permissive_images_are_refused_as_their_core.Goals as goal

pub returns : goal.returns
returns c = refused_as_the_core
