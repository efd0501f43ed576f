use Rattle.std.proofs.Common.{rules, arith}
use Rattle.pe_image.proofs.Ends.{image_enough, image_short, image_never, whole_enough, whole_short, whole_never}
use Rattle.pe_image.proofs.laws.buffers_of_the_length_are_written.Goals as goal

pub returns : goal.returns
returns c = search (rules, arith, image_enough, image_short, image_never, whole_enough, whole_short, whole_never)
