use Rattle.std.proofs.Common.{rules, arith}
use Rattle.pe_image.proofs.ExceptionFields.{content_of_bytes, alignment_of_image}
use Rattle.pe_image.proofs.laws.exception_data_are_of_the_bytes.Goals as goal

pub returns : goal.returns
returns c = search (rules, arith, content_of_bytes, alignment_of_image)
