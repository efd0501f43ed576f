use Rattle.std.proofs.Common.{rules, arith}
use Rattle.pe_image.proofs.Cited.{err_from_is_err_and}
use Rattle.pe_image.proofs.Overlays.{overlay_in_turn}
use Rattle.pe_image.proofs.Rows.{refused_too, written_too}
use Rattle.pe_image.proofs.write.image.ImageWriter.write_whole_with.Goals as goal

pub returns-in_err-end : goal.returns-in_err-end
returns-in_err-end c = search (rules, arith, err_from_is_err_and, refused_too)

pub returns : goal.returns
returns c = search (rules, arith, written_too, overlay_in_turn)
