use Rattle.std.proofs.Common.{rules, length}
use Rattle.pe_image.proofs.Cited.{err_from_is_err_and, kind_of, own_whole}
use Rattle.pe_image.proofs.Ends.{too_long}
use Rattle.pe_image.proofs.write.image.ImageWriter.require_whole_pieces.Goals as goal

pub returns-in_err-needed : goal.returns-in_err-needed
returns-in_err-needed c =
    let p = err_from_is_err_and c.from_residual.result c.from_residual.ensures.1 in
    rw (p.1, p.2) (too_long (length c.args.buffer.now) (own_whole c.args.self.now c.args.optional.now) _ _ (kind_of c.in_err-needed.field-0.0) (search rules) c.in_err-needed.ensures)
