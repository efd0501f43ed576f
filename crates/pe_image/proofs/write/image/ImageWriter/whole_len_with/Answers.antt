use Rattle.pe_image.proofs.Cited.{err_from_is_err_and, kind_of, own_whole}
use Rattle.pe_image.proofs.Ends.{whole_too_long}
use Rattle.pe_image.proofs.write.image.ImageWriter.whole_len_with.Goals as goal

pub returns-in_err-needed : goal.returns-in_err-needed
returns-in_err-needed c =
    let p = err_from_is_err_and c.from_residual-in_err-needed.result c.from_residual-in_err-needed.ensures.1 in
    rw (p.1, p.2)
    (whole_too_long c.args.self.now.source.now _ c.args.self.now.sections.now _ (own_whole c.args.self.now c.args.optional.now) _ _ _ (kind_of c.in_err-needed.field-0.0)
    c.section_writer.ensures.source c.section_writer.ensures.sections c.in_ok-require_data.ensures c.in_err-needed.ensures)
