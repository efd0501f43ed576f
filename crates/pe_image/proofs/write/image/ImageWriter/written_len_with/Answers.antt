use Rattle.pe_image.proofs.Cited.{Some, err_from_is_err_and, header_view, optional_header_view, kind_of, own_pieces}
use Rattle.pe_image.proofs.Ends.{image_too_long}
use Rattle.pe_image.proofs.write.image.ImageWriter.written_len_with.Goals as goal

pub returns-in_err-needed : goal.returns-in_err-needed
returns-in_err-needed c =
    let p = err_from_is_err_and c.from_residual-in_err-needed.result c.from_residual-in_err-needed.ensures.1 in
    rw (p.1, p.2)
    (image_too_long c.args.self.now.source.now (header_view c.args.self.now.header.now) (optional_header_view c.args.optional.now) c.args.self.now.sections.now
    (own_pieces c.args.self.now c.args.optional.now (Some c.args.optional.now.windows_fields.file_alignment)) _ _ _ (kind_of c.in_err-needed.field-0.0)
    c.in_ok-require_fields.ensures.returned c.in_err-needed.ensures)
