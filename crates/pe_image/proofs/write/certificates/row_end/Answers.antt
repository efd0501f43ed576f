use Rattle.pe_image.proofs.Cited.{err_from_is_err_and, kind_of, certificate_view, certificate_views}
use Rattle.pe_image.proofs.Ends.{row_refused}
use Rattle.pe_image.proofs.write.certificates.row_end.Goals as goal

pub returns-in_err-offset : goal.returns-in_err-offset
returns-in_err-offset c =
    let p = err_from_is_err_and c.from_residual.result c.from_residual.ensures.1 in
    rw (p.1, p.2) (row_refused c.args.start (certificate_views c.args.certificates.now) c.loop-certificate.offset (certificate_view c.in-Some.certificate) (certificate_views c.loop-certificate.left) (certificate_views c.in-Some.rest) _ (kind_of c.in_err-offset.field-0.0) c.in-Some.ensures c.loop-certificate.invariant c.in_err-offset.ensures)
