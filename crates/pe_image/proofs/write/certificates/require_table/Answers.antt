use Rattle.std.proofs.Common.{rules, length}
use Rattle.pe_image.proofs.Cited.{err_from_is_err_and, kind_of, certificate_views, all_certificate_pieces, certificates_end}
use Rattle.pe_image.proofs.Ends.{certificates_reach, too_long}
use Rattle.pe_image.proofs.write.certificates.require_table.Goals as goal

pub returns-in_err-end : goal.returns-in_err-end
returns-in_err-end c =
    let cs = certificate_views c.args.certificates.now in
    let p = err_from_is_err_and c.from_residual.result c.from_residual.ensures.1 in
    rw (p.1, p.2) (too_long (length c.args.buffer.now) (all_certificate_pieces c.args.directory cs) (certificates_end c.args.directory cs) _ (kind_of c.in_err-end.field-0.0) (search rules) (rw (certificates_reach c.args.directory cs) c.in_err-end.ensures))
