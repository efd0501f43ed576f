use Rattle.std.proofs.Common.{rules, arith}
use Rattle.pe_image.proofs.Cited.{err_from_is_err_and, header_view, optional_header_view, certificate_views}
use Rattle.pe_image.proofs.Ends.{headers_impossible, sections_impossible, certificates_impossible}
use Rattle.pe_image.proofs.write.image.ImageWriter.ends.Goals as goal

pub returns-in_err-headers : goal.returns-in_err-headers
returns-in_err-headers c = search (rules, arith, err_from_is_err_and, headers_impossible)

pub returns-in_err-sections : goal.returns-in_err-sections
returns-in_err-sections c =
    let p = err_from_is_err_and c.from_residual-in_err-sections.result c.from_residual-in_err-sections.ensures.1 in
    rw (p.1, p.2) (sections_impossible c.args.unit c.args.self.now.source.now (header_view c.args.self.now.header.now) (optional_header_view c.args.optional.now) c.args.self.now.sections.now (certificate_views c.args.self.now.certificates) _ _ _ c.in_err-sections.ensures)

pub returns-in_err-certificates : goal.returns-in_err-certificates
returns-in_err-certificates c = search (rules, arith, err_from_is_err_and, certificates_impossible)
