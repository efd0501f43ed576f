use Rattle.std.proofs.Common.{ℕ, Bool, List, length, refl, rules, arith}
use Rattle.pe_image.proofs.Cited.{err_from_is_err_and, HeaderView, OptionalHeaderView, header_view, optional_header_view, Refusal}
use Rattle.pe_image.proofs.Cited.{kind_of, SectionTable, CertificateView, certificate_views, Piece, overlay, image_end}
use Rattle.pe_image.proofs.Cited.{image_pieces, image_tests}
use Rattle.pe_image.proofs.Overlays.{overlay_in_turn}
use Rattle.pe_image.proofs.Rows.{refused_too, written_too}
use Rattle.pe_image.proofs.write.image.ImageWriter.write_with.Goals as goal

pub returns-in_err-end : goal.returns-in_err-end
returns-in_err-end c =
    let old : List ℕ = c.args.buffer.now in
    let b : List ℕ = c.args.self.now.source.now in
    let h : HeaderView = header_view c.args.self.now.header.now in
    let o : OptionalHeaderView = optional_header_view c.args.optional.now in
    let sections : List SectionTable = c.args.self.now.sections.now in
    let cs : List CertificateView = certificate_views c.args.self.now.certificates in
    let pieces : List Piece = image_pieces b h o sections cs in
    let tests : List (Bool × Refusal) = image_tests b h o sections (length old) pieces in
    let p = err_from_is_err_and c.from_residual.result c.from_residual.ensures.1 in
    rw (p.1, p.2) (refused_too {Y = ℕ × List ℕ} tests (image_end h o sections cs) (image_end h o sections cs, overlay old pieces) (kind_of c.in_err-end.field-0.0) c.in_err-end.ensures.returned, refl)

pub returns : goal.returns
returns c = search (rules, arith, written_too, overlay_in_turn)
