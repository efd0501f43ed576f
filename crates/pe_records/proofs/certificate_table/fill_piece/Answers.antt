use Rattle.std.proofs.Common.{refl, ap, ◌∙◌, ◌++◌, ℕ, List, replicate, rules}
use Rattle.pe_records.proofs.CertificatePieces.{piece_is, end_length}
use Rattle.pe_records.proofs.certificate_table.fill_piece.Goals as goal

pub returns : goal.returns
returns c =
    piece_is c.args.piece.now c.args.header c.copy_from_slice.new.self c.args.body.now c.copy_from_slice-2.new.self c.fill.new.self _ c.copy_from_slice.ensures.after c.copy_from_slice-2.ensures.after (search rules) refl
    ∙ ap (λ (z : List ℕ). c.args.header ++ c.args.body.now ++ z) (c.fill.ensures.after (λ y h. search rules) ∙ ap (λ (n : ℕ). replicate n 0)
    (end_length c.args.piece.now c.args.header c.copy_from_slice.new.self c.args.body.now c.copy_from_slice-2.new.self _ c.copy_from_slice.ensures.after c.copy_from_slice-2.ensures.after (search rules) (search rules) refl))
