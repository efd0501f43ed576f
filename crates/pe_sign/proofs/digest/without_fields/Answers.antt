use Rattle.pe_sign.proofs.Slices.{four_slices}
use Rattle.pe_sign.proofs.digest.without_fields.Goals as goal

pub returns : goal.returns
returns c = four_slices c.args.left_out.now c.args.part _ _ _ _ _ _ c.cut.ensures.cut c.cut-2.ensures.cut c.cut-3.ensures.cut c.requires.apart
