use Rattle.std.proofs.Common.{◌+◌, ◌-◌, rules, arith, refl}
use Rattle.std.proofs.lemmas.List.{take_rest, length-drop}
use Rattle.pe_sign.proofs.Parts.{cut_at}
use Rattle.pe_sign.proofs.Slices.{rest_to, take_to}
use Rattle.pe_sign.proofs.digest.cut.Goals as goal

pub returns : goal.returns
returns c = record {
  cut =
      let start = c.index_in-start.ensures in
      let end = c.index_in-end.ensures in
      cut_at _ _ _ _ c.saturating_add.result c.index_in-start.result c.index_in-end.result (omega (arith, c.saturating_add.ensures)) (λ h. omega (arith, h, c.saturating_add.ensures)) (omega (arith, c.saturating_add.ensures)) c.requires
      start.inside start.before start.after end.inside end.before end.after refl (search rules) refl (search (rules, take_rest, length-drop));
  before = take_to c.args.part.bytes.now (c.args.range.offset - c.args.part.offset) _ c.index_in-start.ensures.index;
  after = rest_to c.args.part.bytes.now (c.args.range.offset + c.args.range.length - c.args.part.offset) _ (omega (arith, c.index_in-end.ensures.index, c.saturating_add.ensures, c.requires));
  offset = omega (arith, c.index_in-end.ensures.index, c.saturating_add.ensures, c.requires);
}
