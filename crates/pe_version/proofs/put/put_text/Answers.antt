use Rattle.std.proofs.Common.{List, ℕ, length, ap, ◌∙◌, arith}
use Rattle.pe_version.proofs.Cited.{splice, part_of, text_block, padded_block}
use Rattle.pe_version.proofs.Heads.{text_put}
use Rattle.pe_version.proofs.put.put_text.Goals as goal

pub returns-clause-after : goal.returns-clause-after
returns-clause-after c =
    let key : List ℕ = c.part_of-key.result.now in
    let value : List ℕ = c.part_of-value.result.now in
    text_put (record { name = key; text = value }) c.args.out.now c.put_head.new.out c.set_slice.new.buffer c.set_zeros.new.buffer c.args.at c.rounded_up-start.result c.rounded_up-end.result
    (omega (arith, c.requires.room, ap length c.part_of-key.ensures, ap length c.part_of-value.ensures)) c.rounded_up-start.ensures.up c.rounded_up-end.ensures.up c.put_head.ensures c.set_slice.ensures c.set_zeros.ensures
    ∙ ap (λ (l : List ℕ). splice c.args.out.now c.args.at (padded_block (text_block (record { name = l; text = value })))) c.part_of-key.ensures
    ∙ ap (λ (l : List ℕ). splice c.args.out.now c.args.at (padded_block (text_block (record { name = part_of c.args.texts.now c.args.record.now.name; text = l })))) c.part_of-value.ensures
