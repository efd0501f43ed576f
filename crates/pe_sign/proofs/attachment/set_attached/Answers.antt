use Rattle.std.proofs.Common.{◌∙◌, sym, rules, arith}
use Rattle.pe_sign.proofs.Writes.{length-attached, length-joined_file, file_set}
use Rattle.pe_sign.proofs.attachment.set_attached.Goals as goal

pub returns-clause-value : goal.returns-clause-value
returns-clause-value c = c.attached_length-end.ensures ∙ sym (length-attached c.args.placement c.args.left_out.now c.args.certificate.now c.args.bytes.now c.requires.fits.image)

pub returns-clause-after : goal.returns-clause-after
returns-clause-after c = search (rules, arith, length-joined_file, file_set)
