use Rattle.std.proofs.Common.{◌∙◌, sym, rules, arith}
use Rattle.pe_sign.proofs.Cited.{length-take-le}
use Rattle.pe_sign.proofs.Writes.{length-detached, file_set}
use Rattle.pe_sign.proofs.attachment.set_detached.Goals as goal

pub returns-clause-value : goal.returns-clause-value
returns-clause-value c = c.unsigned_length-end.ensures ∙ sym (length-detached c.args.left_out.now c.args.bytes.now c.requires.fits)

pub returns-clause-after : goal.returns-clause-after
returns-clause-after c = search (rules, arith, file_set, length-take-le)
