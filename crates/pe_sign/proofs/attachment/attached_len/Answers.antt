use Rattle.std.proofs.Common.{rules, arith}
use Rattle.pe_sign.proofs.Cited.{err_from_is_err_and, header_view}
use Rattle.pe_sign.proofs.Tests.{attached_value, attached_refused, length_refused, length_value}
use Rattle.pe_sign.proofs.Writes.{length-attached}
use Rattle.pe_sign.proofs.attachment.attached_len.Goals as goal

pub returns-in_err-left_out : goal.returns-in_err-left_out
returns-in_err-left_out c =
    let p = err_from_is_err_and c.from_residual.result c.from_residual.ensures.1 in
    rw (p.1, p.2) (length_refused _ _ (attached_refused c.args.placement c.args.bytes.now (header_view c.args.header.now) c.args.certificate.now _ c.in_err-left_out.ensures.parts))

pub returns : goal.returns
returns c = search (rules, arith, length_value, attached_value, length-attached)
