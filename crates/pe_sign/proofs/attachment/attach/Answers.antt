use Rattle.std.proofs.Common.{◌∙◌, sym, refl, rules, arith}
use Rattle.pe_sign.proofs.Cited.{err_from_is_err_and, header_view, attached_file}
use Rattle.pe_sign.proofs.Tests.{attached_value, attached_refused, written_refused, written_short, written_done}
use Rattle.pe_sign.proofs.Writes.{first_of, length-attached}
use Rattle.pe_sign.proofs.attachment.attach.Goals as goal

pub returns-in_err-left_out-clause-written : goal.returns-in_err-left_out-clause-written
returns-in_err-left_out-clause-written c =
    let p = err_from_is_err_and c.from_residual.result c.from_residual.ensures.1 in
    rw (p.1, p.2) (written_refused _ c.args.out.now _ (attached_refused c.args.placement c.args.bytes.now (header_view c.args.header.now) c.args.certificate.now _ c.in_err-left_out.ensures.parts), refl)

pub returns-in_err-require_room-clause-written : goal.returns-in_err-require_room-clause-written
returns-in_err-require_room-clause-written c =
    let p = err_from_is_err_and c.from_residual-in_err-require_room.result c.from_residual-in_err-require_room.ensures.1 in
    let l = c.in_ok-left_out.left_out in
    let b = c.args.bytes.now in
    let file = attached_file c.args.placement l c.args.certificate.now b in
    rw (p.1, p.2) (
      written_short _ file c.args.out.now c.attached_length-length.result _ (attached_value c.args.placement b (header_view c.args.header.now) c.args.certificate.now l c.in_ok-left_out.ensures.parts)
          (length-attached c.args.placement l c.args.certificate.now b c.in_ok-left_out.ensures.fits.image ∙ sym c.attached_length-length.ensures) c.in_err-require_room.ensures,
      refl,
    )

pub returns-clause-written : goal.returns-clause-written
returns-clause-written c = search (rules, arith, written_done, attached_value, length-attached)

pub returns-clause-file : goal.returns-clause-file
returns-clause-file c = search (rules, arith, attached_value, first_of)
