use Rattle.pe_core.specs.Header.{header_view}
use Rattle.pe_sign.specs.SignRefusals.{sign_kind_of}
use Rattle.calls_write.proofs.SignedFiles.{detached, not_detached}
use Rattle.calls_write.proofs.signing.detach_to.Goals as goal

pub returns-in-Ok : goal.returns-in-Ok
returns-in-Ok c = detached c.args.view.now.bytes.now c.args.view.now.image.now c.args.room.now c.detach.new.out (header_view c.in_ok-header.header) c.in-Ok.length c.in_ok-header.ensures c.in-Ok.ensures.written

pub returns-in-Err : goal.returns-in-Err
returns-in-Err c = (
  not_detached c.args.view.now.bytes.now c.args.view.now.image.now c.args.room.now (header_view c.in_ok-header.header) (sign_kind_of c.in-Err.error) c.number_of_signing.result c.in_ok-header.ensures c.number_of_signing.ensures c.in-Err.ensures.written.0,
  c.in-Err.ensures.written.1,
)
