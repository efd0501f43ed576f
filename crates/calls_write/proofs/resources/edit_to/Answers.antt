use Rattle.pe_core.specs.Header.{header_view}
use Rattle.pe_rewrite.specs.RewriteRefusals.{rewrite_kind_of}
use Rattle.calls_write.proofs.ResourceEdits.{edit_refused}
use Rattle.calls_write.proofs.resources.edit_to.Goals as goal

pub returns-in-Err : goal.returns-in-Err
returns-in-Err c = (
  edit_refused c.args.view.now.bytes.now c.args.view.now.image.now c.args.data.now c.args.resources.now c.args.room.now (header_view c.in_ok-header.header) c.in_ok-tested.field-0 (rewrite_kind_of c.in-Err.error) c.number_of_rewrite.result
      c.in_ok-header.ensures c.in_ok-tested.ensures c.in-Err.ensures.0 c.number_of_rewrite.ensures,
  c.in-Err.ensures.1,
)
