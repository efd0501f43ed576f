use Rattle.pe_core.specs.Header.{header_view}
use Rattle.pe_rewrite.proofs.Removed.{entries_inside}
use Rattle.pe_rewrite.proofs.removal.gone_with.Goals as goal

pub require_end-requires-clause-inside : goal.require_end-requires-clause-inside
require_end-requires-clause-inside c =
    entries_inside c.args.bytes.now (header_view c.args.header.now) c.args.target.now c.args.last.now c.in_ok-room_beside.field-0 c.in_ok-room_beside.ensures
