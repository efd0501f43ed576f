use Rattle.std.proofs.Common.{arith}
use Rattle.pe_version.proofs.Cited.{err_from_is_err_and, block_view}
use Rattle.pe_version.proofs.Calls.{length_refused, length_returned, small_end}
use Rattle.pe_version.proofs.block.block_len.Goals as goal

pub returns-in_err-parts : goal.returns-in_err-parts
returns-in_err-parts c =
    let p = err_from_is_err_and c.from_residual.result c.from_residual.ensures.1 in
    rw (p.1, p.2) (length_refused (block_view c.args.block.now) _ c.in_err-parts.ensures)

pub rounded_up-requires-clause-room : goal.rounded_up-requires-clause-room
rounded_up-requires-clause-room c = omega (arith, small_end (block_view c.args.block.now) c.in_ok-parts.parts c.in_ok-parts.ensures)

pub returns : goal.returns
returns c = length_returned (block_view c.args.block.now) c.in_ok-parts.parts c.rounded_up.result c.in_ok-parts.ensures c.rounded_up.ensures.up
