use Rattle.std.proofs.Common.{refl, arith}
use Rattle.pe_version.proofs.Cited.{err_from_is_err_and, block_view}
use Rattle.pe_version.proofs.Calls.{file_returned, fits, parts_are, room_inside, room_short, small_end, written_refused}
use Rattle.pe_version.proofs.block.write_block.Goals as goal

pub returns-in_err-parts : goal.returns-in_err-parts
returns-in_err-parts c =
    let p = err_from_is_err_and c.from_residual.result c.from_residual.ensures.1 in
    rw (p.1, p.2) (written_refused (block_view c.args.block.now) c.args.out.now _ c.in_err-parts.ensures, refl)

pub rounded_up-size-requires-clause-room : goal.rounded_up-size-requires-clause-room
rounded_up-size-requires-clause-room c = omega (arith, small_end (block_view c.args.block.now) c.in_ok-parts.parts c.in_ok-parts.ensures)

pub returns-in_err-require_room : goal.returns-in_err-require_room
returns-in_err-require_room c =
    let p = err_from_is_err_and c.from_residual-in_err-require_room.result c.from_residual-in_err-require_room.ensures.1 in
    rw (p.1, p.2) (room_short (block_view c.args.block.now) c.in_ok-parts.parts c.args.out.now c.rounded_up-size.result _ c.in_ok-parts.ensures c.rounded_up-size.ensures.up c.in_err-require_room.ensures, refl)

pub set_block-requires : goal.set_block-requires
set_block-requires c = record {
  parts = parts_are (block_view c.args.block.now) c.in_ok-parts.parts c.in_ok-parts.ensures;
  fits = fits (block_view c.args.block.now) c.in_ok-parts.parts c.in_ok-parts.ensures;
  room = room_inside (block_view c.args.block.now) c.in_ok-parts.parts c.args.out.now c.rounded_up-size.result c.in_ok-require_room.field-0 c.in_ok-parts.ensures c.rounded_up-size.ensures.up c.in_ok-require_room.ensures;
}

pub returns : goal.returns
returns c =
    file_returned (block_view c.args.block.now) c.in_ok-parts.parts c.args.out.now c.set_block.new.out c.set_zeros.new.buffer c.rounded_up-size.result c.in_ok-require_room.field-0
    c.in_ok-parts.ensures c.rounded_up-size.ensures.up c.in_ok-require_room.ensures c.set_block.ensures c.set_zeros.ensures
