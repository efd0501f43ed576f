use Rattle.std.proofs.Common.{rules, refl, arith}
use Rattle.pe_rewrite.proofs.Cited.{err_from_is_err_and, header_view, leaf_views}
use Rattle.pe_rewrite.proofs.Calls.{made_moved, more_small, moved_file_returned, moved_room_short, moves, size_moved}
use Rattle.pe_rewrite.proofs.edit.write_at_end.Goals as goal

pub length_with-length-requires : goal.length_with-length-requires
length_with-length-requires c = more_small c.args.bytes.now (header_view c.args.header.now) (leaf_views c.args.leaves.now) c.in_ok-room.room c.in_ok-room.ensures

pub returns-in_err-require_room : goal.returns-in_err-require_room
returns-in_err-require_room c =
    let p = err_from_is_err_and c.from_residual-in_err-require_room.result c.from_residual-in_err-require_room.ensures.1 in
    rw (p.1, p.2) (moved_room_short c.args.bytes.now (header_view c.args.header.now) (leaf_views c.args.leaves.now) c.in_ok-room.room c.length_with-length.result c.args.out.now _ c.in_ok-room.ensures c.length_with-length.ensures c.in_err-require_room.ensures, refl)

pub set_moved-requires : goal.set_moved-requires
set_moved-requires c = record {
  moves = moves c.args.bytes.now (header_view c.args.header.now) (leaf_views c.args.leaves.now) c.in_ok-room.room c.in_ok-room.ensures;
  more = omega (arith, more_small c.args.bytes.now (header_view c.args.header.now) (leaf_views c.args.leaves.now) c.in_ok-room.room c.in_ok-room.ensures);
  made = made_moved c.args.bytes.now (header_view c.args.header.now) (leaf_views c.args.leaves.now) c.in_ok-room.room c.in_ok-room.ensures;
  length = size_moved c.args.bytes.now (header_view c.args.header.now) (leaf_views c.args.leaves.now) c.in_ok-room.room c.in_ok-room.ensures;
  room = search rules;
}

pub returns : goal.returns
returns c =
    moved_file_returned c.args.bytes.now (header_view c.args.header.now) (leaf_views c.args.leaves.now) c.in_ok-room.room c.length_with-length.result c.args.out.now c.set_moved.new.out c.in_ok-require_room.field-0 c.in_ok-room.ensures c.length_with-length.ensures c.in_ok-require_room.ensures c.set_moved.ensures
