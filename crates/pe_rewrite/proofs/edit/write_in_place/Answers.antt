use Rattle.std.proofs.Common.{rules, refl}
use Rattle.pe_rewrite.proofs.Cited.{err_from_is_err_and, header_view, leaf_views}
use Rattle.pe_rewrite.proofs.Calls.{file_returned, lies, made, room_short, size}
use Rattle.pe_rewrite.proofs.edit.write_in_place.Goals as goal

pub returns-in_err-require_room : goal.returns-in_err-require_room
returns-in_err-require_room c =
    let p = err_from_is_err_and c.from_residual-in_err-require_room.result c.from_residual-in_err-require_room.ensures.1 in
    rw (p.1, p.2) (room_short c.args.bytes.now (header_view c.args.header.now) (leaf_views c.args.leaves.now) c.in_ok-place.place c.args.out.now _ c.in_ok-place.ensures c.in_err-require_room.ensures, refl)

pub set_edited-requires : goal.set_edited-requires
set_edited-requires c = record {
  lies = lies c.args.bytes.now (header_view c.args.header.now) (leaf_views c.args.leaves.now) c.in_ok-place.place c.in_ok-place.ensures;
  made = made c.args.bytes.now (header_view c.args.header.now) (leaf_views c.args.leaves.now) c.in_ok-place.place c.in_ok-place.ensures;
  length = size c.args.bytes.now (header_view c.args.header.now) (leaf_views c.args.leaves.now) c.in_ok-place.place c.in_ok-place.ensures;
  room = search rules;
}

pub returns : goal.returns
returns c =
    file_returned c.args.bytes.now (header_view c.args.header.now) (leaf_views c.args.leaves.now) c.in_ok-place.place c.args.out.now c.set_edited.new.out c.in_ok-require_room.field-0 c.in_ok-place.ensures c.in_ok-require_room.ensures c.set_edited.ensures
