use Rattle.std.proofs.Common.{ℕ, ◌+◌, length, sym, ap, ◌∙◌, subst}
use Rattle.pe_rewrite.proofs.Cited.{header_view, leaf_views, Inside, roomy_file, with_pointers}
use Rattle.pe_rewrite.proofs.Pointers.{length_can, lies_with}
use Rattle.pe_rewrite.proofs.RoomWrites.{room_inside, roomy_length}
use Rattle.pe_rewrite.proofs.Writes.{over_set}
use Rattle.pe_rewrite.proofs.put.set_moved.Goals as goal

pub set_over-requires-clause-lies : goal.set_over-requires-clause-lies
set_over-requires-clause-lies c = room_inside (header_view c.args.header.now) c.args.room.now (length c.args.bytes.now) c.requires.moves.lies

pub returns : goal.returns
returns c =
    let h = header_view c.args.header.now in
    let m = c.args.room.now in
    let b = c.args.bytes.now in
    let size = roomy_length h m (with_pointers m b) (lies_with h m b c.requires.moves) ∙ ap (λ (n : ℕ). n + m.more) (length_can h m b c.requires.moves) in
    over_set h m.place (leaf_views c.args.leaves.now) c.args.out.now (roomy_file h m (with_pointers m b)) c.set_room.new.out c.set_over.new.out (length b + m.more)
    (subst (λ (n : ℕ). Inside h m.place n) (sym size) (room_inside h m (length b) c.requires.moves.lies)) c.requires.length c.set_room.ensures size c.set_over.ensures
