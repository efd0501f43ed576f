use Rattle.std.proofs.Common.{rules, arith}
use Rattle.pe_rewrite.proofs.Pointers.{lies_with, pointers_set}
use Rattle.pe_rewrite.proofs.RoomWrites.{room_set}
use Rattle.pe_rewrite.proofs.put.set_room.Goals as goal

pub returns : goal.returns
returns c = search (rules, arith, room_set, lies_with, pointers_set)
