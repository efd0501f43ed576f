use Rattle.std.proofs.Common.{rules, arith}
use Rattle.std.proofs.lemmas.Result.{err_from_is_err_and}
use Rattle.pe_version.proofs.Records.{accepted, is_written, no_room, not_written, room_inside}
use Rattle.pe_version.proofs.by_records.write_version.Goals as goal

pub returns-in_err-size : goal.returns-in_err-size
returns-in_err-size c = search (rules, arith, err_from_is_err_and, not_written)

pub returns-in_err-require_room : goal.returns-in_err-require_room
returns-in_err-require_room c = search (rules, arith, err_from_is_err_and, no_room)

pub put_version-requires : goal.put_version-requires
put_version-requires c = search (rules, arith, accepted, room_inside)

pub returns : goal.returns
returns c = is_written c.args.value.now c.args.out.now c.put_version.new.out c.in_ok-size.size c.in_ok-require_room.field-0 c.in_ok-size.ensures c.in_ok-require_room.ensures c.put_version.ensures
