use Rattle.std.proofs.Common.{rules, arith}
use Rattle.pe_image.proofs.Laid.{pe32_plus_room, pe32_room}
use Rattle.pe_image.proofs.write.records.set_optional.Goals as goal

pub set_pe32_plus-requires : goal.set_pe32_plus-requires
set_pe32_plus-requires c = search (rules, arith, pe32_plus_room)

pub set_pe32-requires : goal.set_pe32-requires
set_pe32-requires c = search (rules, arith, pe32_room)
