use Rattle.std.proofs.Common.{arith, rules}
use Rattle.std.proofs.lemmas.Grind.{common_steps}
use Rattle.pe_version.proofs.Cited.{bytes_of, length-bytes_of}
use Rattle.pe_version.proofs.Heads.{length_numbers, put_more, put_none, put_room}
use Rattle.pe_version.proofs.put.put_numbers.Goals as goal

pub loop-index-init : goal.loop-index-init
loop-index-init c = put_none (bytes_of 4) c.args.out.now c.args.at c.args.numbers.now (omega (arith, c.requires, length_numbers c.args.numbers.now))

pub set_u32-requires : goal.set_u32-requires
set_u32-requires c = grind (arith, common_steps, put_room, length-bytes_of)

pub loop-index-preserved : goal.loop-index-preserved
loop-index-preserved c = search (rules, arith, put_more, length-bytes_of)
