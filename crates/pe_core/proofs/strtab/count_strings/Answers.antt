use Rattle.std.proofs.Common.{rules}
use Rattle.pe_core.proofs.Pieces.{room}
use Rattle.pe_core.proofs.strtab.count_strings.Goals as goal

pub overflow_add-count : goal.overflow_add-count
overflow_add-count c =
    let most = room c.args.bytes.now c.loop-rest.rest.now c.loop-rest.count c.loop-rest.invariant.counted c.loop-rest-test.ensures in
    search (rules, most)
