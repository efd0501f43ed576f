use Rattle.std.proofs.Common.{sym}
use Rattle.pe_core.proofs.Map.{found_passes}
use Rattle.pe_core.specs.Bytes.{holds}
use Rattle.pe_frame.specs.MemoryLists.{lists_byte}
use Rattle.pe_lookup.proofs.Lookups.{found_of_all, test_ascends}
use Rattle.calls_stacks.proofs.dump.memory_runs.range_in.Goals as goal

pub part_of-requires-clause-has : goal.part_of-requires-clause-has
part_of-requires-clause-has c = found_passes (lists_byte c.args.asked.now.offset) c.args.pieces.now c.in-Some.piece.now (sym c.in-Some.ensures)

pub part_of-requires-clause-inside : goal.part_of-requires-clause-inside
part_of-requires-clause-inside c =
    found_of_all (lists_byte c.args.asked.now.offset) (λ p. holds c.args.memory.now p.offset p.length) c.args.pieces.now c.in-Some.piece.now c.requires.inside (sym c.in-Some.ensures)

pub first_with-requires : goal.first_with-requires
first_with-requires c is = test_ascends (λ p. p.start) (λ p. p.length) c.args.pieces.now c.requires.ascending
