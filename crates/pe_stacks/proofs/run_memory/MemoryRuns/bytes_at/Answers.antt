use Rattle.std.proofs.Common.{sym}
use Rattle.pe_core.proofs.Map.{found_passes}
use Rattle.pe_core.specs.Bytes.{holds}
use Rattle.pe_frame.specs.MemoryLists.{lists_byte}
use Rattle.pe_lookup.proofs.Lookups.{found_of_all}
use Rattle.pe_stacks.proofs.run_memory.MemoryRuns.bytes_at.Goals as goal

pub bytes_of-requires-clause-has : goal.bytes_of-requires-clause-has
bytes_of-requires-clause-has g c = found_passes (lists_byte c.args.address) c.args.self.now.runs.items c.in-Some.run'.now (sym c.in-Some.ensures)

pub bytes_of-requires-clause-inside : goal.bytes_of-requires-clause-inside
bytes_of-requires-clause-inside g c =
    found_of_all (lists_byte c.args.address) (λ p. holds c.args.self.now.bytes.now p.offset p.length) c.args.self.now.runs.items c.in-Some.run'.now c.args.self.now.inside (sym c.in-Some.ensures)
