use Rattle.std.proofs.Common.{sym}
use Rattle.pe_core.specs.Bytes.{holds}
use Rattle.pe_core.proofs.Map.{found_passes}
use Rattle.pe_frame.specs.MemoryLists.{lists_byte}
use Rattle.pe_lookup.proofs.Lookups.{found_of_all}
use Rattle.pe_stacks.proofs.memory.IndexedMemory.byte_at.Goals as goal

pub byte_of-requires : goal.byte_of-requires
byte_of-requires g c =
    let bytes = c.args.self.now.bytes.now in
    let pieces = c.args.self.now.pieces.ranges.now in
    let piece = c.in-Some.piece.now in
    record {
      has = found_passes (lists_byte c.args.address) pieces piece (sym c.in-Some.ensures);
      inside = found_of_all (lists_byte c.args.address) (λ p. holds bytes p.offset p.length) pieces piece c.args.self.now.inside (sym c.in-Some.ensures);
    }
