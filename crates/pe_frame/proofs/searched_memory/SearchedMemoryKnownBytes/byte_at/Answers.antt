use Rattle.pe_frame.proofs.Searches.{shown}
use Rattle.pe_frame.proofs.searched_memory.SearchedMemoryKnownBytes.byte_at.Goals as goal

pub byte_of-requires : goal.byte_of-requires
byte_of-requires c =
    let it = shown c.args.self.now.bytes.now c.args.self.now.pieces.now c.args.address c.in-Some.piece.now c.in-Some.ensures in
    record { has = it.0; inside = it.1 }
