use Rattle.std.proofs.Common.{sym}
use Rattle.pe_frame.proofs.OnePiece.{first_near}
use Rattle.pe_frame.proofs.memory_list.MemoryList.piece_near.Goals as goal

pub returns-in-Some : goal.returns-in-Some
returns-in-Some c a has =
    first_near c.args.self.now.pieces.now c.in-Some.piece.now c.args.address a (c.args.self.now.ascending c.if-self.true) (sym c.in-Some.ensures) has
