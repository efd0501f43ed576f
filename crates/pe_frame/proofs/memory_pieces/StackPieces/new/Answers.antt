use Rattle.std.proofs.Common.{◌≡◌, rules, true}
use Rattle.pe_frame.proofs.Cited.{is_none, piece_size, ascends}
use Rattle.pe_frame.proofs.memory_pieces.StackPieces.new.Goals as goal

pub invariant_of-result : goal.invariant_of-result
invariant_of-result c =
    record {
      ascending = λ is.
          let none : is_none c.first_overlap.result ≡ true = search rules in
          ascends (λ s. s.start) piece_size c.args.pieces.now c.first_overlap.result c.first_overlap.ensures none;
    }
