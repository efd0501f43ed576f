use Rattle.std.proofs.Common.{◌≡◌, true, sym, ◌∙◌, arith}
use Rattle.pe_frame.proofs.Cited.{nat_tests, has_word}
use Rattle.pe_frame.proofs.Searches.{shown}
use Rattle.pe_frame.proofs.searched_memory.SearchedMemoryMemory.u64_at.Goals as goal

pub has_word-requires : goal.has_word-requires
has_word-requires c = (shown c.args.self.now.bytes.now c.args.self.now.pieces.now c.args.address c.in-Some.piece.now c.in-Some.ensures).0

pub word_of-requires : goal.word_of-requires
word_of-requires c =
    let piece = c.in-Some.piece.now in
    let it = shown c.args.self.now.bytes.now c.args.self.now.pieces.now c.args.address piece c.in-Some.ensures in
    let whole : has_word c.args.address piece ≡ true = sym c.has_word.ensures ∙ c.if-has_word.true in
    record { has = it.0; whole = grind (arith, nat_tests); inside = it.1 }
