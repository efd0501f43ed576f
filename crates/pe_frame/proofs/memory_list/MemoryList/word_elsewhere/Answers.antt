use Rattle.std.proofs.Common.{◌≡◌, true, sym, ◌∙◌, arith}
use Rattle.std.proofs.lemmas.Bool.Decides.{nat_tests}
use Rattle.pe_core.specs.Bytes.{holds}
use Rattle.pe_core.proofs.Map.{found_passes}
use Rattle.pe_frame.specs.MemoryLists.{has_word, lists_byte}
use Rattle.pe_lookup.proofs.Lookups.{found_of_all, is_within}
use Rattle.pe_frame.proofs.OnePiece.{word_in_piece}
use Rattle.pe_frame.proofs.memory_list.MemoryList.word_elsewhere.Goals as goal

pub has_word-requires : goal.has_word-requires
has_word-requires c = found_passes (lists_byte c.args.address) c.args.self.now.pieces.now c.in-Some.piece.now (sym c.in-Some.ensures)

pub word_of-requires : goal.word_of-requires
word_of-requires c =
    let bytes = c.args.self.now.bytes.now in
    let pieces = c.args.self.now.pieces.now in
    let piece = c.in-Some.piece.now in
    let whole : has_word c.args.address piece ≡ true = sym c.has_word.ensures ∙ c.if-has_word.true in
    record {
      has = found_passes (lists_byte c.args.address) pieces piece (sym c.in-Some.ensures);
      whole = grind (arith, nat_tests);
      inside = found_of_all (lists_byte c.args.address) (λ p. holds bytes p.offset p.length) pieces piece c.args.self.now.inside (sym c.in-Some.ensures);
    }

pub returns-then-has_word : goal.returns-then-has_word
returns-then-has_word c =
    let bytes = c.args.self.now.bytes.now in
    let pieces = c.args.self.now.pieces.now in
    let piece = c.in-Some.piece.now in
    let has = found_passes (lists_byte c.args.address) pieces piece (sym c.in-Some.ensures) in
    let within = is_within piece.start piece.length c.args.address has in
    let whole : has_word c.args.address piece ≡ true = sym c.has_word.ensures ∙ c.if-has_word.true in
    c.word_of.ensures
    ∙ sym (word_in_piece bytes pieces piece c.args.address (c.args.self.now.ascending c.if-self.true) (sym c.in-Some.ensures) within.0 (grind (arith, nat_tests)) (grind (arith, nat_tests)))
