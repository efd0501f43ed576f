use Rattle.std.proofs.Common.{◌∙◌, sym}
use Rattle.pe_core.specs.Bytes.{holds}
use Rattle.pe_frame.specs.MemoryLists.{lists_byte}
use Rattle.pe_lookup.proofs.Lookups.{found_of_all}
use Rattle.pe_frame.proofs.OnePiece.{word_asked, word_fits, word_has}
use Rattle.pe_frame.proofs.memory_list.MemoryListMemory.u64_at.Goals as goal

pub word_of-requires : goal.word_of-requires
word_of-requires c =
    let memory = c.args.self.now in
    let near = memory.near in
    let has = word_has near memory.words c.args.address memory.whole c.if-start-address.true c.if-address-start.true in
    record {
      has = has;
      whole = (word_fits near memory.words c.args.address memory.whole c.if-start-address.true c.if-address-start.true).0;
      inside = found_of_all (lists_byte c.args.address) (λ p. holds memory.bytes.now p.offset p.length) memory.pieces.now near memory.inside (memory.asked c.args.address has);
    }

pub returns-then-address-start : goal.returns-then-address-start
returns-then-address-start c =
    let memory = c.args.self.now in
    let near = memory.near in
    let fits = word_fits near memory.words c.args.address memory.whole c.if-start-address.true c.if-address-start.true in
    c.word_of.ensures
    ∙ sym (word_asked memory.bytes.now memory.pieces.now near c.args.address memory.asked c.if-start-address.true fits.0 fits.1)
