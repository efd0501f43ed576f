use Rattle.std.proofs.Common.{◌/◌, ◌<◌, length, subst, sym, arith}
use Rattle.pe_pdb.proofs.Blocks.{block_counted, block_inside, word_inside}
use Rattle.pe_pdb.proofs.file.BlockMap.directory_block.Goals as goal

pub read_u32-requires : goal.read_u32-requires
read_u32-requires c =
    let m = c.args.self.now in
    let listed = block_counted m.count m.words c.args.index m.has_words c.requires in
    let low = subst (λ n. n < m.blocks) (sym c.map_block-block.ensures) (m.mapped (c.args.index / m.words) listed) in
    let inside = block_inside m.words m.blocks c.map_block-block.result (length m.file.now) m.in_file low in
    let word = word_inside m.words c.args.index m.has_words in
    omega (arith, inside, word)
