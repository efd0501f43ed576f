use Rattle.std.proofs.Common.{◌/◌, ◌<◌, length, sym, ◌∙◌, arith, rules}
use Rattle.pe_pdb.specs.Places.{directory_block, map_block}
use Rattle.pe_pdb.proofs.Blocks.{all_each, block_counted, blocks_few, blocks_inside, one_block, words_small, words_some}
use Rattle.pe_pdb.proofs.file.Msf.with_directory.Goals as goal

pub invariant_of-map-clause-few : goal.invariant_of-map-clause-few
invariant_of-map-clause-few c = search (rules, arith, blocks_few)

pub invariant_of-map-clause-has_words : goal.invariant_of-map-clause-has_words
invariant_of-map-clause-has_words c = words_some c.args.header.now.block_size c.requires.size

pub invariant_of-map-clause-small : goal.invariant_of-map-clause-small
invariant_of-map-clause-small c = words_small c.args.header.now.block_size c.requires.size

pub invariant_of-map-clause-in_file : goal.invariant_of-map-clause-in_file
invariant_of-map-clause-in_file c = blocks_inside c.args.header.now.block_size c.args.header.now.number_of_blocks (length c.args.bytes.now) c.requires.size c.requires.inside

pub invariant_of-map-clause-in_superblock : goal.invariant_of-map-clause-in_superblock
invariant_of-map-clause-in_superblock c = search (rules, arith, blocks_inside, one_block)

pub invariant_of-map-clause-mapped : goal.invariant_of-map-clause-mapped
invariant_of-map-clause-mapped c = λ k lt.
    let is = c.div_ceil-maps.ensures in
    all_each c.args.header.now.number_of_blocks (map_block c.args.bytes.now) c.div_ceil-maps.result (sym c.map_below.ensures ∙ c.if-not-map_below.false) k (omega (arith, lt, is))

pub directory_word-requires-clause-inside : goal.directory_word-requires-clause-inside
directory_word-requires-clause-inside c =
    let words = c.args.header.now.block_size / 4 in
    let is = c.div_ceil-count.ensures in
    let some : 0 < c.args.header.now.directory_size / 4 = grind arith in
    let listed = block_counted (c.args.header.now.directory_size / 4) words 0 (words_some c.args.header.now.block_size c.requires.size) some in
    all_each c.args.header.now.number_of_blocks (directory_block c.args.bytes.now words) c.div_ceil-count.result (sym c.has_directory.ensures ∙ c.if-not-has_directory.false) (0 / words) (omega (arith, listed, is))

pub invariant_of-result-clause-counted : goal.invariant_of-result-clause-counted
invariant_of-result-clause-counted c = c.div_ceil-count.ensures

pub invariant_of-result-clause-listed : goal.invariant_of-result-clause-listed
invariant_of-result-clause-listed c = λ k lt.
    all_each c.args.header.now.number_of_blocks (directory_block c.args.bytes.now (c.args.header.now.block_size / 4)) c.div_ceil-count.result (sym c.has_directory.ensures ∙ c.if-not-has_directory.false) k lt
