use Rattle.std.proofs.Common.{◌<◌, length, subst, sym}
use Rattle.pe_pdb.proofs.Blocks.{block_inside}
use Rattle.pe_pdb.proofs.stream.Stream.block_start.Goals as goal

pub returns-clause-inside : goal.returns-clause-inside
returns-clause-inside c =
    let m = c.args.self.now.msf.map in
    let low = subst (λ n. n < m.blocks) (sym c.word.ensures) (c.args.self.now.below c.args.index c.requires) in
    block_inside m.words m.blocks c.word.result (length m.file.now) m.in_file low
