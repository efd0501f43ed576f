use Rattle.std.proofs.Common.{◌≤◌, subst, sym, arith}
use Rattle.pe_pdb.specs.Places.{directory_block}
use Rattle.pe_pdb.proofs.Blocks.{all_fails}
use Rattle.pe_pdb.proofs.file.BlockMap.has_directory.Goals as goal

pub returns-then-directory_block-self : goal.returns-then-directory_block-self
returns-then-directory_block-self c =
    let m = c.args.self.now in
    sym (all_fails m.blocks (directory_block m.file.now m.words) c.loop-index.index m.count (omega arith) (subst (λ n. m.blocks ≤ n) c.directory_block.ensures c.if-directory_block-self.true))
