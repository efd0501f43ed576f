use Rattle.std.proofs.Common.{◌≤◌, subst, sym, arith}
use Rattle.pe_pdb.specs.Places.{map_block}
use Rattle.pe_pdb.proofs.Blocks.{all_fails}
use Rattle.pe_pdb.proofs.msf.map_below.Goals as goal

pub returns-then-map_block-limit : goal.returns-then-map_block-limit
returns-then-map_block-limit c =
    sym (all_fails c.args.limit (map_block c.args.bytes.now) c.loop-index.index c.args.count (omega arith) (subst (λ n. c.args.limit ≤ n) c.map_block.ensures c.if-map_block-limit.true))
