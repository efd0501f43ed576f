use Rattle.std.proofs.Common.{◌≡◌}
use Rattle.pe_resource.proofs.BlockLists.{after_refusal}
use Rattle.pe_resource.specs.VersionBlocks.{block_with_key, blocks, rest_of}
use Rattle.pe_resource.proofs.version_block.VersionBlocks.with_key.Given as goal

abbrev pub invariant-loop-item : goal.invariant-loop-item
invariant-loop-item l =
    after_refusal l.refusal (block_with_key l.name (blocks (rest_of l.item-iterator))) ≡ block_with_key l.name (blocks (rest_of l.self))
