use Rattle.pe_resource.specs.VersionBlocks.{block_kind_of, rest_of}
use Rattle.pe_resource.proofs.BlockLists.{blocks_from_yields, blocks_start, no_more, last}
use Rattle.pe_resource.proofs.laws.version_blocks.version_blocks_have_one_reading.Goals as goal

pub returns-clause-items : goal.returns-clause-items
returns-clause-items c = λ s xs d. blocks_from_yields s d.1.0 d.0 xs d.1.1 d.1.2

pub returns-clause-first : goal.returns-clause-first
returns-clause-first c = blocks_start

pub returns-clause-refusal : goal.returns-clause-refusal
returns-clause-refusal c = λ s t u e r ends h k. no_more (rest_of t) (rest_of u) r (last (rest_of s) (block_kind_of e) (rest_of t) ends h) k

pub returns-clause-none : goal.returns-clause-none
returns-clause-none c = λ s t u r h k. no_more (rest_of t) (rest_of u) r h.1 k
