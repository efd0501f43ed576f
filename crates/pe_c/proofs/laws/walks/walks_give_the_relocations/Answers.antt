use Rattle.calls_directories.proofs.DirectoryLists.{blocks_in_turn, blocks_outside, relocations_in_turn, relocations_outside}
use Rattle.calls_directories.proofs.ListStarts.{blocks_of_image}
use Rattle.pe_c.proofs.laws.walks.walks_give_the_relocations.Goals as goal

pub returns-clause-blocks : goal.returns-clause-blocks
returns-clause-blocks c = blocks_in_turn

pub returns-clause-blocks_outside : goal.returns-clause-blocks_outside
returns-clause-blocks_outside c = blocks_outside

pub returns-clause-relocations : goal.returns-clause-relocations
returns-clause-relocations c = relocations_in_turn

pub returns-clause-relocations_outside : goal.returns-clause-relocations_outside
returns-clause-relocations_outside c = relocations_outside

pub returns-clause-of_image : goal.returns-clause-of_image
returns-clause-of_image c = λ b image sections walk table items is. blocks_of_image b image sections walk table items is.started is.read
