-- After a block and after a relocation fewer bytes are left.
use Rattle.std.proofs.Common.{◌≡◌, ℕ, ◌<◌, List, length, Some, Ok, length-drop, arith}
use Rattle.pe_directories.proofs.Cited.{nat_tests, Block, first_block, first_relocation, BaseRelocation}

pub block_shrinks : (b : List ℕ) (x : Block) (t : List ℕ) → first_block b ≡ Some (Ok (x, t)) → length t < length b
unfolding first_block
block_shrinks b x t h = grind (arith, nat_tests, length-drop, h)

pub relocation_shrinks : (page : ℕ) (b : List ℕ) (x : BaseRelocation) (t : List ℕ) → first_relocation page b ≡ Some (Ok (x, t)) → length t < length b
unfolding first_relocation
relocation_shrinks page b x t h = grind (arith, nat_tests, length-drop, h)
