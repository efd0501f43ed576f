use Rattle.std.proofs.Common.{◌≡◌, true}
use Rattle.pe_pdb.specs.Places.{all_below, directory_block}
use Rattle.pe_pdb.proofs.file.BlockMap.has_directory.Given as goal

-- the blocks before the one with this index are in the file
abbrev pub invariant-loop-index : goal.invariant-loop-index
invariant-loop-index l = all_below l.self.blocks (directory_block l.self.file.now l.self.words) l.index ≡ true
