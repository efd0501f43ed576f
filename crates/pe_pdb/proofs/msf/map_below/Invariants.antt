use Rattle.std.proofs.Common.{◌≡◌, true}
use Rattle.pe_pdb.specs.Places.{all_below, map_block}
use Rattle.pe_pdb.proofs.msf.map_below.Given as goal

-- the blocks before the one with this index are below the limit
abbrev pub invariant-loop-index : goal.invariant-loop-index
invariant-loop-index l = all_below l.limit (map_block l.bytes) l.index ≡ true
