use Rattle.std.proofs.Common.{◌≡◌, ◌+◌, true}
use Rattle.pe_pdb.specs.Msf.{msf_view, word_of}
use Rattle.pe_pdb.specs.Places.{all_below}
use Rattle.pe_pdb.proofs.file.Msf.listed_below.Given as goal

abbrev pub invariant-loop-index : goal.invariant-loop-index
invariant-loop-index l = all_below l.self.map.blocks (λ k. word_of (msf_view l.self) (l.start + k)) l.index ≡ true
