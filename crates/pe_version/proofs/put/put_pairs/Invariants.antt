use Rattle.pe_version.proofs.Cited.{pair_of, translation_bytes}
use Rattle.pe_version.proofs.Heads.{PutTo}
use Rattle.pe_version.proofs.put.put_pairs.Given as goal

-- the pairs so far are written
abbrev pub invariant-loop-index : goal.invariant-loop-index
invariant-loop-index l = PutTo (λ p. translation_bytes (pair_of p)) l.fn.out l.out l.at l.end l.index l.translations
