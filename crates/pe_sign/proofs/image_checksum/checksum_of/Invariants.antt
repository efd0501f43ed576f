use Rattle.std.proofs.Common.{◌≡◌}
use Rattle.pe_sign.proofs.Cited.{fold, each, with_carry, summed_word}
use Rattle.pe_sign.proofs.image_checksum.checksum_of.Given as goal

-- the sum of the first words
abbrev pub invariant-loop-index : goal.invariant-loop-index
invariant-loop-index l = record {
  added : l.sum ≡ fold with_carry 0 (each (summed_word l.bytes l.field) l.index);
}
