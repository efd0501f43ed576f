use Rattle.std.proofs.Common.{◌≡◌, drop}
use Rattle.pe_image.specs.Writing.{clash_free}
use Rattle.pe_image.proofs.write.overlaps.first_clashing_pair.Given as goal

abbrev pub invariant-loop-i : goal.invariant-loop-i
invariant-loop-i l = clash_free (drop l.i l.sections) ≡ clash_free l.sections
