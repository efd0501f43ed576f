use Rattle.std.proofs.Common.{◌≡◌, drop}
use Rattle.pe_image.specs.Writing.{all_in_source}
use Rattle.pe_image.proofs.write.overlaps.first_outside.Given as goal

abbrev pub invariant-loop-i : goal.invariant-loop-i
invariant-loop-i l = all_in_source l.source (drop l.i l.sections) ≡ all_in_source l.source l.sections
