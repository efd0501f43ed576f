use Rattle.std.proofs.Common.{◌≡◌, drop}
use Rattle.pe_image.specs.WritingSteps.{in_order}
use Rattle.pe_image.proofs.write.overlaps.are_in_order.Given as goal

abbrev pub invariant-loop-i : goal.invariant-loop-i
invariant-loop-i l = in_order l.falls (drop l.i l.sections) ≡ in_order l.falls l.sections
