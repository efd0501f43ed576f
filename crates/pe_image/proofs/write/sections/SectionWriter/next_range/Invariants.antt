use Rattle.std.proofs.Common.{◌≡◌, drop}
use Rattle.pe_image.specs.WritingSteps.{next_range}
use Rattle.pe_image.proofs.write.sections.SectionWriter.next_range.Given as goal

abbrev pub invariant-loop-i : goal.invariant-loop-i
invariant-loop-i l = next_range l.self.unit (drop l.i l.after) ≡ next_range l.self.unit l.after
