use Rattle.pe_image.proofs.Ends.{Reach}
use Rattle.pe_image.proofs.write.sections.SectionWriter.ends.Given as goal

abbrev pub invariant-loop-i : goal.invariant-loop-i
invariant-loop-i l = Reach l.self.source.now l.self.unit l.start l.self.sections.now l.end l.offset l.i
