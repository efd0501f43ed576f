use Rattle.pe_image.proofs.WrittenSections.{GoesSections}
use Rattle.pe_image.proofs.write.sections.SectionWriter.set.Given as goal

abbrev pub invariant-loop-i : goal.invariant-loop-i
invariant-loop-i l = GoesSections l.fn.buffer l.self.source.now l.self.unit l.start l.self.sections.now l.buffer l.offset l.i
