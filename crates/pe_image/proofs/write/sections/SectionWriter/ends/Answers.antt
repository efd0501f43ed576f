use Rattle.std.proofs.Common.{arith, rules}
use Rattle.pe_image.proofs.Cited.{err_from_is_err_and}
use Rattle.pe_image.proofs.Ends.{reach_next, reach_refused}
use Rattle.pe_image.proofs.WrittenSections.{no_section}
use Rattle.pe_image.proofs.write.sections.SectionWriter.ends.Goals as goal

pub returns-in_err-section_end : goal.returns-in_err-section_end
returns-in_err-section_end c = search (rules, arith, err_from_is_err_and, reach_refused, no_section)

pub loop-i-preserved : goal.loop-i-preserved
loop-i-preserved c =
    (reach_next c.args.self.now.source.now c.args.self.now.unit c.args.start c.args.self.now.sections.now c.loop-i.end c.loop-i.offset c.loop-i.i c.in_ok-section_end.field-0 _ no_section (omega arith) (search rules) c.loop-i.invariant c.in_ok-section_end.ensures.end)
