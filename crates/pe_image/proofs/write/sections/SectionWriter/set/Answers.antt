use Rattle.std.proofs.Common.{arith, rules}
use Rattle.pe_image.proofs.WrittenSections.{no_section, offset_inside, next_goes, all_gone}
use Rattle.pe_image.proofs.write.sections.SectionWriter.set.Goals as goal

pub overflow_add-offset : goal.overflow_add-offset
overflow_add-offset c = search (rules, arith, offset_inside, no_section)

pub loop-i-preserved : goal.loop-i-preserved
loop-i-preserved c = search (rules, arith, next_goes, no_section)

pub returns : goal.returns
returns c = search (rules, arith, all_gone)
