use Rattle.std.proofs.Common.{arith, rules}
use Rattle.pe_image.proofs.Clashes.{next_passed_over}
use Rattle.pe_image.proofs.WrittenSections.{no_section}
use Rattle.pe_image.proofs.write.overlaps.first_clashing_pair.Goals as goal

pub loop-i-preserved-then-is_next : goal.loop-i-preserved-then-is_next
loop-i-preserved-then-is_next c = search (rules, arith, next_passed_over, no_section)
