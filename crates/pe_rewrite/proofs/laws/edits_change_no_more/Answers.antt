use Rattle.pe_rewrite.proofs.WrittenImages.{length_stays}
use Rattle.pe_rewrite.proofs.laws.edits_change_no_more.Goals as goal

pub returns-clause-length : goal.returns-clause-length
returns-clause-length c = λ b h xs p f e i. length_stays b h xs p f e i
