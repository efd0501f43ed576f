use Rattle.pe_sign.proofs.Entries.{attached_entry}
use Rattle.pe_sign.proofs.laws.entries_name_the_table.Goals as goal

pub returns : goal.returns
returns c = λ placement b h certificate f l e i. let r = attached_entry placement b h certificate f l e i in (r.offset, r.size)
