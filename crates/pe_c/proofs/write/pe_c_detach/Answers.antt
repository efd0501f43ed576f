use Rattle.std.proofs.Common.{rules, arith}
use Rattle.pe_c.proofs.Cited.{eqb-true, file_asked}
use Rattle.pe_c.proofs.write.pe_c_detach.Goals as goal

pub returns-then-is_empty : goal.returns-then-is_empty
returns-then-is_empty c = search (rules, arith, file_asked, eqb-true)
