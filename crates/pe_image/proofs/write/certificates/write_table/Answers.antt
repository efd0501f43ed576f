use Rattle.std.proofs.Common.{rules, arith}
use Rattle.pe_image.proofs.Rows.{wrote}
use Rattle.pe_image.proofs.write.certificates.write_table.Goals as goal

pub returns : goal.returns
returns c = search (rules, arith, wrote)
