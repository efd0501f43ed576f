use Rattle.std.proofs.Common.{arith}
use Rattle.std.proofs.Math.Seq.{take-set-lt}
use Rattle.pe_core.proofs.data_directories.DataDirectories.set.Goals as goal

pub returns-clause-rows : goal.returns-clause-rows
returns-clause-rows c = take-set-lt c.args.self.now.count c.args.self.now.rows c.args.index c.args.directory (omega (arith, c.if-index-self.false))
