use Rattle.std.proofs.Common.{arith, rules}
use Rattle.std.proofs.lemmas.Bool.Decides.{nat_tests}
use Rattle.pe_pdb.proofs.Inlinees.{first_skipped}
use Rattle.pe_pdb.proofs.inlinee.skip_others.Goals as goal

pub loop-next-preserved : goal.loop-next-preserved
loop-next-preserved c = search (rules, arith, nat_tests, first_skipped)
