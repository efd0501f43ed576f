use Rattle.std.proofs.Common.{rules, arith}
use Rattle.pe_c.proofs.Cited.{keep_marks}
use Rattle.calls_stacks.proofs.MarkedWalks.{same_over, unmarked}
use Rattle.pe_c.proofs.laws.frames.marks_change_nothing.Goals as goal

pub returns : goal.returns
returns c = search (rules, arith, same_over, keep_marks, unmarked)
