use Rattle.std.proofs.Common.{◌+◌, ◌-◌, sym, ◌∙◌, arith}
use Rattle.pe_frame.proofs.Scans.{this_word}
use Rattle.pe_frame.proofs.scan.first_return.Goals as goal

pub returns-in-Some-clause-value : goal.returns-in-Some-clause-value
returns-in-Some-clause-value g c =
    sym (this_word (128 - c.loop.counter) (128 - (c.loop.counter + 1)) (g.M.Memory.word c.args.memory.now) (g.R.ReturnWords.returns c.args.returns.now) c.loop.address c.in-Some.word (omega arith) (sym c.return_at.ensures ∙ c.in-Some.is))
    ∙ c.loop.invariant
