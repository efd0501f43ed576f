use Rattle.std.proofs.Common.{◌≡◌, ◌-◌}
use Rattle.pe_frame.specs.Scans.{first_return, most_words}
use Rattle.pe_frame.proofs.scan.first_return.Given as goal

-- what the words that are left give is what all give
abbrev pub invariant-loop : goal.invariant-loop
invariant-loop g l =
    first_return (most_words - l.counter) (g.M.Memory.word l.memory) (g.R.ReturnWords.returns l.returns) l.address
    ≡ first_return most_words (g.M.Memory.word l.memory) (g.R.ReturnWords.returns l.returns) l.fn.start
