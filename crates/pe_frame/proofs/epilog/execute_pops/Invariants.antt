use Rattle.std.proofs.Common.{◌≡◌, ◌-◌, map}
use Rattle.pe_frame.proofs.Cited.{Pop, popped_first, most_pops, executed_all}
use Rattle.pe_frame.proofs.epilog.execute_pops.Given as goal

-- what the pops that are left give is what all give
abbrev pub invariant-loop : goal.invariant-loop
invariant-loop g l =
    executed_all (g.M.Memory.word l.memory) (map Pop (popped_first (most_pops - l.counter) l.rest)) l.registers
    ≡ executed_all (g.M.Memory.word l.memory) (map Pop (popped_first most_pops l.code)) l.fn.registers
