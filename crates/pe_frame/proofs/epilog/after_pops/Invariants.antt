use Rattle.std.proofs.Common.{◌≡◌, ◌-◌}
use Rattle.pe_frame.specs.Epilogs.{after_pops, most_pops}
use Rattle.pe_frame.proofs.epilog.after_pops.Given as goal

-- after the pops that are left comes what is after all of them
abbrev pub invariant-loop : goal.invariant-loop
invariant-loop l = after_pops (most_pops - l.counter) l.rest ≡ after_pops most_pops l.code
