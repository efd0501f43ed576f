use Rattle.std.proofs.Common.{◌≡◌, ◌^◌, ◌<◌, drop}
use Rattle.pe_resource.proofs.Cited.{number_after, units}
use Rattle.pe_resource.proofs.version_block.number_of.Given as goal

-- the digits that are left make the whole number after the one that the others made
abbrev pub invariant-loop-i : goal.invariant-loop-i
invariant-loop-i l = record {
  rest : number_after l.number (drop l.i (units l.digits)) ≡ number_after 0 (units l.digits);
  small : l.number < 16 ^ l.i;
}
