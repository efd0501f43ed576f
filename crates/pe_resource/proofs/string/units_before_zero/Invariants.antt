use Rattle.std.proofs.Common.{◌≡◌, ◌++◌, length}
use Rattle.pe_resource.specs.VersionStrings.{units, before_zero}
use Rattle.pe_resource.proofs.string.units_before_zero.Given as goal

abbrev pub invariant-loop-rest : goal.invariant-loop-rest
invariant-loop-rest g l = l.units.items ++ before_zero (units l.rest) ≡ before_zero (units l.bytes)

abbrev pub decreases-loop-rest : goal.decreases-loop-rest
decreases-loop-rest g l = length l.rest
