use Rattle.std.proofs.Common.{◌≡◌, ℕ, ◌<◌, get_or}
use Rattle.pe_resource.specs.VersionStrings.{units}
use Rattle.pe_resource.proofs.string.same_units.Given as goal

abbrev pub invariant-loop-i : goal.invariant-loop-i
invariant-loop-i l = (k : ℕ) → k < l.i → get_or (units l.bytes) k 0 ≡ get_or l.name k 0
