use Rattle.std.proofs.Common.{ℕ, ◌<◌, ◌^◌, arith, subst}
use Rattle.std.proofs.lemmas.Nat.{leading_length}
use Rattle.pe_lookup.proofs.bits.bits_of.Goals as goal

pub returns-clause-enough : goal.returns-clause-enough
returns-clause-enough c =
    let it = leading_length 64 c.args.number c.ranges.number.fits in
    subst (λ (m : ℕ). c.args.number < 2 ^ m) (omega (arith, it.1)) it.2
