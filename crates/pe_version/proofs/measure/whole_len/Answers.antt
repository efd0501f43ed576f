use Rattle.std.proofs.Common.{◌≡◌, ℕ, ◌+◌, true, ap, arith}
use Rattle.pe_version.specs.VersionRefusals.{key_fits}
use Rattle.pe_version.proofs.Measures.{accepted}
use Rattle.pe_version.proofs.measure.whole_len.Goals as goal

pub returns : goal.returns
returns c =
    let fits : key_fits c.args.key.now ≡ true = grind (arith, c.key_fits.ensures, c.if-not-key_fits.false) in
    λ k m. accepted k c.args.key.now c.args.value c.args.children _ c.rounded_up-2.result m fits (ap (λ (n : ℕ). n + c.args.value + c.args.children) c.rounded_up.ensures.up) (omega (arith, c.if-end-gt-MOST.false)) c.rounded_up-2.ensures.up
