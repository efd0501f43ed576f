use Rattle.std.proofs.Common.{◌≡◌, ◌+◌, ◌-◌, ◌∙◌, true, false, sym, subst, ap, rules, arith}
use Rattle.calls_base.proofs.Cited.{start_by, grows, halved, start_inside}
use Rattle.calls_base.proofs.ViewRuns.{alike_down, alike_first, alike_last, alike_up}
use Rattle.calls_base.proofs.loaded.started_until.Goals as goal

pub loop-bits-init : goal.loop-bits-init
loop-bits-init c = record {
  alike = alike_first c.args.entries.now c.args.rva c.bits_of-bits.result c.bits_of-bits.ensures.enough c.bits_of-bits.ensures.most (omega (arith, c.ranges.rva.fits));
  bits = c.bits_of-bits.ensures.most;
  inside = omega arith;
  small = omega (arith, grows (64 - c.bits_of-bits.result) c.bits_of-bits.result 64 (omega (arith, c.bits_of-bits.ensures.most)));
}

pub loop-bits-preserved-then-start_by : goal.loop-bits-preserved-then-start_by
loop-bits-preserved-then-start_by c =
    let passed = subst (λ x. start_by c.args.entries.now x (c.loop-bits.count + c.power_of_two.result) ≡ true) c.from.ensures (sym c.start_by.ensures ∙ c.if-start_by.true) in
    record {
      alike = alike_up c.args.entries.now c.args.rva c.loop-bits.bits c.loop-bits.count _ c.loop-bits.end c.loop-bits.invariant.alike (omega arith) (ap (λ n. c.loop-bits.count + n) c.power_of_two.ensures) passed;
      bits = omega (arith, c.loop-bits.invariant.bits);
      inside = start_inside c.args.entries.now c.args.rva _ passed;
      small = omega (arith, c.loop-bits.invariant.small, c.power_of_two.ensures, halved c.loop-bits.bits (omega arith));
    }

pub loop-bits-preserved : goal.loop-bits-preserved
loop-bits-preserved c =
    let failed = subst (λ x. start_by c.args.entries.now x (c.loop-bits.count + c.power_of_two.result) ≡ false) c.from.ensures (sym c.start_by.ensures ∙ c.if-start_by.false) in
    record {
      alike = alike_down c.args.entries.now c.args.rva c.loop-bits.bits c.loop-bits.count _ c.loop-bits.end _ c.loop-bits.invariant.alike (omega arith) (ap (λ n. c.loop-bits.count + n) c.power_of_two.ensures) failed (omega (arith, c.ranges.rva.fits)) (search (rules, c.start_of_last.ensures));
      bits = omega (arith, c.loop-bits.invariant.bits);
      inside = c.loop-bits.invariant.inside;
      small = omega (arith, c.loop-bits.invariant.small, halved c.loop-bits.bits (omega arith));
    }

pub returns : goal.returns
returns c = alike_last c.args.entries.now c.args.rva c.loop-bits.bits c.loop-bits.count c.loop-bits.end c.loop-bits.invariant.alike (omega arith) c.loop-bits.invariant.inside
