use Rattle.std.proofs.Common.{◌+◌, ◌-◌, ◌∙◌, length, sym, ap, arith}
use Rattle.pe_lookup.proofs.Halving.{bits_enough, grows, halved, skipped, turned_up, turned_down, started_at_0}
use Rattle.pe_lookup.proofs.address_ranges.started.Goals as goal

pub loop-bits-init : goal.loop-bits-init
loop-bits-init g c = record {
  same = λ d. skipped g.R.AddressRange.start_of d c.args.ranges.now c.args.address c.bits_of-bits.result (length c.args.ranges.now) c.bits_of-bits.ensures.enough (bits_enough (length c.args.ranges.now));
  bits = c.bits_of-bits.ensures.most;
  inside = omega arith;
  small = omega (arith, grows (64 - c.bits_of-bits.result) c.bits_of-bits.result 64 (omega (arith, c.bits_of-bits.ensures.most)));
}

pub loop-bits-preserved-then-start_by : goal.loop-bits-preserved-then-start_by
loop-bits-preserved-then-start_by g c =
    let passed = λ (d : g.row.R.Denot). sym (c.start_by.ensures.is d) ∙ c.if-start_by.true in
    record {
      same = λ d. turned_up g.R.AddressRange.start_of d c.args.ranges.now c.args.address c.loop-bits.bits c.loop-bits.count _ (omega arith) (ap (λ n. c.loop-bits.count + n) c.power_of_two.ensures) (passed d) ∙ c.loop-bits.invariant.same d;
      bits = omega (arith, c.loop-bits.invariant.bits);
      inside = c.start_by.ensures.most c.if-start_by.true;
      small = omega (arith, c.loop-bits.invariant.small, c.power_of_two.ensures, halved c.loop-bits.bits (omega arith));
    }

pub loop-bits-preserved : goal.loop-bits-preserved
loop-bits-preserved g c =
    let failed = λ (d : g.row.R.Denot). sym (c.start_by.ensures.is d) ∙ c.if-start_by.false in
    record {
      same = λ d. turned_down g.R.AddressRange.start_of d c.args.ranges.now c.args.address c.loop-bits.bits c.loop-bits.count _ (omega arith) (ap (λ n. c.loop-bits.count + n) c.power_of_two.ensures) (failed d) ∙ c.loop-bits.invariant.same d;
      bits = omega (arith, c.loop-bits.invariant.bits);
      inside = c.loop-bits.invariant.inside;
      small = omega (arith, c.loop-bits.invariant.small, halved c.loop-bits.bits (omega arith));
    }

pub returns-clause-count : goal.returns-clause-count
returns-clause-count g c d = started_at_0 g.R.AddressRange.start_of d c.args.ranges.now c.args.address c.loop-bits.bits c.loop-bits.count (omega arith) (c.loop-bits.invariant.same d)
