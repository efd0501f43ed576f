use Rattle.std.proofs.Common.{◌-◌, ◌/◌, arith}
use Rattle.pe_frame.specs.Arm64Packed.{integer_pairs}
use Rattle.pe_frame.proofs.Arm64CodeLists.{integers_more, integers_all}
use Rattle.pe_frame.proofs.arm64.packed.PackedFrame.push_integer_pairs.Goals as goal

pub loop-index-preserved : goal.loop-index-preserved
loop-index-preserved c = record {
  added = integers_more c.args.self.now c.loop-index.codes c.push.new.self c.args.codes.now (integer_pairs c.args.self.now (c.args.self.now.integers / 2)) c.integer_pair.result c.loop-index.index (c.loop-index.index - 1) (omega (arith, c.loop-index-test.true)) c.integer_pair.ensures c.push.ensures c.loop-index.invariant.added;
  few = omega (arith, c.loop-index.invariant.few);
}

pub returns : goal.returns
returns c = integers_all c.args.self.now c.loop-index.codes c.args.codes.now (integer_pairs c.args.self.now (c.args.self.now.integers / 2)) c.loop-index.index (omega (arith, c.loop-index-test.false)) c.loop-index.invariant.added
