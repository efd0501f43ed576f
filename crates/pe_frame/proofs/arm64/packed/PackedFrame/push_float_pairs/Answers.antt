use Rattle.std.proofs.Common.{◌-◌, ◌/◌, arith}
use Rattle.pe_frame.specs.Arm64Packed.{float_pairs}
use Rattle.pe_frame.proofs.Arm64CodeLists.{floats_more, floats_all}
use Rattle.pe_frame.proofs.arm64.packed.PackedFrame.push_float_pairs.Goals as goal

pub loop-index-preserved : goal.loop-index-preserved
loop-index-preserved c = record {
  added = floats_more c.args.self.now c.loop-index.codes c.push.new.self c.args.codes.now (float_pairs c.args.self.now (c.args.self.now.floats / 2)) c.float_pair.result c.loop-index.index (c.loop-index.index - 1) (omega (arith, c.loop-index-test.true)) c.float_pair.ensures c.push.ensures c.loop-index.invariant.added;
  few = omega (arith, c.loop-index.invariant.few);
}

pub returns : goal.returns
returns c = floats_all c.args.self.now c.loop-index.codes c.args.codes.now (float_pairs c.args.self.now (c.args.self.now.floats / 2)) c.loop-index.index (omega (arith, c.loop-index-test.false)) c.loop-index.invariant.added
