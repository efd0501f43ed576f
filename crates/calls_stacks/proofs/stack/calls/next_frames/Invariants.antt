use Rattle.std.proofs.Common.{◌≡◌, length, take, drop}
use Rattle.pe_frame.specs.FrameWalks.{state_of}
use Rattle.calls_stacks.specs.FrameCalls.{ComesTo, reached, state_in}
use Rattle.calls_stacks.proofs.stack.calls.next_frames.Given as goal

-- the first i slots have the frames so far, and the others what they had
abbrev pub invariant-loop-i : goal.invariant-loop-i
invariant-loop-i g l = record {
  frames : ComesTo g.W.Frame.WalkFrame.Calls g.W.WalkRecord.records (record { memory = g.M.Memory.word l.memory; modules = g.L.LoadedModules.modules l.modules }) l.fn.walk (take l.i l.frames) (reached l.fn.walk l.frames l.i);
  others : drop l.i l.frames ≡ drop l.i l.fn.frames;
  position : state_of (record { memory = g.M.Memory.word l.memory; modules = g.L.LoadedModules.modules l.modules }) l.position ≡ state_in g.W.WalkRecord.records (record { memory = g.M.Memory.word l.memory; modules = g.L.LoadedModules.modules l.modules }) (reached l.fn.walk l.frames l.i);
  walk : l.walk ≡ l.fn.walk;
  same : length l.frames ≡ length l.fn.frames;
}
