use Rattle.std.proofs.Common.{◌<◌, length, Bool, Some, None, if◌then◌else◌, length-set, refl, ap, sym, subst, ◌∙◌, arith}
use Rattle.pe_frame.specs.FrameWalks.{Advances, Process, state_of}
use Rattle.calls_stacks.specs.FrameCalls.{state_in}
use Rattle.calls_stacks.proofs.NextFrames.{done, frames_more, others_stay, reached_by, reached_here, same_position, same_remaining}
use Rattle.calls_stacks.proofs.stack.calls.next_frames.Goals as goal

pub loop-i-init : goal.loop-i-init
loop-i-init g c =
    let p : Process = record { memory = g.M.Memory.word c.args.memory.now; modules = g.L.LoadedModules.modules c.args.modules.now } in
    record { frames = refl; others = refl; position = c.position-position.ensures p; walk = refl; same = refl }

pub loop-i-preserved : goal.loop-i-preserved
loop-i-preserved g c =
    let p : Process = record { memory = g.M.Memory.word c.args.memory.now; modules = g.L.LoadedModules.modules c.args.modules.now } in
    let calls = g.W.Frame.WalkFrame.Calls in
    let records = g.W.WalkRecord.records in
    let so_far = c.loop-i.invariant in
    let last = c.walk_after-next.result in
    let is = reached_by last c.loop-i.walk c.args.walk.now c.loop-i.frames c.loop-i.i so_far.walk c.walk_after-next.ensures in
    let before = state_of p c.loop-i.position in
    let place = so_far.position ∙ ap (state_in records p) (sym is) in
    let left = same_remaining calls records p last before place in
    let some : 0 < records.remaining last = omega (arith, left, c.if-position-eq0.false) in
    let new = c.advance.new.self in
    let after = state_of p new in
    let advances = subst (λ (more : Bool). Advances calls before (if more then Some new.frame else None) after) c.if-not-advance.false c.advance.ensures in
    let next = c.put_frame.new.self in
    let within : c.loop-i.i < length c.loop-i.frames = omega (arith, c.loop-i-test.true, so_far.same) in
    record {
      frames = frames_more calls records p c.args.walk.now last next c.loop-i.frames c.loop-i.i so_far.frames is (done calls records p last next new.frame before after place some advances c.put_frame.ensures.after c.put_frame.ensures.kept) within;
      others = others_stay calls records p c.args.frames.now c.loop-i.frames c.loop-i.i next so_far.others;
      position = same_position calls records p last next new.frame before after place some advances (c.put_frame.ensures.position p) ∙ ap (state_in records p) (reached_here c.args.walk.now next c.loop-i.frames c.loop-i.i within);
      walk = so_far.walk;
      same = length-set c.loop-i.frames c.loop-i.i next ∙ so_far.same;
    }
