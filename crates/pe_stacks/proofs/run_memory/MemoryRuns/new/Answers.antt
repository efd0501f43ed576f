use Rattle.std.proofs.Common.{◌≡◌, ◌<◌, ◌^◌, List, length, take, drop, true, rules, arith, subst, sym}
use Rattle.pe_frame.specs.MemoryLists.{are_inside}
use Rattle.pe_frame.specs.declared.memory_list.MemoryPiece.{MemoryPiece}
use Rattle.pe_stacks.specs.MemoryRuns.{AreRuns}
use Rattle.pe_stacks.proofs.RunBytes.{all_low}
use Rattle.pe_core.proofs.SplitRooms.{take_front}
use Rattle.pe_stacks.proofs.run_memory.MemoryRuns.new.Goals as goal

pub put_runs-count-requires-clause-low : goal.put_runs-count-requires-clause-low
put_runs-count-requires-clause-low g c =
    let inside : are_inside c.args.bytes.now c.args.pieces.now ≡ true = search rules in
    let few : length c.args.bytes.now < 2 ^ 64 = search rules in
    all_low c.args.bytes.now c.args.pieces.now few inside

pub invariant_of-result : goal.invariant_of-result
invariant_of-result g c =
    let inside : are_inside c.args.bytes.now c.args.pieces.now ≡ true = search rules in
    let room = take_front c.resize.new.self.len c.put_runs-count.new.room (drop (length c.put_runs-count.new.room) c.resize.new.self.items) (omega (arith, c.put_runs-count.ensures.room, c.deref_mut.ensures.len)) in
    let front = subst (λ (rs : List MemoryPiece). AreRuns c.args.pieces.now (take c.put_runs-count.result rs)) (sym room) c.put_runs-count.ensures.runs in
    let runs : AreRuns c.args.pieces.now c.truncate.new.self.items = subst (λ (rs : List MemoryPiece). AreRuns c.args.pieces.now rs) (sym c.truncate.ensures.items) front in
    record { ascending = runs.ascending; inside = runs.inside c.args.bytes.now inside }
