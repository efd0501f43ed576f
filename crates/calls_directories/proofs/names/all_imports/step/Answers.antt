use Rattle.std.proofs.Common.{◌≡◌, subst}
use Rattle.calls_directories.proofs.Cited.{option_map, ◌==◌, entry_size, answer_of, turn, map_of}
use Rattle.calls_directories.proofs.LibraryImportRuns.{one_more_turn}
use Rattle.calls_directories.proofs.names.all_imports.step.Goals as goal

pub loop-given-preserved : goal.loop-given-preserved
loop-given-preserved c =
    let offset = map_of c.args.names.now.view.now in
    let w = entry_size (c.args.names.now.view.now.image.now.width == 64) in
    let b = c.args.names.now.view.now.bytes.now in
    let next = c.turn-given.result.1 in
    let begun = subst (λ o. (option_map answer_of o, next) ≡ turn offset w b c.loop-given.walk) c.in-None.is c.turn-given.ensures.turn in
    record {
      onward = λ answer v s. c.loop-given.invariant.onward answer v (one_more_turn offset w b c.loop-given.walk next answer v begun s);
      near = c.turn-given.ensures.near;
      kept = c.turn-given.ensures.kept;
    }
