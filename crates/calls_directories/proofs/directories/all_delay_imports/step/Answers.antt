use Rattle.std.proofs.Common.{◌≡◌, subst}
use Rattle.calls_directories.proofs.Cited.{option_map, directory_answer, map_of}
use Rattle.calls_directories.specs.LibraryFunctions.{turn}
use Rattle.calls_directories.proofs.LibraryFunctionRuns.{one_more_turn}
use Rattle.calls_directories.proofs.directories.all_delay_imports.step.Goals as goal

pub loop-given-preserved : goal.loop-given-preserved
loop-given-preserved c =
    let view = c.args.names.now.view.now in
    let next = c.turn-given.result.1 in
    let begun = subst (λ o. (option_map (directory_answer (λ x. x)) o, next) ≡ turn (map_of view) view.bytes.now view.image.now c.loop-given.walk) c.in-None.is c.turn-given.ensures.turn in
    record {
      onward = λ answer v s. c.loop-given.invariant.onward answer v (one_more_turn (map_of view) view.bytes.now view.image.now c.loop-given.walk next answer v begun s);
      kept = c.turn-given.ensures.kept;
    }
