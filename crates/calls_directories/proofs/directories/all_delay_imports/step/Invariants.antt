use Rattle.std.proofs.Common.{Option, Result}
use Rattle.calls_directories.proofs.Cited.{DirectoryRefusal, ChangeNothing, StepsLibraryFunctions, map_of, LibraryFunction}
use Rattle.calls_directories.proofs.Cited.{LibraryFunctions}
use Rattle.calls_directories.proofs.directories.all_delay_imports.step.Given as goal

-- a step from here is one from the start
abbrev pub invariant-loop-given : goal.invariant-loop-given
invariant-loop-given l = record {
  onward : (answer : Result (Option LibraryFunction) DirectoryRefusal) (v : LibraryFunctions) →
      StepsLibraryFunctions (map_of l.names.view.now) l.names.view.now.bytes.now l.names.view.now.image.now l.walk answer v →
      StepsLibraryFunctions (map_of l.names.view.now) l.names.view.now.bytes.now l.names.view.now.image.now l.initial.walk answer v;
  kept : ChangeNothing l.names.view.now l.kept;
}

-- each DLL takes bytes of the directory
abbrev pub decreases-loop-given : goal.decreases-loop-given
decreases-loop-given l = l.walk.libraries.length
