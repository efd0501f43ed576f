use Rattle.std.proofs.Common.{◌-◌, ◌^◌, Option, Result}
use Rattle.calls_directories.proofs.Cited.{◌==◌, entry_size, Refusal, StepsLibraryImports, ChangeNothing, IsWindow, map_of}
use Rattle.calls_directories.proofs.Cited.{LibraryImport, LibraryImports}
use Rattle.calls_directories.proofs.names.all_imports.step.Given as goal

-- a step from here is one from the start
abbrev pub invariant-loop-given : goal.invariant-loop-given
invariant-loop-given l = record {
  onward : (answer : Result (Option LibraryImport) Refusal) (v : LibraryImports) →
      StepsLibraryImports (map_of l.names.view.now) (entry_size (l.names.view.now.image.now.width == 64)) l.names.view.now.bytes.now l.walk answer v →
      StepsLibraryImports (map_of l.names.view.now) (entry_size (l.names.view.now.image.now.width == 64)) l.names.view.now.bytes.now l.initial.walk answer v;
  near : IsWindow (map_of l.names.view.now) l.hints;
  kept : ChangeNothing l.names.view.now l.kept;
}

-- each library has its record after that of the one before
abbrev pub decreases-loop-given : goal.decreases-loop-given
decreases-loop-given l = 2 ^ 64 - l.walk.libraries.next
