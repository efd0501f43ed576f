use Rattle.calls_directories.proofs.names.export_texts.texts_cost_much.Given as goal
use Rattle.calls_directories.proofs.Cited.{AreNear, map_of}

abbrev pub invariant-loop-i : goal.invariant-loop-i
invariant-loop-i l = AreNear (map_of l.view) l.windows
