use Rattle.std.proofs.Common.{Bool}
use Rattle.pe_resource.proofs.Cited.{ResourceEntry, IsSteady}
use Rattle.pe_resource.proofs.Walks.{WalkedTo}
use Rattle.pe_resource.proofs.entry.walk.Given as goal

abbrev pub invariant-loop-steps : goal.invariant-loop-steps
invariant-loop-steps g l =
    goal.P-IsAlwaysCallable g l.predicate
    × ((p : ResourceEntry → Bool) → IsSteady g.P.Fn l.predicate p → WalkedTo l.bytes p l.fn.start l.steps l.current l.saved)
