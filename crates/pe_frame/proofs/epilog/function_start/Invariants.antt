use Rattle.std.proofs.Common.{◌≡◌, map, drop}
use Rattle.pe_frame.proofs.Cited.{unwind_view, function_start}
use Rattle.pe_frame.proofs.epilog.function_start.Given as goal

-- the start so far, and what the other records make of it
abbrev pub invariant-loop-info : goal.invariant-loop-info
invariant-loop-info l =
    function_start l.found (map unwind_view (drop l.info-index l.plan.records.now)) ≡ function_start l.plan.start (map unwind_view l.plan.records.now)
