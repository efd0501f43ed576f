use Rattle.std.proofs.Common.{◌≡◌, map, drop}
use Rattle.pe_frame.proofs.Cited.{unwind_view, lies_in_parents}
use Rattle.pe_frame.proofs.epilog.lies_in_parents.Given as goal

-- the records so far have no such parent
abbrev pub invariant-loop-info : goal.invariant-loop-info
invariant-loop-info l =
    lies_in_parents (map unwind_view (drop l.info-index l.plan)) l.rva ≡ lies_in_parents (map unwind_view l.plan) l.rva
