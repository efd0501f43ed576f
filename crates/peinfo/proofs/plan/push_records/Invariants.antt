use Rattle.std.proofs.Common.{◌≡◌, ◌++◌, map, take}
use Rattle.pe_unwind.specs.UnwindRecord.{unwind_view}
use Rattle.peinfo.specs.Plan.{record_lines}
use Rattle.peinfo.proofs.plan.push_records.Given as goal

-- the lines so far
abbrev pub invariant-loop-record : goal.invariant-loop-record
invariant-loop-record g l = l.text.items ≡ l.fn.text.items ++ record_lines (map unwind_view (take l.record-index l.records))
