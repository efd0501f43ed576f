use Rattle.std.proofs.Common.{◌-◌, ◌≤◌, length}
use Rattle.pe_core.specs.ZeroRuns.{HasAscii, HasNoZero}
use Rattle.pe_pdb.proofs.record_text.ascii_end.Given as goal

-- the bytes so far are ASCII and not zero
abbrev pub invariant-loop-end : goal.invariant-loop-end
invariant-loop-end l = record {
  after : l.start ≤ l.end;
  passed : HasNoZero l.bytes l.start l.end;
  ascii : HasAscii l.bytes l.start l.end;
}

abbrev pub decreases-loop-end : goal.decreases-loop-end
decreases-loop-end l = length l.bytes - l.end
