use Rattle.std.proofs.Common.{Bool, false, map, drop, Result}
use Rattle.pe_unwind.specs.UnwindRecord.{unwind_view}
use Rattle.pe_frame.specs.declared.error.FrameError.{FrameError}
use Rattle.pe_frame.specs.declared.registers.Registers.{Registers}
use Rattle.pe_frame.specs.Steps.{UndoesRecords}
use Rattle.pe_frame.proofs.frame.undo_records.Given as goal

-- what undoing the records that are left gives is what undoing all gives
abbrev pub invariant-loop-info : goal.invariant-loop-info
invariant-loop-info g l =
    (answer : Result (Registers × Bool) FrameError) →
    UndoesRecords (g.M.Memory.word l.memory) (map unwind_view (drop l.info-index l.plan)) l.limit l.is_interrupted l.registers answer →
    UndoesRecords (g.M.Memory.word l.memory) (map unwind_view l.plan) l.fn.limit false l.fn.registers answer
