use Rattle.std.proofs.Common.{ℕ, length, None, Ok}
use Rattle.pe_frame.specs.Survey.{UndoesFirst}
use Rattle.pe_frame.proofs.frequent.undo_frequent.Given as goal

-- the codes so far are undone
abbrev pub invariant-loop-operation : goal.invariant-loop-operation
invariant-loop-operation g l =
    (v f : ℕ) → UndoesFirst (g.M.Memory.word l.memory) l.base None (record { content = l.codes; version = v; frame = f })
    (record { content = l.rest; version = v; frame = f }) l.fn.registers (Ok l.registers)

abbrev pub decreases-loop-operation : goal.decreases-loop-operation
decreases-loop-operation g l = length l.rest
