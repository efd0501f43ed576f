use Rattle.std.proofs.Common.{ℕ, length, None, Ok}
use Rattle.pe_frame.specs.PlainRecords.{plain_stream, with_general}
use Rattle.pe_frame.specs.Survey.{UndoesFirst}
use Rattle.pe_frame.specs.declared.registers.Registers.{Registers}
use Rattle.pe_frame.proofs.plain.undo_all_plain.Given as goal

-- the codes so far are undone
abbrev pub invariant-loop-operation : goal.invariant-loop-operation
invariant-loop-operation g l =
    (v : ℕ) (q : Registers) → UndoesFirst (g.M.Memory.word l.memory) l.base None (plain_stream v l.codes) (plain_stream v l.rest) (with_general q l.fn.general) (Ok (with_general q l.general))

abbrev pub decreases-loop-operation : goal.decreases-loop-operation
decreases-loop-operation g l = length l.rest
