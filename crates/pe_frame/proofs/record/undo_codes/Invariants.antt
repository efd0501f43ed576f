use Rattle.std.proofs.Common.{◌≡◌, List, Ok, map}
use Rattle.pe_unwind.specs.declared.unwind_code.UnwindCode.{UnwindCode}
use Rattle.pe_unwind.specs.CodeStream.{AreItems, stream_of}
use Rattle.pe_unwind.specs.UnwindRecord.{code_stream, unwind_view}
use Rattle.pe_frame.specs.Undoing.{ran, undone_all}
use Rattle.pe_frame.proofs.record.undo_codes.Given as goal

-- undoing the codes that are left is undoing all
abbrev pub invariant-loop-item : goal.invariant-loop-item
invariant-loop-item g l =
    (codes : List UnwindCode) → AreItems (code_stream (unwind_view l.info)) (map Ok codes) →
    (rest : List UnwindCode) × AreItems (stream_of l.item-iterator) (map Ok rest)
    × (undone_all (g.M.Memory.word l.memory) l.frame.base (ran l.frame.limit rest) l.registers
    ≡ undone_all (g.M.Memory.word l.memory) l.frame.base (ran l.frame.limit codes) l.fn.registers)
