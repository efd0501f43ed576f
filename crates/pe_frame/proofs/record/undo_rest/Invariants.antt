use Rattle.std.proofs.Common.{◌≡◌, List, Result}
use Rattle.pe_core.specs.declared.error.Error.{Error}
use Rattle.pe_unwind.specs.declared.unwind_code.UnwindCode.{UnwindCode}
use Rattle.pe_unwind.specs.CodeStream.{AreItems, stream_of, with_left}
use Rattle.pe_unwind.specs.UnwindRecord.{code_stream, unwind_view}
use Rattle.pe_frame.specs.InPlace.{changed}
use Rattle.pe_frame.specs.Survey.{all_undone, nothing_known}
use Rattle.pe_frame.specs.Steps.{known_codes}
use Rattle.pe_frame.proofs.record.undo_rest.Given as goal

-- whatever items are left, what is known and undone so far and of them is what is known and undone of the rest
abbrev pub invariant-loop-item : goal.invariant-loop-item
invariant-loop-item g l =
    (rest : List (Result UnwindCode Error)) → AreItems (stream_of l.item-iterator) rest →
    (all : List (Result UnwindCode Error)) × AreItems (with_left (code_stream (unwind_view l.info)) l.first.rest.now) all
    × (all_undone (g.M.Memory.word l.memory) l.frame.base l.frame.limit nothing_known (changed l.first.left l.fn.registers) (known_codes all)
    ≡ all_undone (g.M.Memory.word l.memory) l.frame.base l.frame.limit l.survey (changed l.left l.registers) (known_codes rest))
