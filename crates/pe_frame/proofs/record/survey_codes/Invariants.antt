use Rattle.std.proofs.Common.{◌≡◌, List, Result}
use Rattle.pe_core.specs.declared.error.Error.{Error}
use Rattle.pe_unwind.specs.declared.unwind_code.UnwindCode.{UnwindCode}
use Rattle.pe_unwind.specs.CodeStream.{AreItems, stream_of}
use Rattle.pe_unwind.specs.UnwindRecord.{code_stream, unwind_view}
use Rattle.pe_frame.specs.Survey.{nothing_known}
use Rattle.pe_frame.specs.Steps.{known_codes}
use Rattle.pe_frame.proofs.Streams.{all_surveyed}
use Rattle.pe_frame.proofs.record.survey_codes.Given as goal

-- whatever items are left, what is known so far and of them is what is known of all
abbrev pub invariant-loop-item : goal.invariant-loop-item
invariant-loop-item l =
    (rest : List (Result UnwindCode Error)) → AreItems (stream_of l.item-iterator) rest →
    (all : List (Result UnwindCode Error)) × AreItems (code_stream (unwind_view l.info)) all
    × (all_surveyed l.limit nothing_known (known_codes all) ≡ all_surveyed l.limit l.survey (known_codes rest))
