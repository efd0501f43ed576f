use Rattle.pe_unwind.specs.UnwindRecord.{unwind_view}
use Rattle.pe_unwind.proofs.Offsets.{parts_stand}
use Rattle.calls_unwind.proofs.unwinding.record_at.Goals as goal

pub flat_record-requires : goal.flat_record-requires
flat_record-requires c = parts_stand c.args.bytes.now c.args.offset (unwind_view c.in_ok-info.info) c.in_ok-info.ensures
