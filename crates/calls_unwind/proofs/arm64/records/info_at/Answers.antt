use Rattle.pe_unwind.specs.Arm64Record.{info_view}
use Rattle.pe_unwind.proofs.Arm64Records.{parts_stand}
use Rattle.calls_unwind.proofs.arm64.records.info_at.Goals as goal

pub flat_info-requires : goal.flat_info-requires
flat_info-requires c = parts_stand c.args.bytes.now c.args.offset (info_view c.in_ok-info.info) c.in_ok-info.ensures
