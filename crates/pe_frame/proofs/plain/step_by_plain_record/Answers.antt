use Rattle.std.proofs.Common.{arith}
use Rattle.pe_unwind.specs.UnwindRecord.{unwind_view}
use Rattle.pe_frame.specs.PlainRecords.{with_general}
use Rattle.pe_frame.proofs.PlainRecords.{stepped_if}
use Rattle.pe_frame.proofs.plain.step_by_plain_record.Goals as goal

pub returns : goal.returns
returns g c q =
    let image = c.args.functions.now in
    let info = unwind_view c.in-Ok.info in
    let plain = c.may_be_plain.ensures in
    let may = c.if-not-may_be_plain.false in
    let all = c.if-not-undo_all_plain.false in
    stepped_if image.exceptions.now (g.R.RvaMap.offset image.map.now) (g.M.Memory.word c.args.memory.now) c.args.function info c.args.rva c.code_bytes.result.now
    (with_general q c.args.general.now) (with_general q c.undo_all_plain.new.general) (with_general q c.pop_plain.new.general) c.pop_plain.result
    c.in-Ok.ensures (plain.chained may) (plain.frame may) (omega (arith, plain.prolog may, c.saturating_sub.ensures)) c.code_bytes.ensures (c.undo_all_plain.ensures info.version q all) (c.pop_plain.ensures q)
