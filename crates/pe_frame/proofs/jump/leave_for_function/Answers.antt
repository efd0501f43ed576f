use Rattle.std.proofs.Common.{◌≡◌, List, ◌∷◌, map, false, ap, []}
use Rattle.pe_frame.proofs.Cited.{is_some, kind_of, unwind_view, UnwindInfo, changed_with, instructions_of}
use Rattle.pe_frame.proofs.Targets.{leaves_by_one, leaves_refused, none_chained}
use Rattle.pe_frame.proofs.jump.leave_for_function.Goals as goal

pub returns-in-Err : goal.returns-in-Err
returns-in-Err g c =
    leaves_refused c.args.functions.now.exceptions.now (g.R.RvaMap.offset c.args.functions.now.map.now) c.args.target.rva c.args.target.function (g.M.Memory.word c.args.memory.now) (instructions_of c.args.tail.now) c.args.registers.now
    (kind_of c.in-Err.field-0) (changed_with c.run_out.result c.run_out.new.registers) c.in-Err.ensures c.run_out.ensures

pub returns : goal.returns
returns g c =
    let no : is_some c.in-Ok.info.chained_info ≡ false = cc (c.if-is_some.false, c.is_some.ensures) in
    let same : map unwind_view c.from_ref.result.now ≡ unwind_view c.in-Ok.info ∷ [] = ap (λ (xs : List UnwindInfo). map unwind_view xs) c.from_ref.ensures.value in
    leaves_by_one c.args.functions.now.exceptions.now (g.R.RvaMap.offset c.args.functions.now.map.now) c.args.target.rva c.args.target.function (g.M.Memory.word c.args.memory.now) (instructions_of c.args.tail.now) c.args.registers.now
    c.saturating_sub-offset.result (unwind_view c.in-Ok.info) (map unwind_view c.from_ref.result.now) (changed_with c.leave_to.result c.leave_to.new.registers) c.in-Ok.ensures (none_chained c.in-Ok.info.chained_info no) c.saturating_sub-offset.ensures same c.leave_to.ensures
