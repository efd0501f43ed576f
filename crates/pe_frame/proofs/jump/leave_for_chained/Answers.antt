use Rattle.std.proofs.Common.{map, Option, Ok, subst}
use Rattle.pe_frame.proofs.Cited.{option_map, links_with, unwind_view, PlansShort, records_of, ShortPlan, changed_with, instructions_of}
use Rattle.pe_frame.proofs.Targets.{leaves_by_plan}
use Rattle.pe_frame.proofs.jump.leave_for_chained.Goals as goal

pub returns-in-Ok-Some : goal.returns-in-Ok-Some
returns-in-Ok-Some g c =
    let e = c.args.functions.now.exceptions.now in
    let rva_map = g.R.RvaMap.offset c.args.functions.now.map.now in
    let plans = subst (λ (o : Option ShortPlan). PlansShort (links_with e rva_map) e.content c.args.target.function (Ok (option_map records_of o))) c.in-Ok-Some.field-0-is c.in-Ok-Some.ensures in
    leaves_by_plan e rva_map c.args.target.rva c.args.target.function (g.M.Memory.word c.args.memory.now) (instructions_of c.args.tail.now) c.args.registers.now c.saturating_sub-offset.result
    (records_of c.in-Ok-Some.plan) (map unwind_view c.records.result.now) (changed_with c.leave_to.result c.leave_to.new.registers) plans c.saturating_sub-offset.ensures c.records.ensures c.leave_to.ensures
