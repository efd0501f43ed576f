use Rattle.std.proofs.Common.{◌+◌, ◌^◌, ◌<◌, arith, ap, ◌∙◌, subst, sym, rules}
use Rattle.std.specs.Option.{SomeIff, option_and_then}
use Rattle.pe_pdb.specs.Omap.{moved_by}
use Rattle.pe_pdb.proofs.OmapRows.{count_of_rows, gone, last_row, no_row, there}
use Rattle.pe_pdb.proofs.omap.moved_to.Goals as goal

pub returns-then-after-eq0 : goal.returns-then-after-eq0
returns-then-after-eq0 c = λ up. sym (ap (option_and_then (moved_by c.args.rva)) (no_row c.args.table.now c.args.rva c.count_up_to-after.result up c.count_up_to-after.ensures c.if-after-eq0.true))

pub overflow_mul-after : goal.overflow_mul-after
overflow_mul-after c = search (rules, arith, count_of_rows)

pub at-row-requires : goal.at-row-requires
at-row-requires c = search (rules, arith, count_of_rows)

pub returns-then-row-eq0 : goal.returns-then-row-eq0
returns-then-row-eq0 c = λ up. sym (ap (option_and_then (moved_by c.args.rva)) (last_row c.args.table.now c.args.rva c.count_up_to-after.result c.at-row.result up c.count_up_to-after.ensures (omega (arith, c.if-after-eq0.false)) c.at-row.ensures) ∙ gone c.args.rva c.at-row.result c.if-row-eq0.true)

pub returns : goal.returns
returns c = λ up. sym (ap (option_and_then (moved_by c.args.rva)) (last_row c.args.table.now c.args.rva c.count_up_to-after.result c.at-row.result up c.count_up_to-after.ensures (omega (arith, c.if-after-eq0.false)) c.at-row.ensures) ∙ there c.args.rva c.at-row.result c.checked_add.result c.if-row-eq0.false (subst (λ n. SomeIff c.checked_add.result (c.at-row.result.rva_to + n < 2 ^ 32) (c.at-row.result.rva_to + n)) c.saturating_sub.ensures c.checked_add.ensures))
