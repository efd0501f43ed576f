use Rattle.std.proofs.Common.{◌≡◌, ◌+◌, ◌-◌, ◌%◌, Ok, ap, ◌∙◌, get_or, take, drop, subst, arith}
use Rattle.pe_core.proofs.EntryLists.{inside_list}
use Rattle.calls_base.specs.declared.text_runs.Run.{Run}
use Rattle.calls_base.proofs.entry_lists.EntryLists.at.Goals as goal

pub returns-then-list-start-eq0 : goal.returns-then-list-start-eq0
returns-then-list-start-eq0 c =
    let none : Run = record { start = 0; end = 0; text = 0 } in
    let list : Run = get_or c.args.self.now.lists.now (c.partition_point-after.result - 1) none in
    let end : c.args.offset + (list.end - c.args.offset) ≡ list.end = omega arith in
    inside_list c.args.self.now.is_64 c.args.self.now.bytes.now (record { start = list.start; end = list.end }) c.args.offset (c.args.self.now.are (c.partition_point-after.result - 1) none (omega (arith, c.partition_point-after.ensures.bound, c.if-after-gt0.true))) (omega arith) (omega arith)
    (subst (λ w. (list.end - c.args.offset) % w ≡ 0) c.lookup_size.ensures c.if-list-start-eq0.true)
    ∙ ap (λ e. Ok (take (e - c.args.offset) (drop c.args.offset c.args.self.now.bytes.now))) end
