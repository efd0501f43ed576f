use Rattle.std.proofs.Common.{◌≡◌, ◌+◌, ◌-◌, ◌%◌, Ok, ap, ◌∙◌, get_or, take, drop, subst, arith}
use Rattle.pe_core.specs.declared.many_lists.Entries.{Entries}
use Rattle.pe_core.proofs.EntryLists.{inside_list}
use Rattle.pe_core.proofs.many_lists.lookups_among.Goals as goal

pub returns-then-list-offset-eq0 : goal.returns-then-list-offset-eq0
returns-then-list-offset-eq0 c =
    let none : Entries = record { start = 0; end = 0 } in
    let list : Entries = get_or c.args.lists.now (c.partition_point-after.result - 1) none in
    let end : c.args.offset + (list.end - c.args.offset) ≡ list.end = omega arith in
    inside_list c.args.is_64 c.args.bytes.now list c.args.offset (c.requires (c.partition_point-after.result - 1) none (omega (arith, c.partition_point-after.ensures.bound, c.if-after-gt0.true))) (omega arith) (omega arith)
    (subst (λ w. (list.end - c.args.offset) % w ≡ 0) c.lookup_size-size.ensures c.if-list-offset-eq0.true)
    ∙ ap (λ e. Ok (take (e - c.args.offset) (drop c.args.offset c.args.bytes.now))) end
