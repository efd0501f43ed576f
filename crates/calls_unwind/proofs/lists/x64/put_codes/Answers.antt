use Rattle.calls_unwind.proofs.lists.x64.put_codes.Goals as goal

pub returns-else-is_empty : goal.returns-else-is_empty
returns-else-is_empty c = c.put_any.ensures c.args.codes c.args.entries.now c.put_frequent-count.ensures
