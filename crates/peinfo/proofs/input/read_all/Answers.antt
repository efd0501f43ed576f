use Rattle.std.proofs.Common.{arith, take, ap, ◌∙◌, rules}
use Rattle.std.proofs.lemmas.List.{with_items_is, places}
use Rattle.peinfo.proofs.Reading.{goes_on, long, all_read}
use Rattle.peinfo.proofs.input.read_all.Goals as goal

pub loop-preserved : goal.loop-preserved
loop-preserved g c =
    let front = c.read_after.ensures.front ∙ ap (take c.loop.filled) c.deref_mut.ensures.value ∙ c.make_room.ensures.front in
    record {
      part = rw (with_items_is c.make_room.new.bytes c.read_after.new.bytes (search (rules, places)))
          (goes_on _ _ _ c.loop.bytes.items c.read_after.new.bytes c.loop.filled c.in-Ok.count c.loop.invariant.part front c.in-Ok.ensures.ok c.in-Ok.ensures.fits);
      counted = omega arith;
    }

pub returns-in-Ok-eq0-clause-bytes : goal.returns-in-Ok-eq0-clause-bytes
returns-in-Ok-eq0-clause-bytes g c =
    let front = c.read_after.ensures.front ∙ ap (take c.loop.filled) c.deref_mut.ensures.value ∙ c.make_room.ensures.front in
    all_read _ _ _ c.loop.bytes.items c.read_after.new.bytes _ c.loop.filled c.loop.invariant.part front
    (rw c.in-Ok-eq0.field-0-test at c.in-Ok-eq0.ensures.ok) (c.in-Ok-eq0.ensures.end c.in-Ok-eq0.field-0-test)
    (rw (with_items_is c.make_room.new.bytes c.read_after.new.bytes (search (rules, places))) at c.without_room.ensures)

pub returns-clause-endless : goal.returns-clause-endless
returns-clause-endless g c = long _ _ _ _ 1048576 c.loop.invariant.part (omega arith)
