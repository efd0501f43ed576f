use Rattle.std.proofs.Common.{ℕ, ◌-◌, Some, ap, sym, ◌∙◌}
use Rattle.pe_unwind.specs.declared.function_table.RuntimeFunction.{RuntimeFunction}
use Rattle.pe_unwind.specs.Links.{linked_table}
use Rattle.pe_core.proofs.Map.{offset_is}
use Rattle.pe_unwind.proofs.LinkChains.{next_ok, no_entry-before, no_entry-inside, no_entry-after}
use Rattle.pe_unwind.proofs.links.follow.Goals.{then-offset-start-via-then-offset-start, then-offset-start-via-else-offset-start+then-offset-start-ne0, then-offset-start-via-else-offset-start+else-offset-start-ne0+then-table-offset}
use Rattle.pe_unwind.proofs.links.follow.Goals as goal

pub returns-then-offset-start : goal.returns-then-offset-start
returns-then-offset-start g c =
    let t = linked_table c.args.table.now c.args.start (g.M.RvaMap.offset c.args.map.now) in
    let p : ℕ = c.in_ok-offset.offset in
    let mapped_to = offset_is (t.offset (c.args.address - 1)) p (sym c.in_ok-offset.ensures) in
    elim c.then-offset-start.branch [
      | then-offset-start-via-then-offset-start w ↦ (p, mapped_to, no_entry-before t p w.if-offset-start.true)
      | then-offset-start-via-else-offset-start+then-offset-start-ne0 w ↦ (p, mapped_to, no_entry-inside t p w.if-offset-start-ne0.true)
      | then-offset-start-via-else-offset-start+else-offset-start-ne0+then-table-offset w ↦ (p, mapped_to, no_entry-after t p w.if-table-offset.true)
    ]

pub returns : goal.returns
returns g c =
    next_ok (linked_table c.args.table.now c.args.start (g.M.RvaMap.offset c.args.map.now)) c.args.address c.in_ok-offset.offset c.requires (offset_is _ _ (sym c.in_ok-offset.ensures)) c.if-offset-start.false c.if-offset-start-ne0.false c.if-table-offset.false
    ∙ ap (λ (f : RuntimeFunction). Some f.unwind_info_address) (sym c.at.ensures)
