use Rattle.std.proofs.Common.{arith, sym, ◌∙◌}
use Rattle.pe_plan.proofs.Cited.{err_from_is_err_and, kind_of, unwind_view}
use Rattle.pe_plan.proofs.Marks.{comes_again, comes_to_refusal}
use Rattle.pe_plan.proofs.RecordLaw.{RecordLaw}
use Rattle.pe_plan.proofs.Walks.{IsChained, count_starts, counted_to_root, keeps_saved, moves_saved, too_many}
use Rattle.pe_plan.proofs.chain.Records.count.Goals.{then-chained-power, else-chained-power}
use Rattle.pe_plan.proofs.chain.Records.count.Goals as goal

pub loop-chained-init : goal.loop-chained-init
loop-chained-init c = count_starts _ _ _ (omega arith)

pub returns-in_err-next : goal.returns-in_err-next
returns-in_err-next c =
    let law : RecordLaw = record {
      exists = c.one_record_of_addresses.ensures.exists;
      one = c.one_record_of_addresses.ensures.one;
      cycle = c.one_record_of_addresses.ensures.cycle;
      no_memory = c.one_record_of_addresses.ensures.no_memory;
    } in
    let p = err_from_is_err_and c.from_residual.result c.from_residual.ensures.1 in
    rw (p.1, p.2) (comes_to_refusal law _ _ _ _ _ (kind_of c.in_err-next.field-0.0) _ c.loop-chained.invariant.way c.in_err-next.ensures)

pub returns-in_default : goal.returns-in_default
returns-in_default c = counted_to_root _ _ _ _ _ _ (unwind_view c.in_ok-next.field-0) c.loop-chained.invariant c.in_ok-next.ensures c.in_default.is

pub returns-then-address-saved : goal.returns-then-address-saved
returns-then-address-saved c =
    comes_again _ _ _ _ c.in-Some.next _ (unwind_view c.in_ok-next.field-0) _ c.loop-chained.invariant.way c.in_ok-next.ensures c.in-Some.is
    (sym c.address_of-address.ensures.value ∙ c.if-address-saved.true)

pub loop-chained-preserved : goal.loop-chained-preserved
loop-chained-preserved c =
    let chained : IsChained _ _ c.loop-chained.current c.in-Some.next = record { info = unwind_view c.in_ok-next.field-0; unwinds = c.in_ok-next.ensures; chained = c.in-Some.is; small = c.address_of-address.ensures.small } in
    elim c.if-chained-power.branch [
      | then-chained-power w ↦ moves_saved _ _ _ _ _ _ _ _ c.loop-chained.invariant chained (w.saved-is ∙ c.address_of-address.ensures.value)
      | else-chained-power w ↦ keeps_saved _ _ _ _ _ _ _ _ c.loop-chained.invariant chained w.saved-is
    ]

pub returns : goal.returns
returns c = too_many _ _ _ _ _ _ c.loop-chained.invariant (omega arith)
