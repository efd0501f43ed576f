use Rattle.std.proofs.Common.{◌≡◌, IfSome, arith, refl, ap, ◌∷◌, [], length, length-append}
use Rattle.pe_plan.proofs.Cited.{length-map, kind_of, unwind_view}
use Rattle.std.proofs.lemmas.Slice.{pushed}
use Rattle.pe_plan.proofs.RecordLaw.{RecordLaw}
use Rattle.pe_plan.proofs.Walks.{not_refused, takes_next, goes_on, goes_nowhere}
use Rattle.pe_plan.proofs.chain.Records.take.Goals.{in-Some, in_default}
use Rattle.pe_plan.proofs.chain.Records.take.Goals as goal

pub returns-in_err-record : goal.returns-in_err-record
returns-in_err-record g c =
    let law : RecordLaw = record {
      exists = c.one_record_of_addresses.ensures.exists;
      one = c.one_record_of_addresses.ensures.one;
      cycle = c.one_record_of_addresses.ensures.cycle;
      no_memory = c.one_record_of_addresses.ensures.no_memory;
    } in
    absurd (not_refused law _ _ _ _ _ _ (kind_of c.in_err-record.field-0.0) c.loop.invariant.taken (omega (arith, c.loop.invariant.many, length-map c.loop.records.items unwind_view)) c.in_err-record.ensures)

pub loop-preserved : goal.loop-preserved
loop-preserved g c =
    let law : RecordLaw = record {
      exists = c.one_record_of_addresses.ensures.exists;
      one = c.one_record_of_addresses.ensures.one;
      cycle = c.one_record_of_addresses.ensures.cycle;
      no_memory = c.one_record_of_addresses.ensures.no_memory;
    } in
    let more = pushed (c.in_ok-record.record ∷ []) refl c.in_ok-push.was c.push.ensures.items in
    let to : IfSome c.in_ok-record.record.chained_info (λ h. h ≡ c.match-record.current) = elim c.match-record.branch [
      | in-Some w ↦ goes_on _ w.in-Some.next c.match-record.current w.in-Some.is w.current-is
      | in_default w ↦ goes_nowhere _ c.match-record.current w.in_default.is
    ] in
    record {
      taken = takes_next law _ _ _ _ _ _ c.in_ok-record.record _ c.match-record.current c.loop.invariant.taken (omega arith) c.in_ok-record.ensures to more;
      many = omega (arith, ap length more, length-append c.loop.records.items (c.in_ok-record.record ∷ []), c.loop.invariant.many);
    }
