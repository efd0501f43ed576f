use Rattle.std.proofs.Common.{◌≡◌, map, length}
use Rattle.pe_plan.proofs.Cited.{links_by, unwind_view}
use Rattle.pe_plan.proofs.Walks.{TakenTo}
use Rattle.pe_plan.proofs.chain.Records.take.Given as goal

abbrev pub invariant-loop : goal.invariant-loop
invariant-loop g l = record {
  taken : TakenTo (links_by l.self.exceptions.now l.self.sections.now) l.self.exceptions.now.content l.fn.function l.count (map unwind_view l.records.items) l.current;
  many : length l.records.items ≡ l.counter;
}
