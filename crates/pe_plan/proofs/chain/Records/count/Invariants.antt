use Rattle.pe_unwind.specs.Links.{links_by}
use Rattle.pe_plan.proofs.Walks.{CountedTo}
use Rattle.pe_plan.proofs.chain.Records.count.Given as goal

abbrev pub invariant-loop-chained : goal.invariant-loop-chained
invariant-loop-chained l =
    CountedTo (links_by l.self.exceptions.now l.self.sections.now) l.self.exceptions.now.content l.fn.function l.chained l.current l.saved
