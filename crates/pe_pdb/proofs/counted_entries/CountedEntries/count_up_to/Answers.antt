use Rattle.std.proofs.Common.{ℕ, ◌+◌, ◌-◌, ◌/◌, ◌≤◌, get_or, ap, ◌∙◌, arith, rules}
use Rattle.pe_pdb.proofs.Halves.{digits-halved, digits-le, goes_down, goes_up, one_more-le, starts}
use Rattle.pe_pdb.proofs.counted_entries.CountedEntries.count_up_to.Goals as goal

pub loop-size-init : goal.loop-size-init
loop-size-init g c = search (rules, arith, starts, digits-le)

pub loop-size-preserved-then-start-address : goal.loop-size-preserved-then-start-address
loop-size-preserved-then-start-address g c =
    let l = c.loop-size in
    let xs = c.args.self.now.entries.now in
    let half : ℕ = l.size / 2 in
    let kept = l.invariant.kept in
    let count : c.get.new.self.reads ≤ l.self.reads + 1 = omega (arith, c.get.ensures.counts, one_more-le l.self.reads) in
    record {
      kept = c.get.ensures.kept ∙ kept;
      some = omega arith;
      cut = goes_up g.T.StartsAt.start_of xs c.args.address l.low (l.low + l.size) (l.low + half) (l.low + half) (l.low + half + (l.size - half)) c.get.result l.invariant.cut (omega arith) (omega arith) (omega arith) (λ d. c.get.ensures.value d ∙ ap (λ r. get_or r.now (l.low + half) d) kept) (omega (arith, c.start.ensures, c.if-start-address.true));
      cost = omega (arith, count, l.invariant.cost, digits-halved (l.size - 1) (l.size - half - 1) (omega arith) (omega arith));
    }

pub loop-size-preserved : goal.loop-size-preserved
loop-size-preserved g c =
    let l = c.loop-size in
    let xs = c.args.self.now.entries.now in
    let half : ℕ = l.size / 2 in
    let kept = l.invariant.kept in
    let count : c.get.new.self.reads ≤ l.self.reads + 1 = omega (arith, c.get.ensures.counts, one_more-le l.self.reads) in
    record {
      kept = c.get.ensures.kept ∙ kept;
      some = omega arith;
      cut = goes_down g.T.StartsAt.start_of xs c.args.address l.low (l.low + l.size) (l.low + half) (l.low + (l.size - half)) c.get.result l.invariant.cut (omega arith) (omega arith) (omega arith) (λ d. c.get.ensures.value d ∙ ap (λ r. get_or r.now (l.low + half) d) kept) (omega (arith, c.start.ensures, c.if-start-address.false));
      cost = omega (arith, count, l.invariant.cost, digits-halved (l.size - 1) (l.size - half - 1) (omega arith) (omega arith));
    }

pub returns-then-start-address-2-clause-cut : goal.returns-then-start-address-2-clause-cut
returns-then-start-address-2-clause-cut g c = search (rules, arith, goes_up)

pub returns-else-start-address-2-clause-cut : goal.returns-else-start-address-2-clause-cut
returns-else-start-address-2-clause-cut g c = search (rules, arith, goes_down)
