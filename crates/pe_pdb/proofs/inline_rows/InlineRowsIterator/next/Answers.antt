use Rattle.std.proofs.Common.{◌≡◌, ◌≤◌, Some, None, true, arith, rules, sym, ◌∙◌}
use Rattle.pe_pdb.specs.Annotations.{annotations, starts_row}
use Rattle.pe_pdb.specs.InlineWalks.{started}
use Rattle.pe_pdb.proofs.InlineWalks.{not_started, rows_end, rows_on, rows_refused, rows_started, started_after, started_few, started_first, started_kept}
use Rattle.pe_pdb.proofs.inline_rows.InlineRowsIterator.next.Goals as goal

pub returns-in-Err-clause-steps : goal.returns-in-Err-clause-steps
returns-in-Err-clause-steps c = search (rules, arith, rows_end, rows_refused)

pub returns-in-Some-clause-steps : goal.returns-in-Some-clause-steps
returns-in-Some-clause-steps c =
    let s = c.loop-self.self in
    let a = c.in-Ok.parsed.0 in
    let starts : starts_row a ≡ true = sym c.starts_row.ensures ∙ c.if-starts_row.true in
    let had : s.last ≡ Some c.in-Some.before = sym c.replace.ensures.value ∙ c.in-Some.is in
    c.loop-self.invariant.same ∙ rows_started s.bytes.now s.next s.cursor s.last a c.in-Ok.parsed.1 c.loop-self-test.true c.in-Ok.ensures.value starts
    ∙ started_after s.cursor c.moved-self.result s.last c.replace.new.self a c.new-row.result c.in-Some.before c.closed.result (annotations s.bytes.now c.in-Ok.parsed.1)
    c.moved-self.ensures c.new-row.ensures c.replace.ensures.after had c.closed.ensures

pub loop-self-preserved-in_default : goal.loop-self-preserved-in_default
loop-self-preserved-in_default c =
    let s = c.loop-self.self in
    let a = c.in-Ok.parsed.0 in
    let starts : starts_row a ≡ true = sym c.starts_row.ensures ∙ c.if-starts_row.true in
    let had : s.last ≡ None = sym c.replace.ensures.value ∙ c.in_default.is in
    let few : started c.replace.new.self ≤ 1 = started_few c.replace.new.self in
    record {
      same = c.loop-self.invariant.same ∙ rows_started s.bytes.now s.next s.cursor s.last a c.in-Ok.parsed.1 c.loop-self-test.true c.in-Ok.ensures.value starts
          ∙ started_first s.cursor c.moved-self.result s.last c.replace.new.self a c.new-row.result (annotations s.bytes.now c.in-Ok.parsed.1)
          c.moved-self.ensures c.new-row.ensures c.replace.ensures.after had;
      bound = omega (arith, few, c.in-Ok.ensures.after, c.loop-self-test.true, c.loop-self.invariant.bound);
    }

pub loop-self-preserved : goal.loop-self-preserved
loop-self-preserved c = search (rules, arith, started_kept, rows_on, not_started)

pub returns-in_err-last-clause-steps : goal.returns-in_err-last-clause-steps
returns-in_err-last-clause-steps c = search (rules, arith, rows_end)

pub returns-clause-steps : goal.returns-clause-steps
returns-clause-steps c = search (rules, arith, rows_end)
