use Rattle.std.proofs.Common.{◌≡◌, ◌+◌, ◌-◌, ◌<◌, ◌∙◌, false, length, arith, rules}
use Rattle.pe_edit.proofs.Cited.{nat_lt, nat_tests}
use Rattle.pe_edit.proofs.Units.{first_test, second_ends, units_differ, units_equal}
use Rattle.pe_edit.proofs.leaf.units_before.Goals as goal
use Rattle.pe_edit.proofs.leaf.units_before.Goals.{then-loop-at-test+else-second-at-ge2, else-loop-at-test}

pub returns-then-own-other : goal.returns-then-own-other
returns-then-own-other c =
    units_differ c.args.first.now c.args.second.now c.loop-at.at c.read_u16-own.result c.read_u16-other.result _ (omega (arith, c.loop-at-test.true, c.loop-at.invariant.first)) (omega (arith, c.if-second-at-ge2.true, c.loop-at.invariant.second))
    c.read_u16-own.ensures c.read_u16-other.ensures (grind (arith, nat_tests, c.if-own-other.true)) c.loop-at.invariant.same

pub loop-at-preserved : goal.loop-at-preserved
loop-at-preserved c = search (rules, arith, units_equal, nat_tests)

pub returns-then-first-at-lt2 : goal.returns-then-first-at-lt2
returns-then-first-at-lt2 c =
    first_test c.args.first.now c.args.second.now c.loop-at.at _ (omega (arith, c.if-first-at-lt2.true, c.loop-at.invariant.first)) c.loop-at.invariant.second c.loop-at.invariant.same

pub returns-else-first-at-lt2 : goal.returns-else-first-at-lt2
returns-else-first-at-lt2 c =
    let short : length c.args.second.now < c.loop-at.at + 2 =
    elim c.loop-at-test.branch [ then-loop-at-test+else-second-at-ge2 w ↦ omega (arith, w.if-second-at-ge2, c.loop-at.invariant.second) | else-loop-at-test w ↦ absurd (omega (arith, w.loop-at-test, c.if-first-at-lt2.false)) ] in
    let test : nat_lt (length c.args.first.now - c.loop-at.at) 2 ≡ false = grind (arith, nat_tests, c.if-first-at-lt2.false) in
    test ∙ second_ends c.args.first.now c.args.second.now c.loop-at.at _ (omega (arith, c.if-first-at-lt2.false, c.loop-at.invariant.first)) short c.loop-at.invariant.same
