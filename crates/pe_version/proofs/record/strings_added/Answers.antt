use Rattle.std.proofs.Common.{◌≡◌, ℕ, ◌+◌, Bool, true, false, Option, Some, None, ap, sym, ◌∙◌, rules, arith}
use Rattle.pe_version.proofs.Cited.{if◌then◌else◌, nat_le, total, all_within, one_added, one_too_many, sum_is, least_of_string}
use Rattle.pe_edit.specs.RecordRefusals.{sum_within}
use Rattle.pe_version.proofs.record.strings_added.Goals as goal

-- A sum of the least bytes of blocks, by whether it is within a bound.
none_is : (most sum more : ℕ) → nat_le (sum + more) most ≡ false → ◌≡◌ {A = Option ℕ} None (sum_within most sum more)
none_is most sum more e = ap (λ (t : Bool). if t then Some (sum + more) else None) (sym e)

some_is : (most sum more end : ℕ) → end ≡ sum + more → nat_le (sum + more) most ≡ true → Some end ≡ sum_within most sum more
some_is most sum more end is e = ap (λ (n : ℕ). Some n) is ∙ ap (λ (t : Bool). if t then Some (sum + more) else None) (sym e)

pub returns-in-None : goal.returns-in-None
returns-in-None c =
    none_is 65535 c.args.sum (total least_of_string c.args.strings.now)
    (one_too_many least_of_string 65535 c.args.strings.now c.args.sum c.loop-index.end c.loop-index.index _ c.loop-index-test.true c.in-None.ensures c.loop-index.invariant)

pub loop-index-preserved : goal.loop-index-preserved
loop-index-preserved c = one_added least_of_string 65535 c.args.strings.now c.args.sum c.loop-index.end c.in-Some.more c.loop-index.index _ c.loop-index-test.true c.in-Some.ensures c.loop-index.invariant

pub returns : goal.returns
returns c = search (rules, arith, some_is, sum_is, all_within)
