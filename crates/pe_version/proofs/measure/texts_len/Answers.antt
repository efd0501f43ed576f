use Rattle.std.proofs.Common.{List, ℕ, Result, ap, ◌∙◌, rules, arith}
use Rattle.pe_version.proofs.Cited.{err_from_is_err_and, capped_length_of, text_of, VersionRefusal}
use Rattle.pe_version.proofs.Measures.{all_measured, bytes_by, one_measured, one_unmeasured, tests_by, texts_by}
use Rattle.pe_version.proofs.measure.texts_len.Goals as goal

pub returns-in_err-size : goal.returns-in_err-size
returns-in_err-size c =
    let p = err_from_is_err_and c.from_residual.result c.from_residual.ensures.1 in
    rw (p.1, p.2)
    (ap (λ (x : Result (List ℕ) VersionRefusal). capped_length_of x) (texts_by (text_of c.args.texts.now) c.args.records.now)
    ∙ one_unmeasured (tests_by (text_of c.args.texts.now)) (bytes_by (text_of c.args.texts.now)) c.loop-index.sum c.loop-index.index c.args.records.now _ _ c.loop-index-test.true c.in_err-size.ensures c.loop-index.invariant)

pub loop-index-preserved : goal.loop-index-preserved
loop-index-preserved c =
    one_measured (tests_by (text_of c.args.texts.now)) (bytes_by (text_of c.args.texts.now)) c.loop-index.sum c.in_ok-size.size c.sum_of-sum.result c.loop-index.index c.args.records.now _ c.loop-index-test.true c.in_ok-size.ensures c.sum_of-sum.ensures c.loop-index.invariant

pub returns : goal.returns
returns c = search (rules, arith, texts_by, all_measured, tests_by, bytes_by)
