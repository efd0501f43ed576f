use Rattle.std.proofs.Common.{◌≡◌, ◌*◌, List, map, length, arith}
use Rattle.pe_version.proofs.Cited.{length-map, err_from_is_err_and, Translation, pair_of, translation_block}
use Rattle.pe_version.proofs.Measures.{many_refused, pairs_measured, pairs_refused, variables_return}
use Rattle.pe_version.proofs.measure.variables_len.Goals as goal

pub returns-then-count-gt-MOST : goal.returns-then-count-gt-MOST
returns-then-count-gt-MOST c = many_refused (map pair_of c.args.translations.now) (omega (arith, c.if-count-gt-MOST.true, length-map c.args.translations.now pair_of))

pub returns-in_err-inner : goal.returns-in_err-inner
returns-in_err-inner c =
    let ps : List Translation = map pair_of c.args.translations.now in
    let size : 4 * length c.args.translations.now ≡ 4 * length ps = omega (arith, length-map c.args.translations.now pair_of) in
    let p = err_from_is_err_and c.from_residual.result c.from_residual.ensures.1 in
    rw (p.1, p.2) (pairs_refused ps _ (c.in_err-inner.ensures (translation_block ps) (pairs_measured ps c.translation_key.result.now (4 * length c.args.translations.now) c.translation_key.ensures size)))

pub returns : goal.returns
returns c =
    let ps : List Translation = map pair_of c.args.translations.now in
    let size : 4 * length c.args.translations.now ≡ 4 * length ps = omega (arith, length-map c.args.translations.now pair_of) in
    variables_return ps c.variables_key.result.now c.in_ok-inner.inner c.sum_of.result c.whole_len-2.result c.variables_key.ensures
    (c.in_ok-inner.ensures (translation_block ps) (pairs_measured ps c.translation_key.result.now (4 * length c.args.translations.now) c.translation_key.ensures size)) c.sum_of.ensures c.whole_len-2.ensures
