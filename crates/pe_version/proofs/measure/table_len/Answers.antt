use Rattle.std.proofs.Common.{ap, ◌∙◌}
use Rattle.pe_version.proofs.Cited.{err_from_is_err_and, table_of, key_of}
use Rattle.pe_version.proofs.Measures.{no_length, refused_by_capped, table_refused, table_returns}
use Rattle.pe_version.proofs.measure.table_len.Goals as goal

pub returns-in_err-children : goal.returns-in_err-children
returns-in_err-children c =
    let t = table_of c.args.texts.now c.args.strings.now c.args.table.now in
    let p = err_from_is_err_and c.from_residual.result c.from_residual.ensures.1 in
    rw (p.1, p.2) (no_length _ _ (table_refused t _ (refused_by_capped _ _ (rw c.strings.ensures at c.in_err-children.ensures))))

pub returns : goal.returns
returns c =
    let t = table_of c.args.texts.now c.args.strings.now c.args.table.now in
    table_returns t _ c.in_ok-children.children c.sum_of.result c.whole_len.result (c.key_of.ensures ∙ ap key_of c.pair.ensures) (rw c.strings.ensures at c.in_ok-children.ensures) c.sum_of.ensures c.whole_len.ensures
