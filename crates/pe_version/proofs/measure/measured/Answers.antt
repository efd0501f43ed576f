use Rattle.pe_version.proofs.Cited.{err_from_is_err_and, value_of, Value, strings_block}
use Rattle.pe_version.proofs.Measures.{strings_measured, strings_refused, tables_refused, variables_refused, version_returns}
use Rattle.pe_version.proofs.measure.measured.Goals as goal

pub returns-in_err-tables : goal.returns-in_err-tables
returns-in_err-tables c =
    let p = err_from_is_err_and c.from_residual.result c.from_residual.ensures.1 in
    rw (p.1, p.2) (tables_refused (value_of c.args.value.now) _ c.in_err-tables.ensures)

pub returns-in_err-strings : goal.returns-in_err-strings
returns-in_err-strings c =
    let v : Value = value_of c.args.value.now in
    let p = err_from_is_err_and c.from_residual-in_err-strings.result c.from_residual-in_err-strings.ensures.1 in
    let m = strings_measured v.tables c.strings_key.result.now c.in_ok-tables.tables c.sum_of.result c.strings_key.ensures c.in_ok-tables.ensures c.sum_of.ensures in
    rw (p.1, p.2) (strings_refused v c.in_ok-tables.tables _ c.in_ok-tables.ensures (c.in_err-strings.ensures (strings_block v.tables) m))

pub returns-in_err-variables : goal.returns-in_err-variables
returns-in_err-variables c =
    let v : Value = value_of c.args.value.now in
    let p = err_from_is_err_and c.from_residual-in_err-variables.result c.from_residual-in_err-variables.ensures.1 in
    let m = strings_measured v.tables c.strings_key.result.now c.in_ok-tables.tables c.sum_of.result c.strings_key.ensures c.in_ok-tables.ensures c.sum_of.ensures in
    rw (p.1, p.2) (variables_refused v c.in_ok-tables.tables c.in_ok-strings.strings _ c.in_ok-tables.ensures (c.in_ok-strings.ensures (strings_block v.tables) m) c.in_err-variables.ensures)

pub returns : goal.returns
returns c =
    let v : Value = value_of c.args.value.now in
    let m = strings_measured v.tables c.strings_key.result.now c.in_ok-tables.tables c.sum_of.result c.strings_key.ensures c.in_ok-tables.ensures c.sum_of.ensures in
    version_returns v c.root_key.result.now c.in_ok-tables.tables c.in_ok-strings.strings c.in_ok-variables.variables c.sum_of-2.result c.whole_len-2.result c.root_key.ensures
    c.in_ok-tables.ensures (c.in_ok-strings.ensures (strings_block v.tables) m) c.in_ok-variables.ensures c.sum_of-2.ensures c.whole_len-2.ensures
