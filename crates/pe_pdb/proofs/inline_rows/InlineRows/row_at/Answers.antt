use Rattle.std.proofs.Common.{◌≡◌, ℕ, [], ◌∷◌, Err, true, refl, arith, rules, ap, sym, ◌∙◌}
use Rattle.pe_pdb.specs.Annotations.{annotations, last_with, row_at, starts_row}
use Rattle.pe_pdb.specs.Refusals.{pdb_kind_of}
use Rattle.pe_pdb.proofs.InlineWalks.{last_end, last_ended, last_refused, not_started, row_closed, rows_end, rows_on, rows_refused, rows_started}
use Rattle.pe_pdb.proofs.inline_rows.InlineRows.row_at.Goals as goal

pub returns-in_err-annotation : goal.returns-in_err-annotation
returns-in_err-annotation c =
    let l = c.loop-next in
    let x : ℕ = c.args.offset in
    let b = c.args.annotations.now in
    let kind = pdb_kind_of c.in_err-annotation.field-0.0 in
    let refused : row_at b x ≡ Err kind =
    l.invariant ∙ ap (last_with x l.found) (rows_refused b l.next l.cursor l.last kind c.loop-next-test.true c.in_err-annotation.ensures.value) ∙ last_refused x l.found (Err kind ∷ []) [] kind refl in
    search rules

pub loop-next-preserved-then-starts_row : goal.loop-next-preserved-then-starts_row
loop-next-preserved-then-starts_row c =
    let l = c.loop-next in
    let x : ℕ = c.args.offset in
    let b = c.args.annotations.now in
    let a = c.in_ok-annotation.annotation in
    let q = c.in_ok-annotation.end in
    let starts : starts_row a ≡ true = sym c.starts_row.ensures ∙ c.if-starts_row.true in
    l.invariant ∙ ap (last_with x l.found) (rows_started b l.next l.cursor l.last a q c.loop-next-test.true c.in_ok-annotation.ensures.value starts)
    ∙ row_closed x l.found c.found_in-found.result l.cursor c.moved-cursor.result l.last a c.new.result (annotations b q) c.moved-cursor.ensures c.new.ensures c.found_in-found.ensures

pub loop-next-preserved : goal.loop-next-preserved
loop-next-preserved c = search (rules, arith, rows_on, not_started)

pub returns : goal.returns
returns c = search (rules, arith, rows_end, last_ended, last_end)
