use Rattle.std.proofs.Common.{◌≡◌, ◌*◌, ◌<◌, ◌≤◌, ◌⊎◌, ap, sym, ◌∙◌, arith, rules, inl, inr}
use Rattle.pe_pdb.specs.LineEntries.{code_line, code_view}
use Rattle.pe_pdb.specs.Lines.{block_view, line_row}
use Rattle.pe_pdb.specs.Scans.{least_of}
use Rattle.pe_pdb.proofs.Scans.{best_of, row_left, row_taken, rows_left, rows_next, rows_none}
use Rattle.pe_pdb.proofs.line_scan.find_in_block.Goals as goal
use Rattle.pe_pdb.proofs.line_scan.find_in_block.Goals.{then-least-offset+then-offset-end, else-least-offset, else-least-offset-via-then-least-offset+else-offset-end, else-least-offset-via-else-least-offset}

pub returns-then-end-least : goal.returns-then-end-least
returns-then-end-least c = search (rules, arith, rows_left)

pub loop-index-init : goal.loop-index-init
loop-index-init c = search (rules, arith, rows_none)

pub loop-index-preserved : goal.loop-index-preserved
loop-index-preserved c =
    let code = code_view c.args.code.now in
    let block = block_view c.args.block.now in
    let i = c.loop-index.index in
    let old = best_of code block c.args.found c.loop-index.last in
    let row : c.from-offset.result ≡ (line_row block.rows (8 * i)).offset = search rules in
    elim c.if-least-offset.branch [
      | then-least-offset+then-offset-end w ↦
          let taken = row_taken code block i c.args.rva c.loop-index.least c.end_of-end.result old c.ranges.rva.fits c.end_of-end.ensures c.loop-index.invariant.from
          (omega (arith, row, w.if-least-offset.true)) (omega (arith, row, w.if-offset-end.true)) in
          let new : best_of code block c.args.found c.if-least-offset.last ≡ code_line code block i = ap (best_of code block c.args.found) w.last-is in
          record {
            finds = λ xs is. new ∙ rows_next code block i c.args.rva c.args.found old (code_line code block i) c.loop-index.invariant.finds taken.0 xs is;
            from = w.least-is ∙ row ∙ taken.1 ∙ ap (least_of c.args.code.now.rva) (sym new);
            listed = search rules;
          }
      | else-least-offset w ↦
          let new : best_of code block c.args.found c.if-least-offset.last ≡ old = ap (best_of code block c.args.found) w.last-is in
          let which : ((line_row block.rows (8 * i)).offset < c.loop-index.least) ⊎ (c.end_of-end.result ≤ (line_row block.rows (8 * i)).offset) = elim w.else-least-offset.branch [
            | else-least-offset-via-then-least-offset+else-offset-end v ↦ inr (omega (arith, row, v.if-offset-end.false))
            | else-least-offset-via-else-least-offset v ↦ inl (omega (arith, row, v.if-least-offset.false))
          ] in
          record {
            finds = λ xs is. new ∙ rows_next code block i c.args.rva c.args.found old old c.loop-index.invariant.finds (row_left code block i c.args.rva c.loop-index.least c.end_of-end.result old c.end_of-end.ensures c.loop-index.invariant.from which) xs is;
            from = w.least-is ∙ c.loop-index.invariant.from ∙ ap (least_of c.args.code.now.rva) (sym new);
            listed = search rules;
          }
    ]
