use Rattle.std.proofs.Common.{◌≡◌, ℕ, ◌∷◌, Ok, Err, arith, rules, refl, ap, sym, ◌∙◌}
use Rattle.pe_pdb.specs.Frames.{row_before}
use Rattle.pe_pdb.specs.LineEntries.{block_lines, code_view, lines_of_code, rows_in}
use Rattle.pe_pdb.specs.Lines.{BlockView, block_view, blocks}
use Rattle.pe_pdb.specs.Refusals.{pdb_kind_of}
use Rattle.pe_pdb.specs.Scans.{Finds}
use Rattle.pe_pdb.proofs.LineEntries.{gathers_all, gathers_error, gathers_more, gathers_none}
use Rattle.pe_pdb.proofs.LineWalks.{blocks_more, blocks_none, blocks_refused}
use Rattle.pe_pdb.proofs.Scans.{finds_both, finds_none}
use Rattle.pe_pdb.proofs.line_scan.find_in_code.Goals as goal

pub returns-in_err-block : goal.returns-in_err-block
returns-in_err-block c =
    let b = c.args.code.now.content.now in
    let refused : lines_of_code (code_view c.args.code.now) ≡ Err (pdb_kind_of c.in_err-block.field-0.0) =
    gathers_error (λ (v : BlockView). Ok (block_lines (code_view c.args.code.now) v (rows_in v))) (blocks b 12) (blocks b c.loop-next.next) _ (λ ys. Finds (row_before c.args.rva) ys c.args.found c.loop-next.last) c.loop-next.invariant.gathers
    (blocks_refused b c.loop-next.next _ c.loop-next-test.true c.in_err-block.ensures.value) in
    search rules

pub loop-next-init : goal.loop-next-init
loop-next-init c = search (rules, arith, gathers_none, finds_none)

pub loop-next-preserved : goal.loop-next-preserved
loop-next-preserved c =
    let b = c.args.code.now.content.now in
    let v = block_view c.in_ok-block.block in
    let lines = block_lines (code_view c.args.code.now) v (rows_in v) in
    record {
      gathers = gathers_more (λ (v : BlockView). Ok (block_lines (code_view c.args.code.now) v (rows_in v))) (blocks b 12) (blocks b c.loop-next.next) (blocks b c.end-next.result) v lines
          (λ ys. Finds (row_before c.args.rva) ys c.args.found c.loop-next.last) (λ ys. Finds (row_before c.args.rva) ys c.args.found c.find_in_block-last.result) c.loop-next.invariant.gathers
          (blocks_more b c.loop-next.next v c.loop-next-test.true c.in_ok-block.ensures.value ∙ ap (λ (n : ℕ). Ok v ∷ blocks b n) (sym c.end-next.ensures)) refl
          (λ xs sofar. finds_both (row_before c.args.rva) xs lines c.args.found c.loop-next.last c.find_in_block-last.result sofar c.find_in_block-last.ensures);
      inside = omega (arith, c.in_ok-block.ensures.inside, c.end-next.ensures);
    }

pub returns : goal.returns
returns c = search (rules, arith, gathers_all, blocks_none)
