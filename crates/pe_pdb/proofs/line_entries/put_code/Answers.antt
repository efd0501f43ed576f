use Rattle.std.proofs.Common.{◌≡◌, ℕ, ◌∷◌, Ok, Err, arith, rules, refl, ap, sym, ◌∙◌}
use Rattle.pe_pdb.specs.LineEntries.{Writes, block_lines, code_view, lines_of_code, rows_in}
use Rattle.pe_pdb.specs.Lines.{BlockView, block_view, blocks}
use Rattle.pe_pdb.specs.Refusals.{pdb_kind_of}
use Rattle.pe_pdb.proofs.LineEntries.{gathers_all, gathers_error, gathers_more, writes_both}
use Rattle.pe_pdb.proofs.LineWalks.{blocks_more, blocks_none, blocks_refused}
use Rattle.pe_pdb.proofs.line_entries.put_code.Goals as goal

pub returns-in_err-block-clause-writes : goal.returns-in_err-block-clause-writes
returns-in_err-block-clause-writes c =
    let b = c.args.code.now.content.now in
    let refused : lines_of_code (code_view c.args.code.now) ≡ Err (pdb_kind_of c.in_err-block.field-0.0) =
    gathers_error (λ (v : BlockView). Ok (block_lines (code_view c.args.code.now) v (rows_in v))) (blocks b 12) (blocks b c.loop-next.next) _ (λ ys. Writes ys c.args.count c.args.room.now c.loop-next.after c.loop-next.room) c.loop-next.invariant.gathers
    (blocks_refused b c.loop-next.next _ c.loop-next-test.true c.in_err-block.ensures.value) in
    search rules

pub loop-next-preserved : goal.loop-next-preserved
loop-next-preserved c =
    let b = c.args.code.now.content.now in
    let v = block_view c.in_ok-block.block in
    let lines = block_lines (code_view c.args.code.now) v (rows_in v) in
    record {
      gathers = gathers_more (λ (v : BlockView). Ok (block_lines (code_view c.args.code.now) v (rows_in v))) (blocks b 12) (blocks b c.loop-next.next) (blocks b c.end-next.result) v lines
          (λ ys. Writes ys c.args.count c.args.room.now c.loop-next.after c.loop-next.room) (λ ys. Writes ys c.args.count c.args.room.now c.put_block-after.result c.put_block-after.new.room) c.loop-next.invariant.gathers
          (blocks_more b c.loop-next.next v c.loop-next-test.true c.in_ok-block.ensures.value ∙ ap (λ (n : ℕ). Ok v ∷ blocks b n) (sym c.end-next.ensures)) refl
          (λ xs sofar. writes_both xs lines c.args.count c.loop-next.after c.put_block-after.result c.args.room.now c.loop-next.room c.put_block-after.new.room sofar c.put_block-after.ensures.writes);
      few = omega (arith, c.in_ok-block.ensures.start, c.in_ok-block.ensures.room, c.end-next.ensures, c.put_block-after.ensures.few, c.loop-next.invariant.few);
      inside = omega (arith, c.in_ok-block.ensures.inside, c.end-next.ensures);
      same = c.put_block-after.ensures.len ∙ c.loop-next.invariant.same;
    }

pub returns-clause-writes : goal.returns-clause-writes
returns-clause-writes c = search (rules, arith, gathers_all, blocks_none)
