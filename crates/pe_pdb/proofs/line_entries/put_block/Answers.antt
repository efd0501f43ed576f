use Rattle.std.proofs.Common.{Option, arith, subst, ◌∙◌, rules}
use Rattle.std.specs.Option.{option_to_list}
use Rattle.pe_pdb.specs.LineEntries.{Writes, code_view}
use Rattle.pe_pdb.specs.Lines.{block_view}
use Rattle.pe_pdb.specs.declared.line_entries.CodeLine.{CodeLine}
use Rattle.pe_pdb.proofs.LineEntries.{rows_none, rows_written}
use Rattle.pe_pdb.proofs.line_entries.put_block.Goals as goal

pub loop-index-init : goal.loop-index-init
loop-index-init c = search (rules, arith, rows_none)

pub loop-index-preserved : goal.loop-index-preserved
loop-index-preserved c =
    let one = subst (λ (o : Option CodeLine). Writes (option_to_list o) c.loop-index.after c.loop-index.room c.put_line-after.result c.put_line-after.new.room) c.code_line.ensures c.put_line-after.ensures.writes in
    record {
      writes = rows_written (code_view c.args.code.now) (block_view c.args.block.now) c.loop-index.index c.args.count c.loop-index.after c.put_line-after.result c.args.room.now c.loop-index.room c.put_line-after.new.room c.loop-index.invariant.writes one;
      few = omega (arith, c.put_line-after.ensures.few, c.loop-index.invariant.few);
      same = c.put_line-after.ensures.len ∙ c.loop-index.invariant.same;
    }
