use Rattle.std.proofs.Common.{ℕ, ◌+◌, ◌-◌, ◌/◌, arith, rules}
use Rattle.pe_pdb.specs.Omap.{omap}
use Rattle.pe_pdb.proofs.Halves.{goes_down, goes_up, starts}
use Rattle.pe_pdb.proofs.OmapRows.{count_of_rows, row_in, rva_of_row}
use Rattle.pe_pdb.proofs.omap.count_up_to.Goals as goal

pub loop-size-init : goal.loop-size-init
loop-size-init c = search (rules, arith, starts, rva_of_row, count_of_rows)

pub loop-size-preserved-then-at-rva : goal.loop-size-preserved-then-at-rva
loop-size-preserved-then-at-rva c =
    let l = c.loop-size in
    let b = c.args.table.now in
    let half : ℕ = l.size / 2 in
    record {
      some = omega arith;
      fits = omega arith;
      cut = goes_up rva_of_row (omap b) c.args.rva l.low (l.low + l.size) (l.low + half) (l.low + half) (l.low + half + (l.size - half)) c.at.result l.invariant.cut (omega arith) (omega arith) (omega arith) (λ d. row_in b (l.low + half) c.at.result d (omega arith) c.at.ensures) c.if-at-rva.true;
    }

pub loop-size-preserved : goal.loop-size-preserved
loop-size-preserved c =
    let l = c.loop-size in
    let b = c.args.table.now in
    let half : ℕ = l.size / 2 in
    record {
      some = omega arith;
      fits = omega arith;
      cut = goes_down rva_of_row (omap b) c.args.rva l.low (l.low + l.size) (l.low + half) (l.low + (l.size - half)) c.at.result l.invariant.cut (omega arith) (omega arith) (omega arith) (λ d. row_in b (l.low + half) c.at.result d (omega arith) c.at.ensures) (omega (arith, c.if-at-rva.false));
    }

pub returns-then-at-rva-2 : goal.returns-then-at-rva-2
returns-then-at-rva-2 c = search (rules, arith, goes_up, rva_of_row, row_in)

pub returns-else-at-rva-2 : goal.returns-else-at-rva-2
returns-else-at-rva-2 c = search (rules, arith, goes_down, rva_of_row, row_in)

pub returns-then-size-eq0 : goal.returns-then-size-eq0
returns-then-size-eq0 c = starts rva_of_row (omap c.args.table.now) c.args.rva 0 (omega (arith, count_of_rows c.args.table.now, c.if-size-eq0.true))
