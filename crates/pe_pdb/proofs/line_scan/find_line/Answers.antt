use Rattle.std.proofs.Common.{◌≡◌, ℕ, ◌+◌, length, ◌∷◌, Option, Ok, Err, arith, rules, ap, sym, ◌∙◌}
use Rattle.std.proofs.lemmas.Grind.{div_ceil_times}
use Rattle.pe_pdb.specs.Frames.{line_with, row_before}
use Rattle.pe_pdb.specs.LineEntries.{lines_of_subsection, module_lines}
use Rattle.pe_pdb.specs.LineIndexes.{if_covers}
use Rattle.pe_pdb.specs.Lines.{subsection_view, subsections}
use Rattle.pe_pdb.specs.Refusals.{pdb_kind_of}
use Rattle.pe_pdb.specs.Scans.{found_in}
use Rattle.pe_pdb.specs.declared.line_entries.CodeLine.{CodeLine}
use Rattle.pe_pdb.proofs.LineEntries.{gathers_all, gathers_error, gathers_more, gathers_none, gathers_refused, lines_small}
use Rattle.pe_pdb.proofs.LineWalks.{subsections_more, subsections_none, subsections_refused}
use Rattle.pe_pdb.proofs.Scans.{no_row}
use Rattle.pe_pdb.proofs.line_scan.find_line.Goals as goal

pub returns-in_err-subsection : goal.returns-in_err-subsection
returns-in_err-subsection c =
    let b = c.args.bytes.now in
    let s = c.args.sections.now.bytes.now in
    let refused : module_lines s b ≡ Err (pdb_kind_of c.in_err-subsection.field-0.0) =
    lines_small s b (omega arith)
    ∙ gathers_error (lines_of_subsection s) (subsections b 0) (subsections b c.loop-next.next) _ (λ ys. c.loop-next.last ≡ row_before c.args.rva ys) c.loop-next.invariant.gathers
    (subsections_refused b c.loop-next.next _ c.loop-next-test.true c.in_err-subsection.ensures.value) in
    let all : found_in (λ xs. line_with xs c.args.rva) (module_lines s b) ≡ Err (pdb_kind_of c.in_err-subsection.field-0.0) = ap (found_in (λ xs. line_with xs c.args.rva)) refused in
    search rules

pub returns-in_err-last : goal.returns-in_err-last
returns-in_err-last c =
    let b = c.args.bytes.now in
    let s = c.args.sections.now.bytes.now in
    let v = subsection_view c.in_ok-subsection.subsection in
    let refused : module_lines s b ≡ Err (pdb_kind_of c.in_err-last.field-0.0) =
    lines_small s b (omega arith)
    ∙ gathers_refused (lines_of_subsection s) (subsections b 0) (subsections b c.loop-next.next) _ v _ (λ ys. c.loop-next.last ≡ row_before c.args.rva ys) c.loop-next.invariant.gathers
    (subsections_more b c.loop-next.next v c.loop-next-test.true c.in_ok-subsection.ensures.value) c.in_err-last.ensures in
    let all : found_in (λ xs. line_with xs c.args.rva) (module_lines s b) ≡ Err (pdb_kind_of c.in_err-last.field-0.0) = ap (found_in (λ xs. line_with xs c.args.rva)) refused in
    search rules

pub loop-next-init : goal.loop-next-init
loop-next-init c = search (rules, arith, gathers_none, no_row)

pub loop-next-preserved : goal.loop-next-preserved
loop-next-preserved c =
    let b = c.args.bytes.now in
    let s = c.args.sections.now.bytes.now in
    let v = subsection_view c.in_ok-subsection.subsection in
    let times = div_ceil_times (c.in_ok-subsection.subsection.offset + 8 + length c.in_ok-subsection.subsection.content.now) 4 (omega arith) in
    let w = c.in_ok-last.ensures in
    record {
      gathers = gathers_more (lines_of_subsection s) (subsections b 0) (subsections b c.loop-next.next) (subsections b c.end-next.result) v w.0
          (λ ys. c.loop-next.last ≡ row_before c.args.rva ys) (λ ys. c.in_ok-last.last ≡ row_before c.args.rva ys) c.loop-next.invariant.gathers
          (subsections_more b c.loop-next.next v c.loop-next-test.true c.in_ok-subsection.ensures.value ∙ ap (λ (n : ℕ). Ok v ∷ subsections b n) (sym c.end-next.ensures.value)) w.1 w.2;
      near = omega (arith, times.1, c.end-next.ensures.value, c.in_ok-subsection.ensures.inside);
    }

pub returns : goal.returns
returns c =
    let b = c.args.bytes.now in
    let s = c.args.sections.now.bytes.now in
    let so = c.loop-next.invariant.gathers in
    let all : module_lines s b ≡ Ok so.sofar =
    lines_small s b (omega arith) ∙ gathers_all (lines_of_subsection s) (subsections b 0) (subsections b c.loop-next.next) (λ ys. c.loop-next.last ≡ row_before c.args.rva ys) so (subsections_none b c.loop-next.next (omega arith)) in
    let line : line_with so.sofar c.args.rva ≡ if_covers c.args.rva c.loop-next.last = ap (if_covers c.args.rva) (sym so.holds) in
    ap (found_in (λ xs. line_with xs c.args.rva)) all ∙ ap (λ (o : Option CodeLine). Ok o) (line ∙ sym c.if_covers.ensures)
