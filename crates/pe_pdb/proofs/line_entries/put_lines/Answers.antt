use Rattle.std.proofs.Common.{◌≡◌, ℕ, ◌+◌, length, [], ◌∷◌, Ok, Err, arith, rules, ap, sym, ◌∙◌}
use Rattle.std.proofs.lemmas.Grind.{div_ceil_times}
use Rattle.pe_pdb.specs.LineEntries.{Writes, lines_of_subsection, module_lines}
use Rattle.pe_pdb.specs.Lines.{subsection_view, subsections}
use Rattle.pe_pdb.specs.Refusals.{pdb_kind_of}
use Rattle.pe_pdb.proofs.LineEntries.{gathers_all, gathers_error, gathers_more, gathers_refused, lines_small, no_entries, writes_both}
use Rattle.pe_pdb.proofs.LineWalks.{subsections_more, subsections_none, subsections_refused}
use Rattle.pe_pdb.proofs.line_entries.put_lines.Goals as goal

pub returns-in_err-subsection-clause-puts : goal.returns-in_err-subsection-clause-puts
returns-in_err-subsection-clause-puts c =
    let b = c.args.bytes.now in
    let s = c.args.sections.now.bytes.now in
    let refused : module_lines s b ≡ Err (pdb_kind_of c.in_err-subsection.field-0.0) =
    lines_small s b (omega arith)
    ∙ gathers_error (lines_of_subsection s) (subsections b 0) (subsections b c.loop-next.next) _ (λ ys. Writes ys 0 c.args.room.now c.loop-next.count c.loop-next.room) c.loop-next.invariant.gathers
    (subsections_refused b c.loop-next.next _ c.loop-next-test.true c.in_err-subsection.ensures.value) in
    search rules

pub returns-in_err-count-clause-puts : goal.returns-in_err-count-clause-puts
returns-in_err-count-clause-puts c =
    let b = c.args.bytes.now in
    let s = c.args.sections.now.bytes.now in
    let v = subsection_view c.in_ok-subsection.subsection in
    let refused : module_lines s b ≡ Err (pdb_kind_of c.in_err-count.field-0.0) =
    lines_small s b (omega arith)
    ∙ gathers_refused (lines_of_subsection s) (subsections b 0) (subsections b c.loop-next.next) _ v _ (λ ys. Writes ys 0 c.args.room.now c.loop-next.count c.loop-next.room) c.loop-next.invariant.gathers
    (subsections_more b c.loop-next.next v c.loop-next-test.true c.in_ok-subsection.ensures.value) c.in_err-count.ensures.writes in
    search rules

pub loop-next-preserved : goal.loop-next-preserved
loop-next-preserved c =
    let b = c.args.bytes.now in
    let s = c.args.sections.now.bytes.now in
    let v = subsection_view c.in_ok-subsection.subsection in
    let times = div_ceil_times (v.offset + 8 + length v.content) 4 (omega arith) in
    let w = c.in_ok-count.ensures.writes in
    record {
      gathers = gathers_more (lines_of_subsection s) (subsections b 0) (subsections b c.loop-next.next) (subsections b c.end-next.result) v w.0
          (λ ys. Writes ys 0 c.args.room.now c.loop-next.count c.loop-next.room) (λ ys. Writes ys 0 c.args.room.now c.in_ok-count.count c.put_subsection.new.room) c.loop-next.invariant.gathers
          (subsections_more b c.loop-next.next v c.loop-next-test.true c.in_ok-subsection.ensures.value ∙ ap (λ (n : ℕ). Ok v ∷ subsections b n) (sym c.end-next.ensures.value)) w.1
          (λ xs sofar. writes_both xs w.0 0 c.loop-next.count c.in_ok-count.count c.args.room.now c.loop-next.room _ sofar w.2);
      few = omega (arith, c.in_ok-subsection.ensures.start, times.0, c.end-next.ensures.value, c.in_ok-count.ensures.few, c.loop-next.invariant.few);
      near = omega (arith, times.1, c.end-next.ensures.value, c.in_ok-subsection.ensures.inside);
      same = c.in_ok-count.ensures.len ∙ c.loop-next.invariant.same;
    }

pub returns-clause-puts : goal.returns-clause-puts
returns-clause-puts c =
    let b = c.args.bytes.now in
    let s = c.args.sections.now.bytes.now in
    let so = c.loop-next.invariant.gathers in (
      so.sofar,
      lines_small s b (omega arith) ∙ gathers_all (lines_of_subsection s) (subsections b 0) (subsections b c.loop-next.next) (λ ys. Writes ys 0 c.args.room.now c.loop-next.count c.loop-next.room) so (subsections_none b c.loop-next.next (omega arith)),
      so.holds [] (no_entries c.args.room.now),
    )
