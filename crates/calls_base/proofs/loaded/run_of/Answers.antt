use Rattle.std.proofs.Common.{refl, rules, subst}
use Rattle.calls_base.proofs.Cited.{section_map, ParseOptions, IsRun}
use Rattle.calls_base.proofs.ViewRuns.{by_index, without_index}
use Rattle.calls_base.proofs.loaded.run_of.Goals as goal

pub returns : goal.returns
returns c =
    by_index c.args.view.now.image.now c.args.view.now.sections.now c.args.view.now.index.now c.args.rva c.started_until-started.result.count c.started_until-started.result.end c.number_of_last-number.result c.run_in-run.result _ (search rules)
    c.started_until-started.ensures c.number_of_last-number.ensures (search rules) (search rules) refl

pub returns-then-is_empty : goal.returns-then-is_empty
returns-then-is_empty c =
    let image = c.args.view.now.image.now in
    let by_options = subst (λ (o : ParseOptions). IsRun (section_map o c.args.view.now.sections.now image.file_alignment) c.args.rva c.run_in.result) c.options-options.ensures c.run_in.ensures in
    without_index image c.args.view.now.sections.now c.args.view.now.index.now c.args.rva c.run_in.result (search rules) by_options
