use Rattle.std.proofs.Common.{arith, ◌-◌, get_or, ap, ◌∙◌, rules}
use Rattle.pe_core.specs.declared.range_index.RangeEntry.{RangeEntry}
use Rattle.pe_core.proofs.RangeCuts.{last_starts, none_starts}
use Rattle.pe_pdb.proofs.module_lookup.search_ranges.Goals as goal

pub returns-then-after-eq0-clause-number : goal.returns-then-after-eq0-clause-number
returns-then-after-eq0-clause-number c = search (rules, arith, none_starts)

pub returns-clause-number : goal.returns-clause-number
returns-clause-number c = λ up.
    let ps = c.args.entries.now.entries.now in
    let n = c.count_up_to-after.result in
    let cut = c.count_up_to-after.ensures.cut in
    ap (λ (p : RangeEntry). p.number) (c.get.ensures.value c.get.result ∙ ap (λ r. get_or r.now (n - 1) c.get.result) c.count_up_to-after.ensures.kept)
    ∙ last_starts ps n c.args.address c.get.result (omega arith) cut.within (λ k d h l. cut.before up k d h) (λ k d h l. cut.after up k d h l)
