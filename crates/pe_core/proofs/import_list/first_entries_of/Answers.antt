use Rattle.std.proofs.Common.{◌≡◌, ◌-◌, length, map, ap, sym, ◌∙◌, rules}
use Rattle.std.specs.Prelude.{min}
use Rattle.std.proofs.lemmas.List.{length-map}
use Rattle.pe_core.specs.ImportSteps.{entry_view}
use Rattle.pe_core.proofs.FirstEntries.{read-more}
use Rattle.pe_core.proofs.import_list.first_entries_of.Goals as goal

pub loop-record-preserved : goal.loop-record-preserved
loop-record-preserved g c =
    let many : c.len.result ≡ length (map entry_view c.loop-record.entries.items) =
    let n : c.len.result ≡ length c.loop-record.entries.items = search rules in
    n ∙ sym (length-map c.loop-record.entries.items entry_view) in
    let count : c.min-count.result ≡ min c.entry_count.result (c.args.most - c.len.result) = search rules in
    read-more _ _ _ _ c.min-count.result _ _ _ c.loop-record.invariant c.loop-record-test.true
    (count ∙ ap (λ n. min c.entry_count.result (c.args.most - n)) many ∙ ap (λ n. min n (c.args.most - length (map entry_view c.loop-record.entries.items))) c.entry_count.ensures)
    c.in_ok-push_entries.ensures
