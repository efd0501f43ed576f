use Rattle.std.proofs.Common.{rules, refl, ◌∷◌, []}
use Rattle.pe_image.proofs.Cited.{with_items_is, places, entry_size, offset_in}
use Rattle.std.proofs.lemmas.Slice.{pushed}
use Rattle.pe_image.proofs.SharedLists.{reduced-more, stands_there}
use Rattle.pe_image.proofs.shared_lists.without_shared_entries.Goals as goal

pub entries_left-lookups-requires-clause-stands : goal.entries_left-lookups-requires-clause-stands
entries_left-lookups-requires-clause-stands g c = stands_there (offset_in c.args.image.now.map) (entry_size c.args.is_64) c.args.image.now.bytes.now _ _ _ _ c.deref-record-items.ensures.value c.requires c.loop-record-test.true

pub loop-record-preserved : goal.loop-record-preserved
loop-record-preserved g c =
    reduced-more (offset_in c.args.image.now.map) c.args.is_64 c.args.image.now.bytes.now _ _ c.loop-record.records.items _ _ _ c.loop-record.counts.items _ _ _ c.entries_left-lookups.result
    c.deref-record-items.ensures.value c.requires c.loop-record-test.true c.loop-record.invariant c.deref_mut.ensures.value
    c.entries_left-lookups.ensures.entries c.entries_left-lookups.ensures.counts
    (with_items_is c.loop-record.counts c.entries_left-lookups.new.counts (search (rules, places)))
    (pushed (_ ∷ []) refl c.in_ok-push.was c.push.ensures.items)
