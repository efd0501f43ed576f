use Rattle.std.proofs.Common.{map, take}
use Rattle.pe_image.proofs.Cited.{entry_size, import_record_view, offset_in}
use Rattle.pe_image.proofs.SharedLists.{Reduced}
use Rattle.pe_image.proofs.shared_lists.without_shared_entries.Given as goal

-- the records so far, and what is kept of them
abbrev pub invariant-loop-record : goal.invariant-loop-record
invariant-loop-record g l =
    Reduced (offset_in l.image.map) (entry_size l.is_64) l.image.bytes.now (map import_record_view (take l.record-index l.import_data.import_data.items)) (map import_record_view l.records.items) l.counts.items
