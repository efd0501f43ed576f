use Rattle.std.proofs.Common.{◌≡◌, ◌++◌, drop, map}
use Rattle.pe_core.specs.Imports.{import_record_view}
use Rattle.pe_core.specs.SectionIndex.{offset_or_end}
use Rattle.pe_core.specs.SectionMap.{offset_in}
use Rattle.pe_core.proofs.library_names.name_offsets.Given as goal

-- the offsets so far, and those of the records that are left
abbrev pub invariant-loop-record : goal.invariant-loop-record
invariant-loop-record g l = l.offsets.items ++ map (λ r. offset_or_end (offset_in l.sections r.import_directory_entry.name_rva)) (map import_record_view (drop l.record-index l.records))
    ≡ map (λ r. offset_or_end (offset_in l.sections r.import_directory_entry.name_rva)) (map import_record_view l.records)
