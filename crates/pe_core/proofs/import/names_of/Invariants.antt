use Rattle.std.proofs.Common.{◌≡◌, ◌++◌, drop, map}
use Rattle.pe_core.specs.Imports.{import_record_view}
use Rattle.pe_core.proofs.import.names_of.Given as goal

-- the names so far, and those of the records that are left
abbrev pub invariant-loop-imported : goal.invariant-loop-imported
invariant-loop-imported g l = map (λ s. s.now) l.names.items ++ map (λ r. r.name) (map import_record_view (drop l.imported-index l.records)) ≡ map (λ r. r.name) (map import_record_view l.records)
