use Rattle.pe_version.specs.VersionRecords.{table_of}
use Rattle.pe_version.proofs.Heads.{PutTo}
use Rattle.pe_version.proofs.Measures.{table_bytes_by}
use Rattle.pe_version.proofs.put.put_tables.Given as goal

-- the tables so far are written
abbrev pub invariant-loop-index : goal.invariant-loop-index
invariant-loop-index l = PutTo (table_bytes_by (table_of l.value.texts.now l.value.strings.now)) l.fn.out l.out l.at l.end l.index l.value.tables.now
