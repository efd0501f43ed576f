use Rattle.pe_version.specs.VersionRecords.{table_of}
use Rattle.pe_version.proofs.Measures.{MeasuredTo, table_bytes_by, table_tests_by}
use Rattle.pe_version.proofs.measure.tables_len.Given as goal

-- the tables so far are measured
abbrev pub invariant-loop-index : goal.invariant-loop-index
invariant-loop-index l = MeasuredTo (table_tests_by (table_of l.texts l.strings)) (table_bytes_by (table_of l.texts l.strings)) l.sum l.index l.tables
