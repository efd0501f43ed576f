use Rattle.pe_version.specs.VersionRecords.{text_of}
use Rattle.pe_version.proofs.Measures.{MeasuredTo, bytes_by, tests_by}
use Rattle.pe_version.proofs.measure.texts_len.Given as goal

-- the strings so far are measured
abbrev pub invariant-loop-index : goal.invariant-loop-index
invariant-loop-index l = MeasuredTo (tests_by (text_of l.texts)) (bytes_by (text_of l.texts)) l.sum l.index l.records
