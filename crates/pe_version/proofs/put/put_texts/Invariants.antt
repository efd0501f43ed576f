use Rattle.pe_version.specs.VersionRecords.{text_of}
use Rattle.pe_version.proofs.Heads.{PutTo}
use Rattle.pe_version.proofs.Measures.{bytes_by}
use Rattle.pe_version.proofs.put.put_texts.Given as goal

-- the strings so far are written
abbrev pub invariant-loop-index : goal.invariant-loop-index
invariant-loop-index l = PutTo (bytes_by (text_of l.texts)) l.fn.out l.out l.at l.end l.index l.records
