use Rattle.pe_core.specs.Bytes.{bytes_of}
use Rattle.pe_version.proofs.Heads.{PutTo}
use Rattle.pe_version.proofs.put.put_numbers.Given as goal

-- the numbers so far are written
abbrev pub invariant-loop-index : goal.invariant-loop-index
invariant-loop-index l = PutTo (bytes_of 4) l.fn.out l.out l.at l.end l.index l.numbers
