use Rattle.pe_minidump.proofs.Sums.{first_offset, next_offset}
use Rattle.pe_minidump.proofs.laws.offsets_are_sums.Goals as goal

pub returns : goal.returns
returns c = record { first = first_offset; next = next_offset }
