use Rattle.calls_pdb.proofs.PdbReadings.{line_is_read, symbol_is_read}
use Rattle.pe_c.proofs.laws.dumps.reading_is_lookup.Goals as goal

pub returns-clause-symbols : goal.returns-clause-symbols
returns-clause-symbols c = symbol_is_read

pub returns-clause-lines : goal.returns-clause-lines
returns-clause-lines c = line_is_read
