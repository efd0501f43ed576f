use Rattle.calls_pdb.proofs.PdbRanges.{range_is_stream}
use Rattle.pe_c.proofs.laws.dumps.stream_range_is_stream.Goals as goal

pub returns : goal.returns
returns c = range_is_stream
