use Rattle.pe_unwind.proofs.Arm64Streams.{tiles_from_yields, some_tiling, one_tiling, joined, item_counts}
use Rattle.pe_unwind.proofs.laws.arm64.one_tiling_of_arm64_codes.Goals as goal

pub returns-clause-whole : goal.returns-clause-whole
returns-clause-whole _ = λ s xs d. tiles_from_yields s d.1.0 d.0 xs d.1.1 d.1.2

pub returns-clause-tiling : goal.returns-clause-tiling
returns-clause-tiling _ = one_tiling

pub returns-clause-joined : goal.returns-clause-joined
returns-clause-joined _ = joined

pub returns-clause-counts : goal.returns-clause-counts
returns-clause-counts _ = item_counts

pub returns-clause-exists : goal.returns-clause-exists
returns-clause-exists _ = some_tiling
