use Rattle.pe_core.proofs.NamesRead.{same_numbers}
use Rattle.pe_core.proofs.library_names.keep_once.Goals as goal

pub returns : goal.returns
returns g c = same_numbers _ _ _ c.sort_unstable.ensures.permutation c.dedup.ensures.filtered
