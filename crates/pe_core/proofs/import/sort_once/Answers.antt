use Rattle.std.proofs.Common.{refl}
use Rattle.pe_core.proofs.Libraries.{libraries_are}
use Rattle.pe_core.proofs.import.sort_once.Goals as goal

pub returns : goal.returns
returns g c = libraries_are _ _ _ _ refl c.sort_unstable.ensures.permutation c.sort_unstable.ensures.sorted c.dedup.ensures.filtered
