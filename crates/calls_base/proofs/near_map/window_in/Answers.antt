use Rattle.std.proofs.Common.{rules}
use Rattle.calls_base.proofs.NearMaps.{as_loaded}
use Rattle.calls_base.proofs.near_map.window_in.Goals as goal

pub returns-then-not-options : goal.returns-then-not-options
returns-then-not-options c = as_loaded _ _ _ _ (search rules) c.ranges.rva.fits
