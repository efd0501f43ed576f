use Rattle.std.proofs.Common.{arith}
use Rattle.pe_unwind.proofs.LinkChains.{keeps_saved, moves_saved, comes_again, too_long}
use Rattle.pe_unwind.proofs.links.end_of.Goals.{then-links-power, else-links-power}
use Rattle.pe_unwind.proofs.links.end_of.Goals as goal

pub returns-then-current-saved : goal.returns-then-current-saved
returns-then-current-saved g c = comes_again _ _ _ _ _ _ c.loop-links.invariant c.in_ok-current.ensures c.if-current-saved.true

pub loop-links-preserved : goal.loop-links-preserved
loop-links-preserved g c = elim c.if-links-power.branch [
  | then-links-power w ↦ moves_saved _ _ _ _ _ _ _ c.loop-links.invariant c.in_ok-current.ensures w.saved-is
  | else-links-power w ↦ keeps_saved _ _ _ _ _ _ _ c.loop-links.invariant c.in_ok-current.ensures w.saved-is
]

pub returns : goal.returns
returns g c = too_long _ _ _ _ _ c.loop-links.invariant (omega arith)
