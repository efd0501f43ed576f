use Rattle.std.proofs.Common.{arith}
use Rattle.std.proofs.lemmas.Grind.{common_steps}
use Rattle.peinfo.proofs.DecimalText.{decimal-two, decimal-more}
use Rattle.peinfo.proofs.digits.+push_decimal.Goals as goal
use Rattle.peinfo.proofs.digits.+push_decimal.Goals.{then-n-ge100+in_ok-push_decimal, else-n-ge100}

pub returns : goal.returns
returns g t c = elim c.if-n-ge100.branch [
  | then-n-ge100+in_ok-push_decimal w ↦ grind (arith, common_steps, decimal-more, c.in_ok-extend_from_slice.ensures.items, w.in_ok-push_decimal.ensures, w.text-is)
  | else-n-ge100 w ↦ grind (arith, common_steps, decimal-two, c.in_ok-extend_from_slice.ensures.items, w.text-is)
]
