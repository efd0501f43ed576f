use Rattle.peinfo.proofs.digits.+push_decimal.Given as goal

abbrev pub decreases-push_decimal : goal.decreases-push_decimal
decreases-push_decimal g l = l.n
