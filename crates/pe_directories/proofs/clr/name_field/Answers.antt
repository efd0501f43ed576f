use Rattle.std.proofs.Common.{refl, ◌≡◌, ℕ, ◌-◌, min, List, length, take, drop, arith}
use Rattle.std.proofs.lemmas.Bool.{cases_lt}
use Rattle.pe_directories.proofs.Cited.{take_all, take_rest, name_field}
use Rattle.pe_directories.proofs.clr.name_field.Goals as goal

shorter : (b r : List ℕ) (k n m : ℕ) → r ≡ take (length b - k) (drop k b) → m ≡ min (length r) n → take m r ≡ take n (drop k b)
shorter b r k n m e h = grind (arith, take_rest, cases_lt, take_all)

pub returns : goal.returns
unfolding name_field
returns c = shorter c.args.bytes.now _ 8 32 c.min.result refl c.min.ensures
