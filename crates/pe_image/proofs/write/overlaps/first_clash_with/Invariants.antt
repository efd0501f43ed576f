use Rattle.std.proofs.Common.{◌≡◌, drop}
use Rattle.pe_image.proofs.Cited.{not, list_all, clash}
use Rattle.pe_image.proofs.write.overlaps.first_clash_with.Given as goal

abbrev pub invariant-loop-i : goal.invariant-loop-i
invariant-loop-i l = list_all (λ t. not (clash l.section t)) (drop l.i l.after) ≡ list_all (λ t. not (clash l.section t)) l.after
