-- Sums of words, one more at a time.
use Rattle.std.proofs.Common.{◌≡◌, ℕ, suc, [], ◌∷◌}
use Rattle.pe_sign.proofs.Cited.{fold, each}
use Rattle.std.proofs.lemmas.List.Sums.{fold-append}

pub fold_each : {X B : Type 0} (f : B → X → B) (a : B) (g : ℕ → X) (n : ℕ) → fold f a (each g (suc n)) ≡ f (fold f a (each g n)) (g n)
unfolding each
fold_each f a g n = fold-append f a (each g n) (g n ∷ [])
