-- The loops over base relocations.
use Rattle.std.proofs.Common.{◌≡◌, ◌&&◌, Bool, true, false, List, [], ◌∷◌, ap, sym, ◌∙◌}
use Rattle.std.specs.List.{list_all}

-- an item passes, so that all do if those after it do
pub one_beside : {X : Type 0} (p : X → Bool) (left more all : List X) (x : X) → list_all p left ≡ list_all p all → left ≡ x ∷ more → p x ≡ true → list_all p more ≡ list_all p all
one_beside p left more all x h is e = sym (ap (list_all p) is ∙ ap (λ (t : Bool). t && list_all p more) e) ∙ h

pub one_inside : {X : Type 0} (p : X → Bool) (left more all : List X) (x : X) → list_all p left ≡ list_all p all → left ≡ x ∷ more → p x ≡ false → list_all p all ≡ false
one_inside p left more all x h is e = sym h ∙ ap (list_all p) is ∙ ap (λ (t : Bool). t && list_all p more) e

pub all_beside : {X : Type 0} (p : X → Bool) (left all : List X) → list_all p left ≡ list_all p all → left ≡ [] → list_all p all ≡ true
all_beside p left all h is = sym h ∙ ap (list_all p) is
