-- A room to which a function of each element of a list is written in turn.
use Rattle.std.proofs.Common.{◌≡◌, ℕ, ◌+◌, ◌<◌, List, [], ◌∷◌, drop, get_or, length, map, set, take, arith}
use Rattle.std.proofs.lemmas.List.{drop-drop, drop-set-lt, map-append, take_more, take_more_set}

pub more_mapped : {X Y : Type 0} (f : X → Y) (xs : List X) (room : List Y) (i : ℕ) (d : X) (y : Y) → take i room ≡ map f (take i xs) → i < length room → i < length xs → y ≡ f (get_or xs i d) → take (i + 1) (set room i y) ≡ map f (take (i + 1) xs)
more_mapped f xs room i d y found within inside is =
    grind (arith, take_more_set room i y within, found, is, take_more xs i d inside, map-append f (take i xs) (get_or xs i d ∷ []))

pub others_left : {X : Type 0} (old now : List X) (i : ℕ) (y : X) → drop i now ≡ drop i old → drop (i + 1) (set now i y) ≡ drop (i + 1) old
others_left old now i y others = cc (drop-set-lt (i + 1) now i y (omega arith), drop-drop 1 i now, others, drop-drop 1 i old)
