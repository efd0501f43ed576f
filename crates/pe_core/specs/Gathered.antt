-- A list of results as one result, whatever their refusals are.
use Rattle.std.specs.Prelude.{List, [], ◌∷◌, ◌++◌, Option, Some, None, Result, Ok, Err}

-- these values and those of the rest, or the rest's refusal
abbrev pub with_rest : {X R : Type 0} → List X → Result (List X) R → Result (List X) R
with_rest xs (Ok ys) = Ok (xs ++ ys)
with_rest xs (Err e) = Err e

-- all the values, or the first refusal
abbrev pub all_or_refusal : {X R : Type 0} → List (Result X R) → Result (List X) R
all_or_refusal [] = Ok []
all_or_refusal (Ok x ∷ rest) = with_rest (x ∷ []) (all_or_refusal rest)
all_or_refusal (Err e ∷ rest) = Err e

-- the values before the first `None`, or the first refusal if it comes earlier
abbrev pub up_to_none : {X R : Type 0} → List (Result (Option X) R) → Result (List X) R
up_to_none [] = Ok []
up_to_none (Ok None ∷ rest) = Ok []
up_to_none (Ok (Some x) ∷ rest) = with_rest (x ∷ []) (up_to_none rest)
up_to_none (Err e ∷ rest) = Err e
