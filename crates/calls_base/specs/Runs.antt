-- Whole runs of any walk, by the relation between a walk, the result of a step, and the walk after it.
use Rattle.std.specs.Prelude.{◌≡◌, List, [], ◌∷◌, ◌++◌, map, Option, Some, None, Result, Ok, Err}
use Rattle.std.specs.List.{AllZip}
use Rattle.pe_core.specs.Refusals.{Refusal}

-- a walk that is over: a step returns nothing, and the walk stays as it is
abbrev pub IsOver : {W X R : Type 0} → (W → Result (Option X) R → W → Type 0) → W → Type 0
IsOver {W} {X} {R} Steps w = (answer : Result (Option X) R) (next : W) → Steps w answer next → (answer ≡ Ok None) × (next ≡ w)

-- a walk returns these items, one a step, and then nothing: it is over after them, and after a refusal, which is the
-- last
abbrev pub ReturnsItems : {W X R : Type 0} → (W → Result (Option X) R → W → Type 0) → W → List (Result X R) → Type 0
ReturnsItems {W} {X} {R} Steps w [] = (answer : Result (Option X) R) (next : W) → Steps w answer next → (answer ≡ Ok None) × IsOver Steps next
ReturnsItems {W} {X} {R} Steps w (Ok x ∷ items) = (answer : Result (Option X) R) (next : W) → Steps w answer next → (answer ≡ Ok (Some x)) × ReturnsItems Steps next items
ReturnsItems {W} {X} {R} Steps w (Err refusal ∷ items) =
    (items ≡ []) × ((answer : Result (Option X) R) (next : W) → Steps w answer next → (answer ≡ Err refusal) × IsOver Steps next)

-- a walk returns what reports the values of a list, one a step; where the list is refused, what reports some values, and then
-- the refusal
abbrev pub ReturnsReported : {W X Y : Type 0} → (W → Result (Option X) Refusal → W → Type 0) → (X → Y → Type 0) → W → Result (List Y) Refusal → Type 0
ReturnsReported {X = X} Steps Reports walk (Ok ys) = (reported : List X) × ReturnsItems Steps walk (map (λ x. Ok x) reported) × AllZip Reports reported ys
ReturnsReported {X = X} {Y = Y} Steps Reports walk (Err e) = (reported : List X) × (ys : List Y) × ReturnsItems Steps walk (map (λ x. Ok x) reported ++ Err e ∷ []) × AllZip Reports reported ys

-- ---- items that calls read further than the list which they walk over

-- an item as it is read, and those after it; a refusal is the last
abbrev pub and_after : {Y R : Type 0} → Result Y R → List (Result Y R) → List (Result Y R)
and_after (Ok y) items = Ok y ∷ items
and_after (Err refusal) items = Err refusal ∷ []

-- the items of a list as they are read, up to the first refusal
abbrev pub read_items : {X Y R : Type 0} → (X → Result Y R) → List (Result X R) → List (Result Y R)
read_items read [] = []
read_items read (Ok x ∷ items) = and_after (read x) (read_items read items)
read_items read (Err refusal ∷ items) = Err refusal ∷ []

-- the same where an item is read by the walk that is before it, which `move` takes past it
abbrev pub read_in_turn : {W X Y R : Type 0} → (W → X → Result Y R) → (W → X → W) → W → List (Result X R) → List (Result Y R)
read_in_turn read move w [] = []
read_in_turn read move w (Ok x ∷ items) = and_after (read w x) (read_in_turn read move (move w x) items)
read_in_turn read move w (Err refusal ∷ items) = Err refusal ∷ []

-- each item that is read has the parts of that of the list
abbrev pub EachHas : {X Y R : Type 0} → (Y → X → Type 0) → List (Result Y R) → List (Result X R) → Type 0
EachHas Has [] items = Unit {0}
EachHas Has (Err refusal ∷ ys) items = Unit {0}
EachHas Has (Ok y ∷ ys) [] = ⊥
EachHas Has (Ok y ∷ ys) (Err refusal ∷ items) = ⊥
EachHas Has (Ok y ∷ ys) (Ok x ∷ items) = Has y x × EachHas Has ys items
