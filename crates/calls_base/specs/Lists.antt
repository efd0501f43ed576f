-- Lists in one call: what the steps of a walk return one after the other, in an array.
use Rattle.std.specs.List.{flat_map}
use Rattle.std.specs.Prelude.{◌≡◌, ◌⊎◌, ℕ, zero, suc, ◌+◌, ◌-◌, ◌^◌, ◌<◌, ◌≤◌, ◌==◌, min, Bool, true, false, List, [], ◌∷◌, ◌++◌, length, map, drop, Option, Some, None, Result, Ok, Err}
use Rattle.pe_core.specs.Refusals.{Refusal, FunctionIndex}
use Rattle.calls_base.specs.Runs.{ReturnsItems}
use Rattle.calls_base.specs.declared.results.TheConstants.{DONE, ROOM}

-- ---- what a list has

-- steps return these values, one each, and leave the walk there
abbrev pub Takes : {W X E : Type 0} → (W → Result (Option X) E → W → Type 0) → W → List X → W → Type 0
Takes Steps w [] v = v ≡ w
Takes {W} Steps w (x ∷ xs) v = (u : W) × Steps w (Ok (Some x)) u × Takes Steps u xs v

-- why a list with room for n values has no more than these, after which the walk is at u: there is no room for more, or the
-- walk is at its end, or the next step is an error. That is left to the next call
abbrev pub Stops : {W X E : Type 0} → (W → Result (Option X) E → W → Type 0) → ℕ → List X → W → W → Type 0
Stops {W} {X} {E} Steps n xs u v =
    ((length xs ≡ n) × (v ≡ u))
    ⊎ (((length xs < n) × Steps u (Ok None) v)
    ⊎ ((0 < length xs) × (length xs < n) × (v ≡ u) × ((e : E) × (next : W) × Steps u (Err e) next)))

-- what a call with room for n values returns of a walk, and the walk after it
abbrev pub Lists : {W X E : Type 0} → (W → Result (Option X) E → W → Type 0) → ℕ → W → Result (List X) E → W → Type 0
Lists {W} Steps n w (Ok xs) v = (u : W) × Takes Steps w xs u × Stops Steps n xs u v
Lists Steps n w (Err e) v = Steps w (Err e) v

-- ---- what a call hands out

-- a refusal as its number
abbrev pub by_number : {X R : Type 0} → (R → ℕ) → Result X R → Result X ℕ
by_number number (Ok x) = Ok x
by_number number (Err refusal) = Err (number refusal)

-- steps whose errors are numbers
abbrev pub Numbered : {W X R : Type 0} → (R → ℕ) → (W → Result (Option X) R → W → Type 0) → W → Result (Option X) ℕ → W → Type 0
Numbered {W} {X} {R} number Steps w given v = (answer : Result (Option X) R) × Steps w answer v × (given ≡ by_number number answer)

-- a table that is read by index, from one on: the index after an entry that is there; nothing stands at an index without one
abbrev pub index_after : {X R : Type 0} → ℕ → Result (Option X) R → ℕ
index_after i (Ok (Some x)) = min (i + 1) (2 ^ 64 - 1)
index_after i (Ok None) = i
index_after i (Err refusal) = i

abbrev pub StepsByIndex : {X R : Type 0} → (ℕ → Result (Option X) R) → ℕ → Result (Option X) R → ℕ → Type 0
StepsByIndex at i answer next = (answer ≡ at i) × (next ≡ index_after i (at i))

-- an entry of a function table, none where the table has no entry with its index
abbrev pub if_there : {X : Type 0} → Result X Refusal → Result (Option X) Refusal
if_there (Ok x) = Ok (Some x)
if_there (Err FunctionIndex) = Ok None
if_there (Err refusal) = Err refusal

-- 0, the values at the start of the array, and their number; else the number of the error, and nothing is written
abbrev pub WritesList : {X : Type 0} → ℕ → List X → List X → ℕ → ℕ → Result (List X) ℕ → Type 0
WritesList number old new before written (Ok xs) = (number ≡ DONE) × (new ≡ xs ++ drop (length xs) old) × (written ≡ length xs)
WritesList number old new before written (Err e) = (number ≡ e) × (new ≡ old) × (written ≡ before)

-- what a call returns, by whether there is no room; then the number is ROOM, and nothing changes
abbrev pub HandsOutListIf : {W X : Type 0} → Bool → (W → Result (Option X) ℕ → W → Type 0) → ℕ → W → W → List X → List X → ℕ → ℕ → Type 0
HandsOutListIf true Steps number w v old new before written = (number ≡ ROOM) × (v ≡ w) × (new ≡ old) × (written ≡ before)
HandsOutListIf {W} {X} false Steps number w v old new before written =
    (answer : Result (List X) ℕ) × Lists Steps (length old) w answer v × WritesList number old new before written answer

abbrev pub HandsOutList : {W X : Type 0} → (W → Result (Option X) ℕ → W → Type 0) → ℕ → W → W → List X → List X → ℕ → ℕ → Type 0
HandsOutList Steps number w v old new before written = HandsOutListIf (length old == 0) Steps number w v old new before written

-- ---- lists and items

-- the values at the front of some items, so many at most
abbrev pub values_first : {X R : Type 0} → ℕ → List (Result X R) → List X
values_first zero items = []
values_first (suc n) [] = []
values_first (suc n) (Ok x ∷ items) = x ∷ values_first n items
values_first (suc n) (Err refusal ∷ items) = []

-- what a call with room for n values returns where a walk has these items left
abbrev pub list_of : {X R : Type 0} → (R → ℕ) → ℕ → List (Result X R) → Result (List X) ℕ
list_of number n [] = Ok []
list_of number n (Ok x ∷ items) = Ok (values_first n (Ok x ∷ items))
list_of number n (Err refusal ∷ items) = Err (number refusal)

-- the items that the walk has left after such a call
abbrev pub items_after : {X R : Type 0} → ℕ → List (Result X R) → List (Result X R)
items_after n [] = []
items_after n (Ok x ∷ items) = drop (length (values_first n (Ok x ∷ items))) (Ok x ∷ items)
items_after n (Err refusal ∷ items) = []

-- what calls with room for these numbers of values return, one after the other
abbrev pub in_lists : {X R : Type 0} → (R → ℕ) → List ℕ → List (Result X R) → List (Result (List X) ℕ)
in_lists number [] items = []
in_lists number (n ∷ ns) items = list_of number n items ∷ in_lists number ns (items_after n items)

-- what a call returned, as items
abbrev pub items_in : {X : Type 0} → Result (List X) ℕ → List (Result X ℕ)
items_in (Ok xs) = map (λ x. Ok x) xs
items_in (Err e) = Err e ∷ []

-- a refusal is the last of these items
abbrev pub EndAtRefusal : {X R : Type 0} → List (Result X R) → Type 0
EndAtRefusal [] = Unit {0}
EndAtRefusal (Ok x ∷ items) = EndAtRefusal items
EndAtRefusal (Err refusal ∷ items) = items ≡ []

-- there is room for a value or more in each call
abbrev pub HaveRoom : List ℕ → Type 0
HaveRoom [] = Unit {0}
HaveRoom (n ∷ ns) = (0 < n) × HaveRoom ns

-- as many calls as there are items, or more, return the items
abbrev pub ListsJoin : {X R : Type 0} → (R → ℕ) → List (Result X R) → Type 0
ListsJoin number items = (ns : List ℕ) → HaveRoom ns → length items ≤ length ns → flat_map items_in (in_lists number ns items) ≡ map (by_number number) items

-- what a step returns, in a list with room for one value
abbrev pub one_of : {X R : Type 0} → (R → ℕ) → Result (Option X) R → Result (List X) ℕ
one_of number (Ok None) = Ok []
one_of number (Ok (Some x)) = Ok (x ∷ [])
one_of number (Err refusal) = Err (number refusal)

-- a call with room for one value returns what a step does, and leaves the walk where the step leaves it
abbrev pub GiveSteps : {W X R : Type 0} → (R → ℕ) → (W → Result (Option X) R → W → Type 0) → Type 0
GiveSteps {W} {X} {R} number Steps =
    (w v : W) (answer : Result (List X) ℕ) → Lists (Numbered number Steps) 1 w answer v → (given : Result (Option X) R) × Steps w given v × (answer ≡ one_of number given)

-- list calls return what the steps return: where these return some items, a call returns the first of them, and the walk after
-- it has the others left; calls one after the other return all of them; and a call with room for one is a step
abbrev pub GiveLists : {W X R : Type 0} → (R → ℕ) → (W → Result (Option X) R → W → Type 0) → Type 0
GiveLists {W} {X} {R} number Steps =
    ((n : ℕ) (w v : W) (items : List (Result X R)) (answer : Result (List X) ℕ) → 0 < n → ReturnsItems Steps w items → Lists (Numbered number Steps) n w answer v →
    (answer ≡ list_of number n items) × ReturnsItems Steps v (items_after n items))
    × ((items : List (Result X R)) → EndAtRefusal items → ListsJoin number items)
    × GiveSteps number Steps

-- ---- the loop

-- what it returns: how many values it wrote to the start of the array; or the number of an error, and nothing is written
abbrev pub PutsList : {W X : Type 0} → (W → Result (Option X) ℕ → W → Type 0) → W → W → List X → List X → Result ℕ ℕ → Type 0
PutsList {W} {X} Steps w v old new (Ok n) = (xs : List X) × Lists Steps (length old) w (Ok xs) v × (n ≡ length xs) × (new ≡ xs ++ drop n old)
PutsList Steps w v old new (Err e) = Steps w (Err e) v × (new ≡ old)
