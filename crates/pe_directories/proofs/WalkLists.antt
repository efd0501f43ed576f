-- All items of a walk as a list, and what is read of each of them.
use Rattle.std.proofs.Common.{◌≡◌, ℕ, zero, suc, ◌<◌, List, [], ◌∷◌, ◌++◌, map, length, Option, Some, None, Result, Ok, Err, refl, sym, ◌∙◌, arith}
use Rattle.pe_directories.proofs.Cited.{append-nil, map-append, DirectoryRefusal, UnlessNoMemory, directory_answer, directory_kind_of}
use Rattle.pe_directories.proofs.Cited.{First, Items, ItemsLeft, Steps, with_more, first_items, all_items, each_read, DirectoryError}
use Rattle.pe_core.specs.Gathered.{with_rest}
use Rattle.pe_core.proofs.Gathering.{with_one}
use Rattle.pe_core.proofs.ImportLists.{unless_memory}
use Rattle.pe_directories.proofs.WholeWalks.{Shrinks, one_list, ended, one_more, refused}

-- ---- the list has the items of the walk

items_from : {X : Type 0} (first : List ℕ → First X (List ℕ)) (more : List ℕ → List (Result X DirectoryRefusal)) (b : List ℕ) (found : First X (List ℕ)) → first b ≡ found
    → ((x : X) (t : List ℕ) → first b ≡ Some (Ok (x, t)) → Items first t (more t)) → Items first b (with_more more found)
items_from first more b None e after = e
items_from first more b (Some (Ok y)) e after = (y.1, e, after y.0 y.1 e)
items_from first more b (Some (Err r)) e after = (e, refl)

first_are_items : {X : Type 0} (first : List ℕ → First X (List ℕ)) → Shrinks length first → (n : ℕ) (b : List ℕ) → length b < n → Items first b (first_items first n b)
unfolding first_items
first_are_items first shrinks zero b few = absurd (omega (arith, few))
first_are_items first shrinks (suc n) b few =
    items_from first (first_items first n) b (first b) refl (λ x t e. first_are_items first shrinks n t (omega (arith, few, shrinks b x t e)))

all_are_items : {X : Type 0} (first : List ℕ → First X (List ℕ)) → Shrinks length first → (left : Option (List ℕ)) → ItemsLeft first left (all_items first left)
unfolding all_items
all_are_items first shrinks left = grind (arith, first_are_items)

-- a walk has no other items
pub only_items : {X : Type 0} (first : List ℕ → First X (List ℕ)) → Shrinks length first → (left : Option (List ℕ)) (xs : List (Result X DirectoryRefusal)) → ItemsLeft first left xs → all_items first left ≡ xs
only_items first shrinks None xs h = all_are_items first shrinks None ∙ sym h
only_items first shrinks (Some b) xs h = (one_list length first shrinks).once b _ _ (all_are_items first shrinks (Some b)) h

-- ---- a step takes the first item off

pub first_taken : {X Y : Type 0} (view : Y → X) (first : List ℕ → First X (List ℕ)) → Shrinks length first → (left after : Option (List ℕ)) (r : Result Y DirectoryError)
    → Steps view first left (Some r) after → all_items first left ≡ directory_answer view r ∷ all_items first after
first_taken view first shrinks left after (Ok y) h = only_items first shrinks left _ (one_more view first left after y _ h (all_are_items first shrinks after))
first_taken view first shrinks left after (Err e) h = only_items first shrinks left _ (refused view first left after e _ h (all_are_items first shrinks after))

pub none_left : {X Y : Type 0} (view : Y → X) (first : List ℕ → First X (List ℕ)) → Shrinks length first → (left after : Option (List ℕ))
    → Steps view first left None after → all_items first left ≡ []
none_left view first shrinks left after h = only_items first shrinks left [] (ended view first left after h)

-- ---- errors

unless_no_memory : (e : DirectoryError) (P : Type 0) → P → UnlessNoMemory e P
unless_no_memory e P x = grind (arith, unless_memory)

-- ---- what is read of the items so far, and of those that are left

pub record ReadSoFar {X Y : Type 0} (read : X → Result Y DirectoryRefusal) (items left : List (Result X DirectoryRefusal)) (ys : List Y) : Type 0 where
  pub rest : with_rest ys (each_read read left) ≡ each_read read items

pub one_read : {X Y : Type 0} (read : X → Result Y DirectoryRefusal) (items left more : List (Result X DirectoryRefusal)) (ys : List Y) (x : X) (y : Y)
    → ReadSoFar read items left ys → left ≡ Ok x ∷ more → read x ≡ Ok y → ReadSoFar read items more (ys ++ y ∷ [])
unfolding each_read
one_read read items left more ys x y g is ok = grind (arith, with_one)

pub one_pushed : {X Y V : Type 0} (view : V → Y) (read : X → Result Y DirectoryRefusal) (items left more : List (Result X DirectoryRefusal)) (done pushed : List V) (x : X) (v : V)
    → ReadSoFar read items left (map view done) → left ≡ Ok x ∷ more → read x ≡ Ok (view v) → pushed ≡ done ++ v ∷ [] → ReadSoFar read items more (map view pushed)
one_pushed view read items left more done pushed x v g is ok push = grind (arith, map-append, one_read)

pub refused_item : {X Y : Type 0} (read : X → Result Y DirectoryRefusal) (items left more : List (Result X DirectoryRefusal)) (ys : List Y) (e : DirectoryError)
    → ReadSoFar read items left ys → left ≡ Err (directory_kind_of e) ∷ more → UnlessNoMemory e (each_read read items ≡ Err (directory_kind_of e))
unfolding each_read
refused_item read items left more ys e g is = grind (arith, unless_no_memory)

pub refused_read : {X Y : Type 0} (read : X → Result Y DirectoryRefusal) (items left more : List (Result X DirectoryRefusal)) (ys : List Y) (x : X) (e : DirectoryError)
    → ReadSoFar read items left ys → left ≡ Ok x ∷ more → read x ≡ Err (directory_kind_of e) → UnlessNoMemory e (each_read read items ≡ Err (directory_kind_of e))
unfolding each_read
refused_read read items left more ys x e g is not = grind (arith, unless_no_memory)

pub all_read : {X Y : Type 0} (read : X → Result Y DirectoryRefusal) (items left : List (Result X DirectoryRefusal)) (ys : List Y)
    → ReadSoFar read items left ys → left ≡ [] → each_read read items ≡ Ok ys
unfolding each_read
all_read read items left ys g is = grind (arith, append-nil)
