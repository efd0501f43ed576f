-- Walks: items that follow one another. What a walk is over is defined by `first`: what stands first in what is left, which is
-- nothing, an item with what is left after it, or a refusal.
use Rattle.std.specs.Prelude.{◌≡◌, ℕ, zero, suc, ◌+◌, ◌<◌, List, [], ◌∷◌, map, length, Option, Some, None, Result, Ok, Err}
use Rattle.pe_core.specs.Gathered.{all_or_refusal}
use Rattle.pe_core.specs.Refusals.{◌>>=◌}
use Rattle.pe_directories.specs.DirectoryRefusals.{DirectoryRefusal, directory_kind_of}
use Rattle.pe_directories.specs.declared.error.DirectoryError.{DirectoryError}

-- what stands first
abbrev pub First : Type 0 → Type 0 → Type 0
First X S = Option (Result (X × S) DirectoryRefusal)

-- these are the items of what is left: each stands first after the one before it, and a refusal is the last
abbrev pub Items : {X S : Type 0} → (S → First X S) → S → List (Result X DirectoryRefusal) → Type 0
Items first s [] = first s ≡ None
Items {X} {S} first s (Ok x ∷ more) = (rest : S) × (first s ≡ Some (Ok (x, rest))) × Items first rest more
Items first s (Err r ∷ more) = (first s ≡ Some (Err r)) × (more ≡ [])

-- the same of a walk; one that is over has no items
abbrev pub ItemsLeft : {X S : Type 0} → (S → First X S) → Option S → List (Result X DirectoryRefusal) → Type 0
ItemsLeft first None items = items ≡ []
ItemsLeft first (Some s) items = Items first s items

-- there are items of whatever is left, and only one list of them
pub record HasOneList {X S : Type 0} (first : S → First X S) : Type 0 where
  pub exists : (s : S) → (xs : List (Result X DirectoryRefusal)) × Items first s xs
  pub once : (s : S) (xs ys : List (Result X DirectoryRefusal)) → Items first s xs → Items first s ys → xs ≡ ys

-- a call returned what stands first: the item and what is left, each seen by its view
abbrev pub ReturnsFirst : {X S Y R : Type 0} → (Y → X) → (R → S) → First X S → Option (Result (Y × R) DirectoryError) → Type 0
ReturnsFirst view rest defined None = defined ≡ None
ReturnsFirst view rest defined (Some (Ok y)) = defined ≡ Some (Ok (view y.0, rest y.1))
ReturnsFirst view rest defined (Some (Err e)) = defined ≡ Some (Err (directory_kind_of e))

-- one step of a walk: what it returns, and what it leaves; after `None` and after an error the walk is over
abbrev pub Steps : {X S Y : Type 0} → (Y → X) → (S → First X S) → Option S → Option (Result Y DirectoryError) → Option S → Type 0
Steps view first None answer left = (answer ≡ None) × (left ≡ None)
Steps view first (Some s) None left = (first s ≡ None) × (left ≡ None)
Steps {X} {S} view first (Some s) (Some (Ok y)) left = (rest : S) × (first s ≡ Some (Ok (view y, rest))) × (left ≡ Some rest)
Steps view first (Some s) (Some (Err e)) left = (first s ≡ Some (Err (directory_kind_of e))) × (left ≡ None)

-- the bytes that a walk has left, none if it is over
abbrev pub rest_of : Option (List ℕ) → List ℕ
rest_of None = []
rest_of (Some b) = b

-- fewer bytes are left after an item than before it
abbrev pub LeavesFewer : {Y R E : Type 0} → (R → List ℕ) → List ℕ → Option (Result (Y × R) E) → Type 0
LeavesFewer rest b None = Unit {0}
LeavesFewer rest b (Some (Ok y)) = length (rest y.1) < length b
LeavesFewer rest b (Some (Err e)) = Unit {0}

-- how many items some bytes have at most
abbrev pub most_left : Option (List ℕ) → ℕ
most_left None = 0
most_left (Some b) = length b + 1

-- ---- a whole walk as a list

-- an item, then the items that `more` finds in what is left after it; a refusal is the last
abbrev pub with_more : {X S : Type 0} → (S → List (Result X DirectoryRefusal)) → First X S → List (Result X DirectoryRefusal)
with_more more None = []
with_more more (Some (Ok y)) = Ok y.0 ∷ more y.1
with_more more (Some (Err r)) = Err r ∷ []

-- the first items of what is left, at most n of them
unfoldable pub first_items : {X S : Type 0} → (S → First X S) → ℕ → S → List (Result X DirectoryRefusal)
first_items first zero s = []
first_items first (suc n) s = with_more (first_items first n) (first s)

-- all items of a walk over bytes; there are at most as many as bytes, and an error
unfoldable pub all_items : {X : Type 0} → (List ℕ → First X (List ℕ)) → Option (List ℕ) → List (Result X DirectoryRefusal)
all_items first None = []
all_items first (Some b) = first_items first (suc (length b)) b

-- what `read` makes of each item, or the first refusal, of an item or of `read`
unfoldable pub each_read : {X Y : Type 0} → (X → Result Y DirectoryRefusal) → List (Result X DirectoryRefusal) → Result (List Y) DirectoryRefusal
each_read read items = all_or_refusal (map (λ item. item >>= read) items)
