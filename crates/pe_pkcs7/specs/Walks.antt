-- Walks: items that follow one another. What a walk is over is defined by `first`: what stands first in what is left, which is
-- nothing, an item with what is left after it, or an error.
use Rattle.std.specs.Prelude.{◌≡◌, List, [], ◌∷◌, Option, Some, None, Result, Ok, Err}
use Rattle.pe_pkcs7.specs.declared.error.SignatureError.{SignatureError}

-- what stands first
abbrev pub First : Type 0 → Type 0 → Type 0
First X S = Option (Result (X × S) SignatureError)

-- these are the items of what is left: each stands first after the one before it, and an error is the last
abbrev pub Items : {X S : Type 0} → (S → First X S) → S → List (Result X SignatureError) → Type 0
Items first s [] = first s ≡ None
Items {X} {S} first s (Ok x ∷ more) = (rest : S) × (first s ≡ Some (Ok (x, rest))) × Items first rest more
Items first s (Err r ∷ more) = (first s ≡ Some (Err r)) × (more ≡ [])

-- the same of a walk; one that is over has no items
abbrev pub ItemsLeft : {X S : Type 0} → (S → First X S) → Option S → List (Result X SignatureError) → Type 0
ItemsLeft first None items = items ≡ []
ItemsLeft first (Some s) items = Items first s items

-- there are items of whatever is left, and only one list of them
pub record HasOneList {X S : Type 0} (first : S → First X S) : Type 0 where
  pub exists : (s : S) → (xs : List (Result X SignatureError)) × Items first s xs
  pub once : (s : S) (xs ys : List (Result X SignatureError)) → Items first s xs → Items first s ys → xs ≡ ys

-- one step of a walk: what it returns, and what it leaves; after `None` and after an error the walk is over
abbrev pub Steps : {X S : Type 0} → (S → First X S) → Option S → Option (Result X SignatureError) → Option S → Type 0
Steps first None answer left = (answer ≡ None) × (left ≡ None)
Steps first (Some s) None left = (first s ≡ None) × (left ≡ None)
Steps {X} {S} first (Some s) (Some (Ok x)) left = (rest : S) × (first s ≡ Some (Ok (x, rest))) × (left ≡ Some rest)
Steps first (Some s) (Some (Err e)) left = (first s ≡ Some (Err e)) × (left ≡ None)
