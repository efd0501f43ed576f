-- What an error of written resources is, without its numbers and its text, and when each is returned.
use Rattle.std.specs.Prelude.{◌≡◌, ℕ, ◌+◌, Bool, List, [], ◌∷◌, Result, Ok, Err, length, nat_le, nat_lt}
use Rattle.std.specs.List.{list_all}
use Rattle.pe_core.specs.Bytes.{splice}
use Rattle.pe_core.specs.Refusals.{Refusal, WriteFit, kind_of, outcome, ◌>>=◌}
use Rattle.pe_edit.specs.declared.error.EditError.{EditError}
use Rattle.pe_edit.specs.declared.error.EditError.TheVariants as errors
use Rattle.pe_edit.specs.Sorted.{is_sorted}
use Rattle.pe_edit.specs.Written.{Leaf, names_fit, layout_of, section, section_length}

-- the kinds of errors
pub data EditRefusal : Type 0 where
  Image : Refusal → EditRefusal
  TooMany : EditRefusal
  Name : EditRefusal
  Order : EditRefusal
  TablesTooLarge : EditRefusal
  TooLarge : EditRefusal

-- the kind of an error
abbrev pub edit_kind_of : EditError → EditRefusal
edit_kind_of (errors.Image error) = Image (kind_of error)
edit_kind_of (errors.TooMany count) = TooMany
edit_kind_of (errors.Name index) = Name
edit_kind_of (errors.Order index) = Order
edit_kind_of (errors.TablesTooLarge size) = TablesTooLarge
edit_kind_of errors.TooLarge = TooLarge

-- the call returned the defined value, or an error of the defined kind
abbrev pub EditReturns : {X : Type 0} → Result X EditError → Result X EditRefusal → Type 0
EditReturns (Ok x) defined = defined ≡ Ok x
EditReturns (Err e) defined = defined ≡ Err (edit_kind_of e)

-- what leaves have to pass, in this order: at most 65,535 of them; types and names of whole code units, at most 65,535; sorted;
-- directories and names below 2 GB; the section below 4 GB
abbrev pub leaf_tests : ℕ → List Leaf → List (Bool × EditRefusal)
leaf_tests rva xs =
    (nat_lt (length xs) 65536, TooMany)
    ∷ (list_all names_fit xs, Name)
    ∷ (is_sorted xs, Order)
    ∷ (nat_lt (layout_of xs).contents 2147483648, TablesTooLarge)
    ∷ (nat_lt (rva + section_length xs) 4294967296, TooLarge) ∷ []

-- the section with these leaves at an RVA
abbrev pub section_of : ℕ → List Leaf → Result (List ℕ) EditRefusal
section_of rva xs = outcome (leaf_tests rva xs) (section rva xs)

-- its length, and a buffer with it at its start
abbrev pub length_of : Result (List ℕ) EditRefusal → Result ℕ EditRefusal
length_of made = made >>= λ s. Ok (length s)

abbrev pub written : Result (List ℕ) EditRefusal → List ℕ → Result (ℕ × List ℕ) EditRefusal
written made old = made >>= λ s. outcome ((nat_le (length s) (length old), Image WriteFit) ∷ []) (length s, splice old 0 s)

-- the number returned and the bytes left are the defined ones; a refusal is the defined one, and changes nothing
abbrev pub EditReturnsWritten : Result ℕ EditError → Result (ℕ × List ℕ) EditRefusal → List ℕ → List ℕ → Type 0
EditReturnsWritten (Ok n) defined old new = defined ≡ Ok (n, new)
EditReturnsWritten (Err e) defined old new = (defined ≡ Err (edit_kind_of e)) × (new ≡ old)
