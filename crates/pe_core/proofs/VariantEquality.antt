-- A derived `==` of an enum is equality if it is equality on the fields of each variant.
use Rattle.std.proofs.Common.{ℕ, ◌≡◌, Bool, true, false, List, [], ◌∷◌, refl, ap, sym, ◌∙◌, inl, inr, nat_eq, arith}
use Rattle.std.specs.Prelude.{◌↔◌, ◌&&◌, IsTrue}
use Rattle.std.proofs.lemmas.Bool.Decides.{nat_tests}
use denote.Enum.Compared.{Each, by}
use denote.Enum.Declared.{Choice, Record, left_or, right_or}
use denote.Struct.Field.{Field}
use denote.Struct.Values.{Values}
use Rattle.pe_core.specs.Traits.{IsEquality}
use Rattle.pe_core.proofs.Equality.{and_true, both}

-- ---- the fields of one variant

-- no field, the last field, and a field with others after it
abbrev pub none_equal : Unit {0} → Unit {0} → Bool
none_equal x y = true

abbrev pub last_equal : {A : Type 0} → (A → A → Bool) → A × Unit {0} → A × Unit {0} → Bool
last_equal f x y = f x.0 y.0

abbrev pub next_equal : {A B : Type 0} → (A → A → Bool) → (B → B → Bool) → A × B → A × B → Bool
next_equal f g x y = f x.0 y.0 && g x.1 y.1

pub none : IsEquality none_equal
none x y = (λ t. refl, λ e. refl)

pub last : {A : Type 0} (f : A → A → Bool) → IsEquality f → IsEquality (last_equal f)
last {A} f same x y = (
  λ t. ap (λ (a : A). (a, tt)) ((same x.0 y.0).0 t),
  λ e. (same x.0 y.0).1 (ap (λ (z : A × Unit {0}). z.0) e),
)

pub next : {A B : Type 0} (f : A → A → Bool) (g : B → B → Bool) → IsEquality f → IsEquality g → IsEquality (next_equal f g)
next {A} {B} f g same others x y = (
  λ t.
      let h = both (f x.0 y.0) (g x.1 y.1) t in
      ap (λ (a : A). (a, x.1)) ((same x.0 y.0).0 h.0) ∙ ap (λ (b : B). (y.0, b)) ((others x.1 y.1).0 h.1),
  λ e. and_true _ _ ((same x.0 y.0).1 (ap (λ (z : A × B). z.0) e)) ((others x.1 y.1).1 (ap (λ (z : A × B). z.1) e)),
)

pub number : IsEquality nat_eq
number x y = (λ t. grind (arith, nat_tests), λ e. grind (arith, nat_tests))

-- of one number, and of two
abbrev pub one_equal : ℕ × Unit {0} → ℕ × Unit {0} → Bool
one_equal = last_equal nat_eq

abbrev pub two_equal : ℕ × (ℕ × Unit {0}) → ℕ × (ℕ × Unit {0}) → Bool
two_equal = next_equal nat_eq one_equal

pub one : IsEquality one_equal
one = last nat_eq number

pub two : IsEquality two_equal
two = next nat_eq one_equal number one

-- ---- the variants

-- the test of each variant's fields is equality
abbrev pub EachDecides : (Fss : List (List Field)) → Each Bool Fss → Type 0
EachDecides [] each = Unit {0}
EachDecides (Fs ∷ Fss) each = ((x y : Values Fs) → IsTrue (each.0 x y) ↔ (x ≡ y)) × EachDecides Fss each.1

choices_equal : (Fss : List (List Field)) (each : Each Bool Fss) → EachDecides Fss each → (c d : Choice Fss) → IsTrue (by false false Fss each c d) ↔ (c ≡ d)
choices_equal [] each h c d = absurd c
choices_equal (Fs ∷ Fss) each h (inl x) (inl y) = (λ t. ap inl ((h.0 x y).0 t), λ e. (h.0 x y).1 (ap (left_or x) e))
choices_equal (Fs ∷ Fss) each h (inl x) (inr d) = (λ t. absurd cc, λ e. absurd cc)
choices_equal (Fs ∷ Fss) each h (inr c) (inl y) = (λ t. absurd cc, λ e. absurd cc)
choices_equal (Fs ∷ Fss) each h (inr c) (inr d) =
    let rest = choices_equal Fss each.1 h.1 c d in
    (λ t. ap inr (rest.0 t), λ e. rest.1 (ap (right_or c) e))

pub variants_equal : (R : Record) (each : Each Bool R.parts) → EachDecides R.parts each → (x y : R.D) → IsTrue (by false false R.parts each (R.as_values x) (R.as_values y)) ↔ (x ≡ y)
variants_equal R each h x y =
    let same = choices_equal R.parts each h (R.as_values x) (R.as_values y) in
    (λ t. sym (R.eta x) ∙ ap R.make (same.0 t) ∙ R.eta y, λ e. same.1 (ap R.as_values e))
