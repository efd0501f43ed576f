-- What an image is where its core is known, and where that is refused.
use Rattle.std.proofs.Common.{◌≡◌, ◌↔◌, ℕ, List, [], Option, None, Some, Result, Ok, Err, refl, sym, ap, ◌∙◌, arith, rules}
use Rattle.pe_image.proofs.Cited.{unwrap_or, not_both, Refusal, ◌>>=◌, DataDirectory, ParseMode, Permissive, ParseOptions}
use Rattle.pe_image.proofs.Cited.{SectionTable, ResourceView, IsResource, CoreView, core_of, Field, IsField, given_value}
use Rattle.pe_image.proofs.Cited.{resource_directory, AreDerived, ImageView, core_part, with_fields, demanded}
use Rattle.pe_image.proofs.Cited.{first_fields_demanded, before_resources, debug_of, exceptions_of, relocations_of, certificates_of}
use Rattle.pe_image.proofs.Cited.{AreResourcesOf, IsAfterCore, IsImage, alignment}
use Rattle.pe_image.proofs.Steps.{passed_test}

-- ---- an image whose core is known

-- the core with its fields, for some reading of its resources
abbrev IsWhole : List ℕ → ParseOptions → CoreView → ImageView → Type 0
IsWhole b o c x = (f : Field ResourceView) × AreResourcesOf b o c f × (x ≡ with_fields b o c f)

whole_after : (b : List ℕ) (o : ParseOptions) (c : CoreView) (x : ImageView) (r : Result CoreView Refusal) → (first_fields_demanded b o c >>= λ u. Ok c) ≡ r → IsAfterCore b o r (Ok x) → IsWhole b o c x
whole_after b o c x (Err e) h is = absurd cc
whole_after b o c x (Ok d) h (f, are, given) =
    let same : d ≡ c = sym (passed_test (first_fields_demanded b o c) c d h) in
    (f, rw same at are, sym (passed_test (demanded o.parse_mode f) (with_fields b o c f) x (sym (rw same at given))))

whole : (b : List ℕ) (o : ParseOptions) (c : CoreView) (x : ImageView) → core_of b o ≡ Ok c → IsImage b o (Ok x) → IsWhole b o c x
unfolding before_resources
whole b o c x h is = whole_after b o c x (first_fields_demanded b o c >>= λ u. Ok c) refl (rw h at is)

pub core_of_image : (b : List ℕ) (o : ParseOptions) (c : CoreView) (x : ImageView) → core_of b o ≡ Ok c → IsImage b o (Ok x) → core_part x ≡ c
unfolding with_fields
core_of_image b o c x h is = let (f, are, same) = whole b o c x h is in ap (λ x. core_part x) same

pub derived_of_core : (b : List ℕ) (o : ParseOptions) (c : CoreView) (x : ImageView) → core_of b o ≡ Ok c → IsImage b o (Ok x) → AreDerived c x
unfolding with_fields
derived_of_core b o c x h is =
    let (f, are, same) =
    whole b o c x h is in rw same (record { name = refl; library = refl; pe32_plus = refl; entry = refl; base = refl; size = refl })

pub debug_alone : (b : List ℕ) (o : ParseOptions) (c : CoreView) (x : ImageView) → core_of b o ≡ Ok c → IsImage b o (Ok x) → x.debug_data ≡ given_value (debug_of b o c)
unfolding with_fields
debug_alone b o c x h is = let (f, are, same) = whole b o c x h is in ap (λ x. x.debug_data) same

pub exceptions_alone : (b : List ℕ) (o : ParseOptions) (c : CoreView) (x : ImageView) → core_of b o ≡ Ok c → IsImage b o (Ok x) → x.exception_data ≡ given_value (exceptions_of b o c)
unfolding with_fields
exceptions_alone b o c x h is = let (f, are, same) = whole b o c x h is in ap (λ x. x.exception_data) same

pub relocations_alone : (b : List ℕ) (o : ParseOptions) (c : CoreView) (x : ImageView) → core_of b o ≡ Ok c → IsImage b o (Ok x) → x.relocation_data ≡ given_value (relocations_of b o c)
unfolding with_fields
relocations_alone b o c x h is = let (f, are, same) = whole b o c x h is in ap (λ x. x.relocation_data) same

pub certificates_alone : (b : List ℕ) (o : ParseOptions) (c : CoreView) (x : ImageView) → core_of b o ≡ Ok c → IsImage b o (Ok x) → x.certificates ≡ unwrap_or (given_value (certificates_of b o c)) []
unfolding with_fields
certificates_alone b o c x h is = let (f, are, same) = whole b o c x h is in ap (λ x. x.certificates) same

pub resources_alone : (b : List ℕ) (o : ParseOptions) (c : CoreView) (x : ImageView) → core_of b o ≡ Ok c → IsImage b o (Ok x) → (f : Field ResourceView) × AreResourcesOf b o c f × (x.resource_data ≡ given_value f)
unfolding with_fields
resources_alone b o c x h is = search (rules, arith, whole)

-- ---- an image that permissive mode refuses

pub demanded_never : {X : Type 0} (mode : ParseMode) (f : Field X) → mode ≡ Permissive → demanded mode f ≡ Ok tt
demanded_never mode f h = rw h refl

pub four_never : (b : List ℕ) (o : ParseOptions) (c : CoreView) → o.parse_mode ≡ Permissive → first_fields_demanded b o c ≡ Ok tt
four_never b o c h = rw (demanded_never o.parse_mode (debug_of b o c) h, demanded_never o.parse_mode (exceptions_of b o c) h, demanded_never o.parse_mode (relocations_of b o c) h) (demanded_never o.parse_mode (certificates_of b o c) h)

pub refused_as_the_core : (b : List ℕ) (o : ParseOptions) (r : Result ImageView Refusal) (e : Refusal) → o.parse_mode ≡ Permissive → IsImage b o r → (r ≡ Err e) ↔ (core_of b o ≡ Err e)
unfolding before_resources
refused_as_the_core b o r e h is = grind (arith, four_never, not_both, demanded_never)

-- ---- one image

-- the law of resources, as pe_resource states it
abbrev OneResource : Type 0
OneResource = (o : ParseOptions) (b : List ℕ) (d : DataDirectory) (sections : List SectionTable) (unit : ℕ) (r s : Result ResourceView Refusal) → IsResource o b d sections unit r → IsResource o b d sections unit s → r ≡ s

one_after : OneResource → (b : List ℕ) (o : ParseOptions) (q : Result CoreView Refusal) (r s : Result ImageView Refusal) → IsAfterCore b o q r → IsAfterCore b o q s → r ≡ s
one_after law b o (Err e) r s is also = is ∙ sym also
one_after law b o (Ok c) r s (f, are, given) (g, too, shown) =
    let same : f ≡ g = grind arith in
    given ∙ sym (rw (sym same) at shown)

pub one_image : OneResource → (b : List ℕ) (o : ParseOptions) (r s : Result ImageView Refusal) → IsImage b o r → IsImage b o s → r ≡ s
one_image law b o r s is also = one_after law b o (before_resources b o) r s is also

-- ---- some image

-- the law that there are resources, as pe_resource states it
abbrev SomeResource : Type 0
SomeResource = (o : ParseOptions) (b : List ℕ) (d : DataDirectory) (sections : List SectionTable) (unit : ℕ) → (r : Result ResourceView Refusal) × IsResource o b d sections unit r

some_field : SomeResource → (b : List ℕ) (o : ParseOptions) (sections : List SectionTable) (unit : ℕ) (d : Option DataDirectory) → (f : Field ResourceView) × IsField (λ d r. IsResource o b d sections unit r) d f
some_field law b o sections unit None = (None, refl)
some_field law b o sections unit (Some d) = let (r, is) = law o b d sections unit in (Some r, is)

some_after : SomeResource → (b : List ℕ) (o : ParseOptions) (q : Result CoreView Refusal) → (r : Result ImageView Refusal) × IsAfterCore b o q r
some_after law b o (Err e) = (Err e, refl)
some_after law b o (Ok c) =
    let (f, are) = some_field law b o c.sections (alignment c.header.optional_header) (resource_directory o c.header.optional_header) in
    (demanded o.parse_mode f >>= λ u. Ok (with_fields b o c f), (f, are, refl))

pub some_image : SomeResource → (b : List ℕ) (o : ParseOptions) → (r : Result ImageView Refusal) × IsImage b o r
some_image law b o = some_after law b o (before_resources b o)
