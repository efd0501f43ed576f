-- In permissive mode the image of some bytes is what the promise says, and what the promise says is the image.
use Rattle.std.proofs.Common.{◌≡◌, ◌↔◌, ℕ, List, Result, Ok, Err, refl, sym, arith, rules}
use Rattle.pe_image.proofs.Cited.{Refusal, ◌>>=◌, Permissive, ParseOptions, ResourceView, CoreView, core_of, Field, given_value}
use Rattle.pe_image.proofs.Cited.{AreDerived, AreAlone, IsOfCore, IsPermissive, ImageView, core_part, with_fields}
use Rattle.pe_image.proofs.Cited.{first_fields_demanded, before_resources, AreResourcesOf, IsAfterCore, IsImage}
use Rattle.pe_image.proofs.Permissive.{demanded_never, four_never}

-- ---- a core with its fields is an image of that core, and the one that there is

of_core : (b : List ℕ) (o : ParseOptions) (c : CoreView) (f : Field ResourceView) → AreResourcesOf b o c f → IsOfCore b o c (with_fields b o c f)
unfolding with_fields
of_core b o c f are = grind arith

whole : (b : List ℕ) (o : ParseOptions) (c : CoreView) (x : ImageView) (f : Field ResourceView) → core_part x ≡ c → AreDerived c x → AreAlone b o c x → x.resource_data ≡ given_value f → x ≡ with_fields b o c f
unfolding with_fields
whole b o c x f core d a resources = rw (sym a.debug, sym a.exceptions, sym a.relocations, sym a.certificates, sym resources, sym d.name, sym d.library, sym d.pe32_plus, sym d.entry, sym d.base, sym d.size, sym core) refl

-- ---- after a core

from_image : (b : List ℕ) (o : ParseOptions) (q : Result CoreView Refusal) (r : Result ImageView Refusal) → o.parse_mode ≡ Permissive → IsAfterCore b o (q >>= λ c. first_fields_demanded b o c >>= λ u. Ok c) r → IsPermissive b o q r
from_image b o q r h is = grind (arith, four_never, demanded_never, of_core)

to_image : (b : List ℕ) (o : ParseOptions) (q : Result CoreView Refusal) (r : Result ImageView Refusal) → o.parse_mode ≡ Permissive → IsPermissive b o q r → IsAfterCore b o (q >>= λ c. first_fields_demanded b o c >>= λ u. Ok c) r
to_image b o (Err e) r h is = is
to_image b o (Ok c) (Err e) h is = absurd is
to_image b o (Ok c) (Ok x) h is = search (rules, arith, whole, demanded_never, four_never)

pub headline : (b : List ℕ) (o : ParseOptions) (r : Result ImageView Refusal) → o.parse_mode ≡ Permissive → IsImage b o r ↔ IsPermissive b o (core_of b o) r
unfolding before_resources
headline b o r h = (from_image b o (core_of b o) r h, to_image b o (core_of b o) r h)
