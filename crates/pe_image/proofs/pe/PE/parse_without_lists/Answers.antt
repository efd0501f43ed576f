use Rattle.std.proofs.Common.{◌≡◌, ℕ, false, List, [], Result, Ok, Err, refl, arith, rules}
use Rattle.pe_image.proofs.Cited.{IfOk, Refusal, UnlessMemory, kind_of, ◌>>=◌, Error, ParseOptions, ResourceView, same_inside}
use Rattle.pe_image.proofs.Cited.{CoreView, core_of, sections_read, Field, ImageView, image_view, first_fields_demanded}
use Rattle.pe_image.proofs.Cited.{with_fields, IsAfterCore, IsImage, unless_refused, ReturnsAfterCore, AsksForMemory}
use Rattle.pe_image.proofs.Cited.{HasCertificates, MemoryOnlyIf, core_if_listed, PE, err_from_is_err_and}
use Rattle.pe_image.specs.Unlisted.{ReturnsUnlisted, unlisted}
use Rattle.pe_image.proofs.Images.{core_refused, sections_first, with_core}
use Rattle.pe_image.proofs.Requests.{asks_for_certificates}
use Rattle.pe_image.proofs.SectionsFirst.{sections_of_image}
use Rattle.pe_image.proofs.Steps.{if_memory, passed_test, refused_test, still_passes, unless_more}
use Rattle.pe_image.proofs.pe.PE.parse_without_lists.Goals as goal

-- From a core without its imports to the image without them.

-- a core without its imports
abbrev short : CoreView → CoreView
short c = record c { imports = [] }

-- where there is a core without its imports, there is one with them
listed_core : (r : Result CoreView Refusal) (c : CoreView) → core_if_listed false r ≡ Ok c → (d : CoreView) × (r ≡ Ok d) × (c ≡ short d)
listed_core r c h = grind (arith, same_inside)

refused_core : (r : Result CoreView Refusal) (e : Refusal) → core_if_listed false r ≡ Err e → r ≡ Err e
refused_core r e h = grind arith

refused_unless : (b : List ℕ) (opts : ParseOptions) (e : Error) → UnlessMemory e (core_if_listed false (core_of b opts) ≡ Err (kind_of e)) → UnlessMemory e (IsImage b opts (Err (kind_of e)))
refused_unless b opts e h =
    unless_more e (core_if_listed false (core_of b opts) ≡ Err (kind_of e)) (IsImage b opts (Err (kind_of e))) (λ is. core_refused b opts (kind_of e) (refused_core (core_of b opts) (kind_of e) is)) h

-- ---- the fields do not depend on the imports

same_fields : (b : List ℕ) (opts : ParseOptions) (d : CoreView) (f : Field ResourceView) → with_fields b opts (short d) f ≡ unlisted (with_fields b opts d f)
unfolding with_fields
same_fields b opts d f = refl

image_after : (b : List ℕ) (opts : ParseOptions) (d : CoreView) (x : ImageView) (t : Result (Unit {0}) Refusal) → IsAfterCore b opts (t >>= λ u. Ok (short d)) (Ok x)
    → (image : ImageView) × IsAfterCore b opts (t >>= λ u. Ok d) (Ok image) × (x ≡ unlisted image)
image_after b opts d x t is = grind (arith, still_passes, passed_test, same_fields)

refused_after : (b : List ℕ) (opts : ParseOptions) (d : CoreView) (e : Refusal) (t : Result (Unit {0}) Refusal) → IsAfterCore b opts (t >>= λ u. Ok (short d)) (Err e) → IsAfterCore b opts (t >>= λ u. Ok d) (Err e)
refused_after b opts d e t is = grind (arith, refused_test)

from_short : {Z : Type 0} (b : List ℕ) (opts : ParseOptions) (d : CoreView) (r : Result (PE Z) Error) → core_of b opts ≡ Ok d → ReturnsAfterCore b opts (short d) r → ReturnsUnlisted b opts r
from_short b opts d (Ok p) given is =
    let after = image_after b opts d (image_view p) (first_fields_demanded b opts d) is in
    record { image = after.0; given = with_core b opts d (Ok after.0) given after.1; same = after.2 }
from_short b opts d (Err e) given is = (
  unless_more e (IsAfterCore b opts (unless_refused b opts (short d)) (Err (kind_of e))) (IsImage b opts (Err (kind_of e)))
      (λ h. with_core b opts d (Err (kind_of e)) given (refused_after b opts d (kind_of e) (first_fields_demanded b opts d) h)) is,
  if_memory e _ (sections_first b opts d given),
)

from_core : {Z : Type 0} (b : List ℕ) (opts : ParseOptions) (c : CoreView) (r : Result (PE Z) Error) → core_if_listed false (core_of b opts) ≡ Ok c → ReturnsAfterCore b opts c r → ReturnsUnlisted b opts r
from_core b opts c r given is = grind (arith, listed_core, from_short)

sections_given : {Z : Type 0} (b : List ℕ) (o : ParseOptions) (r : Result (PE Z) Error) → ReturnsUnlisted b o r → IfOk r (λ p. sections_read b o ≡ Ok (image_view p).sections)
sections_given b o r u = grind (arith, sections_of_image)

asks_for : {X : Type 0} (r : Result X Error) (b : List ℕ) (o : ParseOptions) (c : CoreView) → core_if_listed false (core_of b o) ≡ Ok c → MemoryOnlyIf (HasCertificates b o c.header.optional_header) r → MemoryOnlyIf (AsksForMemory b o) r
asks_for r b o c given asked = grind (arith, listed_core, asks_for_certificates)

pub returns-in_err-core-clause-image : goal.returns-in_err-core-clause-image
returns-in_err-core-clause-image g c = search (rules, arith, err_from_is_err_and, refused_unless)

pub returns-clause-image : goal.returns-clause-image
returns-clause-image g c = from_core _ _ _ _ c.in_ok-core.ensures.core c.with_core.ensures.image

pub returns-clause-sections : goal.returns-clause-sections
returns-clause-sections g c = sections_given _ _ _ (from_core _ _ _ _ c.in_ok-core.ensures.core c.with_core.ensures.image)

pub returns-clause-memory : goal.returns-clause-memory
returns-clause-memory g c = asks_for _ _ _ _ c.in_ok-core.ensures.core c.with_core.ensures.memory
