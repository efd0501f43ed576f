use Rattle.std.proofs.Common.{◌≡◌, ℕ, List, Some, Result, Ok, Err, refl, sym, arith}
use Rattle.pe_image.proofs.Cited.{HeaderView, header_at, Refusal, ◌>>=◌, directory_bytes, sections_of, DataDirectory, Strict}
use Rattle.pe_image.proofs.Cited.{Permissive, ParseOptions, SectionTable, DebugFields, debug_data, ResourceView, IsResource}
use Rattle.pe_image.proofs.Cited.{exception_at, CoreView, core_of, core_with, Field, given_value, ImageView, with_fields, demanded}
use Rattle.pe_image.proofs.Cited.{first_fields_demanded, before_resources, debug_of, exceptions_of, relocations_of, AreResourcesOf}
use Rattle.pe_image.proofs.Cited.{IsAfterCore, IsImage}
use Rattle.pe_image.proofs.SectionsFirst.{core_before}
use Rattle.pe_image.proofs.Steps.{first_passed}
use Rattle.pe_image.proofs.laws.strict_images_are_permissive.Goals as goal

-- Strict images are permissive ones, and an image is one.

-- ---- options of both modes

abbrev strict : ParseOptions → ParseOptions
strict o = record o { parse_mode = Strict }

abbrev permissive : ParseOptions → ParseOptions
permissive o = record o { parse_mode = Permissive }

-- ---- the core

same_core : (b : List ℕ) (o : ParseOptions) (header : HeaderView) (sections : List SectionTable) → core_with b (strict o) header sections ≡ core_with b (permissive o) header sections
unfolding core_with
same_core b o header sections = refl

after_header : (b : List ℕ) (o : ParseOptions) (r s : Result HeaderView Refusal) (c : CoreView) → ((header : HeaderView) → r ≡ Ok header → s ≡ Ok header) → (r >>= λ header. sections_of b header >>= λ sections. core_with b (strict o) header sections) ≡ Ok c → (s >>= λ header. sections_of b header >>= λ sections. core_with b (permissive o) header sections) ≡ Ok c
after_header b o r s c same h = grind (arith, same_core)

-- the law of headers, as pe_core states it
abbrev HeaderLaw : Type 0
HeaderLaw = (b : List ℕ) (h : HeaderView) → header_at b Strict ≡ Ok h → header_at b Permissive ≡ Ok h

-- ---- the fields

-- the law of debug data, as pe_records states it
abbrev DebugLaw : Type 0
DebugLaw = (o : ParseOptions) (b : List ℕ) (d : DataDirectory) (sections : List SectionTable) (unit fixup : ℕ) (x : DebugFields) → debug_data (record o { parse_mode = Strict }) b d sections unit fixup ≡ Ok x → debug_data (record o { parse_mode = Permissive }) b d sections unit fixup ≡ Ok x

same_value : {X : Type 0} (r s : Result X Refusal) → ((x : X) → r ≡ Ok x → s ≡ Ok x) → demanded Strict (Some r) ≡ Ok tt → given_value (Some r) ≡ given_value (Some s)
same_value r s same h = grind arith

same_debug : DebugLaw → (b : List ℕ) (o : ParseOptions) (c : CoreView) → demanded Strict (debug_of b (strict o) c) ≡ Ok tt → given_value (debug_of b (strict o) c) ≡ given_value (debug_of b (permissive o) c)
same_debug law b o c h = grind (arith, same_value)

same_exceptions : (b : List ℕ) (o : ParseOptions) (c : CoreView) → exceptions_of b (strict o) c ≡ exceptions_of b (permissive o) c
unfolding exception_at
same_exceptions b o c = refl

same_relocations : (b : List ℕ) (o : ParseOptions) (c : CoreView) → relocations_of b (strict o) c ≡ relocations_of b (permissive o) c
unfolding directory_bytes
same_relocations b o c = refl

-- the law of resources, as pe_resource states it
abbrev ResourceLaw : Type 0
ResourceLaw = (o : ParseOptions) (b : List ℕ) (d : DataDirectory) (sections : List SectionTable) (unit : ℕ) (x : ResourceView) → IsResource (record o { parse_mode = Strict }) b d sections unit (Ok x) → IsResource (record o { parse_mode = Permissive }) b d sections unit (Ok x)

same_resources : ResourceLaw → (b : List ℕ) (o : ParseOptions) (c : CoreView) (f : Field ResourceView) → demanded Strict f ≡ Ok tt → AreResourcesOf b (strict o) c f → AreResourcesOf b (permissive o) c f
same_resources law b o c f h is = grind arith

same_fields : DebugLaw → (b : List ℕ) (o : ParseOptions) (c : CoreView) (f : Field ResourceView) → demanded Strict (debug_of b (strict o) c) ≡ Ok tt → with_fields b (strict o) c f ≡ with_fields b (permissive o) c f
unfolding with_fields
same_fields law b o c f h = rw (same_debug law b o c h, same_exceptions b o c, same_relocations b o c) refl

-- ---- the image

permissive_before : HeaderLaw → (b : List ℕ) (o : ParseOptions) (c : CoreView) → core_of b (strict o) ≡ Ok c → before_resources b (permissive o) ≡ Ok c
unfolding before_resources core_of
permissive_before law b o c h = rw (after_header b o (header_at b Strict) (header_at b Permissive) c (law b) h) refl

after : HeaderLaw → DebugLaw → ResourceLaw → (b : List ℕ) (o : ParseOptions) (c : CoreView) (image : ImageView) (f : Field ResourceView) → core_of b (strict o) ≡ Ok c → first_fields_demanded b (strict o) c ≡ Ok tt → AreResourcesOf b (strict o) c f → Ok image ≡ (demanded Strict f >>= λ u. Ok (with_fields b (strict o) c f)) → IsImage b (permissive o) (Ok image)
after header debug resource b o c image f is four are given =
    let passed : demanded Strict f ≡ Ok tt = first_passed (demanded Strict f) (λ u. Ok (with_fields b (strict o) c f)) image (sym given) in
    let same : with_fields b (strict o) c f ≡ with_fields b (permissive o) c f = same_fields debug b o c f (first_passed (demanded Strict (debug_of b (strict o) c)) _ tt four) in
    let shown : Ok image ≡ Ok (with_fields b (permissive o) c f) = rw (passed, same) at given in
    rw (permissive_before header b o c is) (f, same_resources resource b o c f passed are, shown)

after_core : HeaderLaw → DebugLaw → ResourceLaw → (b : List ℕ) (o : ParseOptions) (r : Result CoreView Refusal) (image : ImageView) → before_resources b (strict o) ≡ r → IsAfterCore b (strict o) r (Ok image) → IsImage b (permissive o) (Ok image)
unfolding before_resources
after_core header debug resource b o (Ok c) image h (f, are, given) =
    let core : core_of b (strict o) ≡ Ok c = core_before b (strict o) (core_of b (strict o)) c h in
    after header debug resource b o c image f core
    (first_passed (first_fields_demanded b (strict o) c) (λ u. Ok c) c (rw core at h)) are given
after_core header debug resource b o (Err e) image h is = absurd cc

-- an image that strict mode returns is the one that permissive mode returns
strict_image : HeaderLaw → DebugLaw → ResourceLaw → (b : List ℕ) (o : ParseOptions) (image : ImageView) → IsImage b (record o { parse_mode = Strict }) (Ok image) → IsImage b (record o { parse_mode = Permissive }) (Ok image)
strict_image header debug resource b o image is = after_core header debug resource b o (before_resources b (strict o)) image refl is

pub returns : goal.returns
returns c = strict_image c.strict_headers_are_permissive.ensures c.strict_debug_data_is_permissive.ensures.whole c.strict_resources_are_permissive.ensures
