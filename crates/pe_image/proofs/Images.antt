-- From the parts of an image, read one after the other, to the image.
use Rattle.std.proofs.Common.{◌≡◌, ℕ, List, [], Option, None, Result, Ok, Err, refl, sym, ap, ◌∙◌, arith, rules}
use Rattle.pe_image.proofs.Cited.{unwrap_or, if◌then◌else◌, Refusal, UnlessMemory, answer_by, kind_of, ◌>>=◌, Error, ParseMode}
use Rattle.pe_image.proofs.Cited.{ParseOptions, ResourceView, resource_view, ResourceData, DataDirectory, SectionTable, option_map}
use Rattle.pe_image.proofs.Cited.{layout_of, Layout, CoreView, core_of, sections_read, Field, given_value, list_by_mode, by_mode}
use Rattle.pe_image.proofs.Cited.{first_fields_in_turn, ReturnsResources, ImageView, FirstFieldsView, first_fields, image_of}
use Rattle.pe_image.proofs.Cited.{with_fields, demanded, first_fields_demanded, before_resources, AreResourcesOf, IsAfterCore}
use Rattle.pe_image.proofs.Cited.{IsImage, ReturnsImage, unless_refused, ReturnsAfterCore, PE, unless_memory, then_then}
use Rattle.std.specs.Prelude.{IsOk}
use Rattle.pe_image.proofs.SectionsFirst.{sections_of_core}
use Rattle.pe_image.proofs.Steps.{refused_test, passed_test, still_passes, unless_more, if_memory}

-- ---- fields in turn

-- to read a field by mode is to demand it and to take its value or nothing
kept : {X Y : Type 0} (mode : ParseMode) (f : Field X) (k : Option X → Result Y Refusal) → (by_mode mode f >>= k) ≡ (demanded mode f >>= λ u. k (given_value f))
kept mode f k = grind arith

kept_list : {X Y : Type 0} (mode : ParseMode) (f : Field (List X)) (k : List X → Result Y Refusal) → (list_by_mode mode f >>= k) ≡ (demanded mode f >>= λ u. k (unwrap_or (given_value f) []))
kept_list mode f k = grind arith

-- the fields before the resources, read in turn, are these fields, unless one is demanded and refused
in_turn : (b : List ℕ) (opts : ParseOptions) (c : CoreView) → first_fields_in_turn b opts c ≡ (first_fields_demanded b opts c >>= λ u. Ok (first_fields b opts c))
unfolding first_fields_in_turn
in_turn b opts c = simp (kept, kept_list, then_then)

-- ---- what is refused, and what is not

after_refusal : (b : List ℕ) (opts : ParseOptions) (r : Result CoreView Refusal) (e : Refusal) → r ≡ Err e → IsAfterCore b opts r (Err e)
after_refusal b opts r e h = grind arith

after_core : (b : List ℕ) (opts : ParseOptions) (r : Result CoreView Refusal) (c : CoreView) (f : Field ResourceView) (answer : Result ImageView Refusal) → r ≡ Ok c → AreResourcesOf b opts c f → answer ≡ (demanded opts.parse_mode f >>= λ u. Ok (with_fields b opts c f)) → IsAfterCore b opts r answer
after_core b opts r c f answer given are is = rw given (f, are, is)

pub first_refused_unless : (b : List ℕ) (opts : ParseOptions) (c : CoreView) (e : Error) → UnlessMemory e (first_fields_in_turn b opts c ≡ Err (kind_of e)) → UnlessMemory e (IsAfterCore b opts (unless_refused b opts c) (Err (kind_of e)))
first_refused_unless b opts c e h = search (rules, arith, unless_more, refused_test, in_turn, after_refusal)

demanded_passed : {X : Type 0} (mode : ParseMode) (f : Field X) (x : Option X) → Ok x ≡ by_mode mode f → demanded mode f ≡ Ok tt
demanded_passed mode f x h = grind arith

pub last_refused : (b : List ℕ) (opts : ParseOptions) (c : CoreView) (first : FirstFieldsView) (f : Field ResourceView) (e : Refusal) → first_fields_in_turn b opts c ≡ Ok first → AreResourcesOf b opts c f → Err e ≡ by_mode opts.parse_mode f → IsAfterCore b opts (unless_refused b opts c) (Err e)
last_refused b opts c first f e h are refused = search (rules, arith, after_core, still_passes, in_turn)

pub accepted : (b : List ℕ) (opts : ParseOptions) (c : CoreView) (first : FirstFieldsView) (f : Field ResourceView) (resources : Option ResourceView) → first_fields_in_turn b opts c ≡ Ok first → AreResourcesOf b opts c f → Ok resources ≡ by_mode opts.parse_mode f → IsAfterCore b opts (unless_refused b opts c) (Ok (image_of c first resources))
unfolding with_fields
accepted b opts c first f resources h are given =
    let fields : first_fields b opts c ≡ first = passed_test (first_fields_demanded b opts c) (first_fields b opts c) first (sym (in_turn b opts c) ∙ h) in
    let same : with_fields b opts c f ≡ image_of c first resources = (ap (λ first. image_of c first (given_value f)) fields ∙ ap (λ resources. image_of c first resources) (grind arith)) in
    after_core b opts (unless_refused b opts c) c f (Ok (image_of c first resources))
    (still_passes (first_fields_demanded b opts c) (first_fields b opts c) first c (sym (in_turn b opts c) ∙ h))
    are (rw (demanded_passed opts.parse_mode f resources given) (ap (λ x. Ok x) (sym same)))

-- ---- from the core on

pub core_refused : (b : List ℕ) (opts : ParseOptions) (e : Refusal) → core_of b opts ≡ Err e → IsImage b opts (Err e)
unfolding before_resources
core_refused b opts e h = after_refusal b opts (core_of b opts >>= λ c. unless_refused b opts c) e (rw h refl)

-- where an image has a core, its section headers were there before
pub core_refused_unless : (b : List ℕ) (opts : ParseOptions) (e : Error) → UnlessMemory e (core_of b opts ≡ Err (kind_of e)) → UnlessMemory e (IsImage b opts (Err (kind_of e)))
core_refused_unless b opts e h = unless_more e (core_of b opts ≡ Err (kind_of e)) (IsImage b opts (Err (kind_of e))) (core_refused b opts (kind_of e)) h

-- where an image has a core, its section headers were there before
pub sections_first : (b : List ℕ) (opts : ParseOptions) (c : CoreView) → core_of b opts ≡ Ok c → IsOk (sections_read b opts)
sections_first b opts c given = rw (sections_of_core b opts c given) refl

pub with_core : (b : List ℕ) (opts : ParseOptions) (c : CoreView) (r : Result ImageView Refusal) → core_of b opts ≡ Ok c → IsAfterCore b opts (unless_refused b opts c) r → IsImage b opts r
unfolding before_resources
with_core b opts c r given is = rw given is

pub from_core : {Z : Type 0} (b : List ℕ) (opts : ParseOptions) (c : CoreView) (r : Result (PE Z) Error) → core_of b opts ≡ Ok c → ReturnsAfterCore b opts c r → ReturnsImage b opts r
from_core b opts c r given is = grind (arith, with_core, unless_more, if_memory, sections_first)

-- ---- the resources, as they are read

-- the directory of the resources in the layout of an image
abbrev directory_in : ParseOptions → Layout → Option DataDirectory
directory_in opts layout = if opts.parse_resources then layout.resources else None

read_of : (b : List ℕ) (opts : ParseOptions) (c : CoreView) (layout : Layout) (sections : List SectionTable) (answer : Result (Option ResourceData) Error) → layout ≡ layout_of c.header.optional_header → sections ≡ c.sections → ReturnsResources opts b sections layout.file_alignment (directory_in opts layout) answer → (f : Field ResourceView) × AreResourcesOf b opts c f × (answer_by (option_map resource_view) answer ≡ by_mode opts.parse_mode f)
unfolding layout_of
read_of b opts c layout sections answer lay sec given = rw (lay, sec) at given

pub last_answer_refused : (b : List ℕ) (opts : ParseOptions) (c : CoreView) (first : FirstFieldsView) (layout : Layout) (sections : List SectionTable) (e : Error) → first_fields_in_turn b opts c ≡ Ok first → layout ≡ layout_of c.header.optional_header → sections ≡ c.sections → ReturnsResources opts b sections layout.file_alignment (directory_in opts layout) (Err e) → UnlessMemory e (IsAfterCore b opts (unless_refused b opts c) (Err (kind_of e)))
last_answer_refused b opts c first layout sections e h lay sec given =
    let (f, are, same) = read_of b opts c layout sections (Err e) lay sec given in
    unless_memory e (IsAfterCore b opts (unless_refused b opts c) (Err (kind_of e))) (last_refused b opts c first f (kind_of e) h are same)

pub last_answer : (b : List ℕ) (opts : ParseOptions) (c : CoreView) (first : FirstFieldsView) (layout : Layout) (sections : List SectionTable) (resources : Option ResourceData) (image : ImageView) → first_fields_in_turn b opts c ≡ Ok first → layout ≡ layout_of c.header.optional_header → sections ≡ c.sections → ReturnsResources opts b sections layout.file_alignment (directory_in opts layout) (Ok resources) → image ≡ image_of c first (option_map resource_view resources) → IsAfterCore b opts (unless_refused b opts c) (Ok image)
last_answer b opts c first layout sections resources image h lay sec given seen =
    let (f, are, same) = read_of b opts c layout sections (Ok resources) lay sec given in
    rw seen (accepted b opts c first f (option_map resource_view resources) h are same)
