-- An image is what the calls return of its parts, in the order and by the modes of `PE`.
use Rattle.std.proofs.Common.{◌≡◌, ℕ, ◌≤◌, ◌^◌, List, [], length, Option, Some, None, Result, Ok, Err, refl, sym, ap, subst, ◌∙◌, arith}
use Rattle.pe_c.proofs.Cited.{unwrap_or, option_map, AreBytes, HeaderView, header_at, ImportRecordView, ImportView, entry_size}
use Rattle.pe_c.proofs.Cited.{Refusal, ◌>>=◌, section_map, DataDirectory, ParseMode, ParseOptions, SectionTable, CoreView, core_of}
use Rattle.pe_c.proofs.Cited.{core_with, export_data_of, exports_of, Field, IsField, IsResourceField, certificate_field}
use Rattle.pe_c.proofs.Cited.{debug_field, exception_field, given_value, relocation_field, resource_directory, ImageView}
use Rattle.pe_c.proofs.Cited.{IsAfterCore, IsImage, before_resources, demanded, first_fields_demanded, with_fields, alignment}
use Rattle.pe_c.proofs.Cited.{is_64, IsResource, ResourceView, headers_of, header_of, AreParts, IsImageOfCalls, IsImageWith, Parts}
use Rattle.pe_c.proofs.Cited.{image_of_parts, mode_of, part_by_mode, image_info_of, Image}
use Rattle.pe_image.specs.Core as core
use Rattle.pe_image.specs.Layout as layout
use Rattle.pe_c.proofs.ImageWriters.{sections_in}
use Rattle.pe_c.proofs.ImageDebugData.{debug_data_are}
use Rattle.pe_c.proofs.ImageDirectories.{certificates, exceptions, relocations}
use Rattle.pe_c.proofs.ImageExports.{exports_are}
use Rattle.pe_c.proofs.ImageFields.{Says, part_of, same_mode, says}
use Rattle.pe_c.proofs.ImageHeaders.{headers_are}
use Rattle.pe_c.proofs.ImageImports.{imports_are, imports_part}
use Rattle.pe_c.proofs.ImageResources.{resources_are}

-- ---- the parts

-- the map of RVAs of an image
abbrev map_by : ParseOptions → HeaderView → List SectionTable → ℕ → Option ℕ
map_by o h sections = section_map o sections (alignment h.optional_header)

abbrev parts_of : List ℕ → ParseOptions → HeaderView → List SectionTable → Field ResourceView → Parts
parts_of b o h sections resources = record {
  export_data = export_data_of (map_by o h sections) b (layout.directory 0 h.optional_header);
  exports = exports_of (map_by o h sections) b (export_data_of (map_by o h sections) b (layout.directory 0 h.optional_header));
  imports = imports_part (map_by o h sections) (entry_size (is_64 h.optional_header)) b (core.import_directory o h.optional_header);
  debug_data = part_of (debug_field b o sections h.optional_header);
  exception_data = part_of (exception_field b o sections h.coff_header.machine h.optional_header);
  relocation_data = part_of (relocation_field b o sections h.optional_header);
  certificates = part_of (certificate_field b o h.optional_header);
  resource_data = part_of resources;
}

are_parts : (b : List ℕ) (o : ParseOptions) (h : HeaderView) (sections : List SectionTable) (f : Field ResourceView) → AreBytes b → length b ≤ 2 ^ 63 → IsResourceField b o sections h.optional_header f →
    AreParts b o (image_info_of (mode_of o) h) sections (parts_of b o h sections f)
are_parts b o h sections f bytes small are =
    let image : Image = image_info_of (mode_of o) h in
    let machine : ℕ = h.coff_header.machine in
    let flags : ℕ = h.coff_header.characteristics in
    let s : Says o machine flags h.optional_header image = says o h in
    record {
      exports = exports_are b o machine flags h.optional_header image sections s;
      imports = imports_are b o machine flags h.optional_header image sections bytes small s;
      debug_data = debug_data_are b o machine flags h.optional_header image sections s;
      exception_data = exceptions b o machine flags h.optional_header image sections s;
      relocation_data = relocations b o machine flags h.optional_header image sections s;
      certificates = certificates b o machine flags h.optional_header image s;
      resource_data = resources_are b o machine flags h.optional_header image sections f s are;
    }

-- ---- the core

-- the core with these records and imports
abbrev core_by : List ℕ → ParseOptions → HeaderView → List SectionTable → Option (List ImportRecordView × List ImportView) → CoreView
core_by b o h sections i = record {
  header = h;
  sections = sections;
  export_data = export_data_of (map_by o h sections) b (layout.directory 0 h.optional_header);
  exports = exports_of (map_by o h sections) b (export_data_of (map_by o h sections) b (layout.directory 0 h.optional_header));
  import_data = option_map (λ x. x.0) i;
  imports = unwrap_or (option_map (λ x. x.1) i) [];
}

abbrev with_list : List ImportView → List ImportRecordView → List ImportRecordView × List ImportView
with_list list records = (records, list)

in_one : {X : Type 0} (records : List ImportRecordView) (list : Result (List ImportView) Refusal) (make : Option (List ImportRecordView) → List ImportView → X) →
    (list >>= λ is. Ok (make (Some records) is)) ≡ ((list >>= λ is. Ok (Some (with_list is records))) >>= λ i. Ok (make (option_map (λ x. x.0) i) (unwrap_or (option_map (λ x. x.1) i) [])))
in_one records list make = grind arith

-- ---- by mode

kept : {X Y : Type 0} (mode : ParseMode) (f : Field X) (k : Option X → Result Y Refusal) → (part_by_mode mode (part_of f) >>= k) ≡ (demanded mode f >>= λ u. k (given_value f))
kept mode f k = grind arith

-- five fields in turn
five : {A B C D E X : Type 0} (m : ParseMode) (a : Field A) (b : Field B) (c : Field C) (d : Field D) (e : Field E) (make : Option A → Option B → Option C → Option D → Option E → X) →
    (part_by_mode m (part_of a) >>= λ v. part_by_mode m (part_of b) >>= λ w. part_by_mode m (part_of c) >>= λ x. part_by_mode m (part_of d) >>= λ y. part_by_mode m (part_of e) >>= λ z. Ok (make v w x y z))
    ≡ ((demanded m a >>= λ u. demanded m b >>= λ u. demanded m c >>= λ u. demanded m d) >>= λ u. demanded m e >>= λ u. Ok (make (given_value a) (given_value b) (given_value c) (given_value d) (given_value e)))
five m a b c d e make = grind (arith, kept, part_of)

-- the image of the parts, where the core has these imports
by_imports : (b : List ℕ) (o : ParseOptions) (h : HeaderView) (sections : List SectionTable) (f : Field ResourceView) (i : Result (Option (List ImportRecordView × List ImportView)) Refusal) →
    image_of_parts o.parse_mode h (image_info_of (mode_of o) h) sections (record (parts_of b o h sections f) { imports = i })
    ≡ (i >>= λ i. first_fields_demanded b o (core_by b o h sections i) >>= λ u. demanded o.parse_mode f >>= λ u. Ok (with_fields b o (core_by b o h sections i) f))
unfolding image_of_parts with_fields
by_imports b o h sections f (Err e) = refl
by_imports b o h sections f (Ok i) =
    let s = says o h in
    rw (s.flags, s.wide, s.entry, s.base)
    (five o.parse_mode (debug_field b o sections h.optional_header) (exception_field b o sections h.coff_header.machine h.optional_header) (relocation_field b o sections h.optional_header) (certificate_field b o h.optional_header) f _)

image_is : (b : List ℕ) (o : ParseOptions) (h : HeaderView) (sections : List SectionTable) (f : Field ResourceView) →
    image_of_parts o.parse_mode h (image_info_of (mode_of o) h) sections (parts_of b o h sections f)
    ≡ ((parts_of b o h sections f).imports >>= λ i. first_fields_demanded b o (core_by b o h sections i) >>= λ u. demanded o.parse_mode f >>= λ u. Ok (with_fields b o (core_by b o h sections i) f))
image_is b o h sections f = by_imports b o h sections f (parts_of b o h sections f).imports

-- ---- the image

-- the law of pe_resource that there are resources
abbrev pub SomeResource : Type 0
SomeResource = (o : ParseOptions) (b : List ℕ) (d : DataDirectory) (sections : List SectionTable) (unit : ℕ) → (r : Result ResourceView Refusal) × IsResource o b d sections unit r

-- resources of an image with these headers, and the image with them
abbrev After : List ℕ → ParseOptions → HeaderView → List SectionTable → Result (Option (List ImportRecordView × List ImportView)) Refusal → Result ImageView Refusal → Type 0
After b o h sections imports r =
    (f : Field ResourceView) × IsResourceField b o sections h.optional_header f
    × (r ≡ (imports >>= λ i. first_fields_demanded b o (core_by b o h sections i) >>= λ u. demanded o.parse_mode f >>= λ u. Ok (with_fields b o (core_by b o h sections i) f)))

some_field : SomeResource → (b : List ℕ) (o : ParseOptions) (sections : List SectionTable) (unit : ℕ) (d : Option DataDirectory) → (f : Field ResourceView) × IsField (λ d r. IsResource o b d sections unit r) d f
some_field law b o sections unit None = (None, refl)
some_field law b o sections unit (Some d) = let found = law o b d sections unit in (Some found.0, found.1)

by_demanded : SomeResource → (b : List ℕ) (o : ParseOptions) (h : HeaderView) (sections : List SectionTable) (i : Option (List ImportRecordView × List ImportView)) (tests : Result (Unit {0}) Refusal) (r : Result ImageView Refusal) →
    IsAfterCore b o (tests >>= λ u. Ok (core_by b o h sections i)) r →
    (f : Field ResourceView) × IsResourceField b o sections h.optional_header f × (r ≡ (tests >>= λ u. demanded o.parse_mode f >>= λ u. Ok (with_fields b o (core_by b o h sections i) f)))
by_demanded law b o h sections i (Ok u) r is = is
by_demanded law b o h sections i (Err e) r is =
    let found = some_field law b o sections (alignment h.optional_header) (resource_directory o h.optional_header) in
    (found.0, found.1, is)

after_core : SomeResource → (b : List ℕ) (o : ParseOptions) (h : HeaderView) (sections : List SectionTable) (imports : Result (Option (List ImportRecordView × List ImportView)) Refusal) (r : Result ImageView Refusal) →
    IsAfterCore b o ((imports >>= λ i. Ok (core_by b o h sections i)) >>= λ c. first_fields_demanded b o c >>= λ u. Ok c) r → After b o h sections imports r
after_core law b o h sections (Ok i) r is = by_demanded law b o h sections i (first_fields_demanded b o (core_by b o h sections i)) r is
after_core law b o h sections (Err e) r is =
    let found = some_field law b o sections (alignment h.optional_header) (resource_directory o h.optional_header) in
    (found.0, found.1, is)

with_sections : SomeResource → (b : List ℕ) (o : ParseOptions) (h : HeaderView) (sections : List SectionTable) (r : Result ImageView Refusal) → AreBytes b → length b ≤ 2 ^ 63 → header_at b o.parse_mode ≡ Ok h →
    IsAfterCore b o (core_with b o h sections >>= λ c. first_fields_demanded b o c >>= λ u. Ok c) r → IsImageWith b o (image_info_of (mode_of o) h) (Ok sections) r
unfolding core_with
with_sections law b o h sections r bytes small e is =
    let imports = imports_part (map_by o h sections) (entry_size (is_64 h.optional_header)) b (core.import_directory o h.optional_header) in
    let after : After b o h sections imports r =
    after_core law b o h sections imports r
    (subst (λ (q : Result CoreView Refusal). IsAfterCore b o (q >>= λ c. first_fields_demanded b o c >>= λ u. Ok c) r) (grind (arith, in_one)) is) in
    let headers = headers_are b o h bytes e in
    let whole : image_of_parts o.parse_mode (header_of b (headers_of h)) (image_info_of (mode_of o) h) sections (parts_of b o h sections after.0) ≡ image_of_parts o.parse_mode h (image_info_of (mode_of o) h) sections (parts_of b o h sections after.0) =
    ap (λ (x : HeaderView). image_of_parts o.parse_mode x (image_info_of (mode_of o) h) sections (parts_of b o h sections after.0)) headers.1 in
    (headers_of h, parts_of b o h sections after.0, headers.0, are_parts b o h sections after.0 bytes small after.1, after.2 ∙ sym (whole ∙ image_is b o h sections after.0))

by_sections : SomeResource → (b : List ℕ) (o : ParseOptions) (h : HeaderView) (sections : Result (List SectionTable) Refusal) (r : Result ImageView Refusal) → AreBytes b → length b ≤ 2 ^ 63 → header_at b o.parse_mode ≡ Ok h →
    IsAfterCore b o ((sections >>= λ s. core_with b o h s) >>= λ c. first_fields_demanded b o c >>= λ u. Ok c) r → IsImageWith b o (image_info_of (mode_of o) h) sections r
by_sections law b o h sections r bytes small e is = grind (arith, with_sections)

pub image_of_calls : SomeResource → (b : List ℕ) (o : ParseOptions) (r : Result ImageView Refusal) → AreBytes b → length b ≤ 2 ^ 63 → IsImage b o r → IsImageOfCalls b o r
unfolding before_resources core_of
image_of_calls law b o r bytes small is = grind (arith, same_mode, sections_in, by_sections)
