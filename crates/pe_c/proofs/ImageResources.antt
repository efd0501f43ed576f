-- Resources: what calls return of the resource tree, of the version information and of the manifest is what an image has.
use Rattle.std.proofs.Common.{◌≡◌, ℕ, ◌+◌, ◌≤◌, Bool, false, List, [], length, Option, Some, None, Result, Ok, Err, refl, sym, ap, subst, ◌∙◌, arith}
use Rattle.pe_c.proofs.Cited.{◌*◌, ◌/◌, nat_le, if◌then◌else◌, option_map, places, held_if_inside, inside_if_held, length_range}
use Rattle.pe_c.proofs.Cited.{range_in_range, given, same_inside, holds, range, record_at, OptionalHeaderView, IsWithin, bytes_in}
use Rattle.pe_c.proofs.Cited.{is_permissive, Refusal, ResourceBounds, Short, ◌>>=◌, section_map, ByteRange, DataDirectory}
use Rattle.pe_c.proofs.Cited.{ParseMode, ParseOptions, SectionTable, Field, IsField, IsResourceField, alignment, IsContentRange}
use Rattle.pe_c.proofs.Cited.{content_of, file_bytes, file_range, inner, map_of, named_range, range_in, version_of_content}
use Rattle.pe_c.proofs.Cited.{VsFixedFileInfo, tested, root_at, root_of, AreResources, AreResourcesBy, AreResourcesUnless}
use Rattle.pe_c.proofs.Cited.{AreStrings, IsVersionAt, IsVersionBy, is_left_out, directory, is_absent, or_absent, options_of}
use Rattle.pe_c.proofs.Cited.{range_of, IsContentBy, IsContentOf, content_at, fixed_at, fixed_in, value_at, Image}
use Rattle.pe_resource.proofs.ContentRanges.{version_named}
use Rattle.pe_resource.proofs.Entries.{entries_count}
use Rattle.pe_resource.proofs.ValueRanges.{inner_bytes}
use Rattle.pe_resource.specs.Directories.{count, directory_at, directory_at_offset, directory_of}
use Rattle.pe_resource.specs.LeafPositions.{first_position, start_in}
use Rattle.pe_resource.specs.ResourceEntries.{entries}
use Rattle.pe_resource.specs.Resources.{AreResources as AreIn, FirstDirectoryView, IsOfFirst, IsResource, ResourceView, first_directory, first_entries_in, no_resources, resources_with}
use Rattle.pe_resource.specs.VersionFields.{VersionView, file_strings, fixed_info_of, version_in}
use Rattle.pe_resource.specs.VersionStrings.{read, strings}
use Rattle.pe_resource.specs.declared.directory.ImageResourceDirectory.{ImageResourceDirectory}
use Rattle.pe_c.proofs.ImageFields.{IsThere as HasDirectory, Says, part_of, there}
use Rattle.calls_base.proofs.ResourceRoots.{some_inside}
use Rattle.calls_base.specs.Images as images
use Rattle.calls_directories.specs.ResourceLeaves.{walk_at}
use Rattle.calls_directories.specs.declared.directories.tables.ResourceDirectory.{ResourceDirectory}

-- ---- a content lies in the bytes

pub content_within : (map : ℕ → Option ℕ) (b body : List ℕ) (leaf : Result (Option ℕ) Refusal) (r : ByteRange) → Ok (Some r) ≡ (leaf >>= range_in map b body) → IsWithin b r
unfolding named_range
content_within map b body leaf r h = grind (arith, given, tested, inside_if_held)

-- ---- version information

pub content_is : (b : List ℕ) (c : ByteRange) → IsWithin b c → content_at b (range_of c) ≡ Ok c
content_is b c h = rw (held_if_inside b c.offset c.length h) refl

strings_are : (b : List ℕ) (c : ByteRange) (v : VersionView) → IsWithin b c → version_in (bytes_in b c) ≡ Ok v → AreStrings b (range_of c) v.strings
strings_are b c v h is = λ name.
    let found = version_named (bytes_in b c) v name is in (
      option_map (λ r. range_of (inner c r)) found.0,
      ap (λ (r : Result ByteRange Refusal). r >>= λ c. value_at b name (Some c)) (content_is b c h) ∙ ap (λ (r : Result (Option ByteRange) Refusal). r >>= λ r. Ok (option_map (λ r. range_of (inner c r)) r)) found.1,
      (grind (arith, inner_bytes, found.2)),
    )

fixed_is : (b : List ℕ) (c : ByteRange) → IsWithin b c → fixed_in b (range_of c) ≡ fixed_info_of (bytes_in b c)
fixed_is b c h = ap (λ (r : Result ByteRange Refusal). r >>= λ c. fixed_at b (Some c)) (content_is b c h)

version_by : (b : List ℕ) (c : ByteRange) (fixed : Result (Option VsFixedFileInfo) Refusal) → IsWithin b c → fixed_info_of (bytes_in b c) ≡ fixed → IsVersionBy b (range_of c) fixed (version_of_content (Some (bytes_in b c)))
unfolding version_in
version_by b c (Err e) h is = rw is refl
version_by b c (Ok fixed) h is =
    let made : VersionView = record { fixed_info = fixed; strings = file_strings (read (strings (bytes_in b c))) } in
    (made.strings, strings_are b c made h (rw is refl), rw is refl)

version_at : (b : List ℕ) (content : Result (Option ByteRange) Refusal) → ((c : ByteRange) → content ≡ Ok (Some c) → IsWithin b c) →
    IsVersionAt b content ((content >>= λ c. Ok (content_of b c)) >>= version_of_content)
version_at b (Err e) h = refl
version_at b (Ok None) h = refl
version_at b (Ok (Some c)) h =
    subst (λ (r : Result (Option VsFixedFileInfo) Refusal). IsVersionBy b (range_of c) r (version_of_content (Some (bytes_in b c)))) (sym (fixed_is b c (h c refl)))
    (version_by b c (fixed_info_of (bytes_in b c)) (h c refl) refl)

-- ---- the first directory

-- where it stands: its data, its entries and itself
record StandsAt (b : List ℕ) (size : ℕ) (at : Option ℕ) (d : FirstDirectoryView) (p : ℕ) : Type 0 where
  mapped_to : at ≡ Some p
  within : p + size ≤ length b
  itself : d.directory ≡ directory_of b p
  its_entries : d.entries ≡ entries (range b (p + 16) (8 * length d.entries))

no_entries : (b : List ℕ) (p : ℕ) → entries [] ≡ entries (range b (p + 16) (8 * length (entries [])))
no_entries b p = grind (arith, entries_count, places)

its_bytes : (b : List ℕ) (p size n : ℕ) → p + size ≤ length b → 16 + 8 * n ≤ size → entries (range (range b p size) 16 (8 * n)) ≡ entries (range b (p + 16) (8 * length (entries (range (range b p size) 16 (8 * n)))))
its_bytes b p size n h i =
    let body : length (range b p size) ≡ size = length_range b p size h in
    let long : length (range (range b p size) 16 (8 * n)) ≡ 8 * n = length_range (range b p size) 16 (8 * n) (omega (arith, body, i)) in
    let eighth : 8 * n / 8 ≡ n = omega arith in
    let many : length (entries (range (range b p size) 16 (8 * n))) ≡ n = entries_count (range (range b p size) 16 (8 * n)) ∙ ap (λ (k : ℕ). k / 8) long ∙ eighth in
    ap entries (sym (range_in_range b p size 16 (8 * n) h i) ∙ ap (λ (k : ℕ). range b (p + 16) (8 * k)) (sym many))

made_by : (d : ImageResourceDirectory) (body t : List ℕ) (x : FirstDirectoryView) → record { directory = d; bytes = body; entries = entries t } ≡ x → (d ≡ x.directory) × (entries t ≡ x.entries)
made_by d body t x e = (ap (λ (y : FirstDirectoryView). y.directory) e, ap (λ (y : FirstDirectoryView). y.entries) e)

table_by : (mode : ParseMode) (b : List ℕ) (p size : ℕ) (d : ImageResourceDirectory) (x : FirstDirectoryView) (long whole permissive : Bool) → p + size ≤ length b → holds (range b p size) 16 (8 * count d) ≡ whole →
    ((if long then (if whole then Ok (Some (range (range b p size) 16 (8 * count d))) else (if permissive then Ok (Some []) else Err ResourceBounds)) else (if permissive then Ok None else Err ResourceBounds))
    >>= λ table. Ok (option_map (λ t. record { directory = d; bytes = range b p size; entries = entries t }) table)) ≡ Ok (Some x) →
    (x.directory ≡ d) × (x.entries ≡ entries (range b (p + 16) (8 * length x.entries)))
table_by mode b p size d x long whole permissive h is e =
    grind (arith, made_by, some_inside, inside_if_held, length_range, its_bytes, no_entries)

at_offset : (mode : ParseMode) (b : List ℕ) (size : ℕ) (at : Option ℕ) (x : FirstDirectoryView) →
    (directory_at_offset b at >>= λ d. file_bytes b size at >>= λ bytes. first_entries_in mode bytes d >>= λ table. Ok (option_map (λ t. record { directory = d; bytes = bytes; entries = entries t }) table)) ≡ Ok (Some x) →
    (p : ℕ) × StandsAt b size at x p
unfolding first_entries_in
at_offset mode b size None x e = absurd cc
at_offset mode b size (Some p) x e =
    let directory = given (record_at b p 16 (directory_of b p)) _ (Some x) e in
    let bytes = given (file_bytes b size (Some p)) _ (Some x) directory.2 in
    let is = tested (holds b p 16) Short (directory_of b p) directory.0 directory.1 in
    let found = given (file_range b size (Some p)) (λ r. Ok (bytes_in b r)) bytes.0 bytes.1 in
    let here = tested (holds b p size) ResourceBounds (record { offset = p; length = size }) found.0 found.1 in
    let within : p + size ≤ length b = inside_if_held b p size here.0 in
    let body : range b p size ≡ bytes.0 = ap (bytes_in b) here.1 ∙ same_inside (bytes_in b found.0) bytes.0 found.2 in
    let all = subst (λ (d : ImageResourceDirectory). (first_entries_in mode (range b p size) d >>= λ table. Ok (option_map (λ t. record { directory = d; bytes = range b p size; entries = entries t }) table)) ≡ Ok (Some x)) (sym is.1)
    (subst (λ (body : List ℕ). (first_entries_in mode body directory.0 >>= λ table. Ok (option_map (λ t. record { directory = directory.0; bytes = body; entries = entries t }) table)) ≡ Ok (Some x)) (sym body) bytes.2) in
    let table = table_by mode b p size (directory_of b p) x (nat_le 16 (length (range b p size))) (holds (range b p size) 16 (8 * count (directory_of b p))) (is_permissive mode) within refl all in
    (p, record { mapped_to = refl; within = within; itself = table.0; its_entries = table.1 })

first_stands : (o : ParseOptions) (b : List ℕ) (d : DataDirectory) (sections : List SectionTable) (unit : ℕ) (x : FirstDirectoryView) → first_directory o b d sections unit ≡ Ok (Some x) →
    (p : ℕ) × StandsAt b d.size (section_map o sections unit d.virtual_address) x p
unfolding first_directory directory_at
first_stands o b d sections unit x e = at_offset o.parse_mode b d.size (section_map o sections unit d.virtual_address) x e

-- ---- the resources of a tree

-- the first directory that the call returns
abbrev root_by : List ℕ → ℕ → ℕ → FirstDirectoryView → ResourceDirectory
root_by b p size d = root_of b (walk_at (range_of (record { offset = p; length = size })) (first_position d))

tree_by : (b : List ℕ) (image : Image) (sections : List SectionTable) (d : FirstDirectoryView) (p : ℕ) (r : Result ResourceView Refusal) → is_absent (images.resource_directory image) ≡ false →
    first_directory (options_of image.mode) b (images.resource_directory image) sections image.file_alignment ≡ Ok (Some d) →
    StandsAt b (images.resource_directory image).size (section_map (options_of image.mode) sections image.file_alignment (images.resource_directory image).virtual_address) d p →
    AreIn (map_of (options_of image.mode) sections image.file_alignment) b d r →
    AreResourcesBy b image sections (Ok (Some (root_by b p (images.resource_directory image).size d))) (r >>= λ x. Ok (Some x))
tree_by b image sections d p r h first stands are =
    let map = map_of (options_of image.mode) sections image.file_alignment in
    let version = are.2 in
    let manifest = are.3 in
    let content : Result (Option ByteRange) Refusal = version.1.0 in
    let is_content : (id : ℕ) (c : Result (Option ByteRange) Refusal) → IsContentRange map b d.bytes d.entries id c → IsContentOf b image (λ _. sections) image.mode id c = λ id c is.
    subst (λ (absent : Bool). IsContentBy absent (options_of image.mode) b image (λ _. sections) id c) (sym h)
    (subst (λ (q : Result (Option FirstDirectoryView) Refusal). IsOfFirst None (λ x. IsContentRange map b x.bytes x.entries id) q c) (sym first) is) in
    let of_version : are.0 ≡ ((content >>= λ c. Ok (content_of b c)) >>= version_of_content) = version.2 ∙ ap (λ (c : Result (Option (List ℕ)) Refusal). c >>= version_of_content) version.1.2 in (
      content,
      are.0,
      manifest.0,
      is_content 16 content version.1.1,
      subst (IsVersionAt b content) (sym of_version) (version_at b content (λ c is. content_within map b d.bytes version.1.1.0 c (sym is ∙ version.1.1.2))),
      is_content 24 manifest.0 manifest.1,
      ap (λ (x : Result ResourceView Refusal). x >>= λ y. Ok (Some y)) (are.4 ∙ ap (resources_with d are.0) manifest.2) ∙ grind (arith, stands.itself, stands.its_entries),
    )

-- what the call returns where the directory is there
started : (b : List ℕ) (image : Image) (sections : List SectionTable) (q : Result (Option FirstDirectoryView) Refusal) → is_absent (images.resource_directory image) ≡ false →
    first_directory (options_of image.mode) b (images.resource_directory image) sections image.file_alignment ≡ q →
    root_at b image sections
    ≡ (((q >>= start_in (file_range b (images.resource_directory image).size (map_of (options_of image.mode) sections image.file_alignment (images.resource_directory image).virtual_address))) >>= λ found. Ok (option_map (λ x. walk_at (range_of x.0) x.1) found))
    >>= λ walk. Ok (option_map (root_of b) walk))
started b image sections q h first = rw h (rw first refl)

held_range : (b : List ℕ) (size p : ℕ) (at : Option ℕ) → at ≡ Some p → p + size ≤ length b → file_range b size at ≡ Ok (record { offset = p; length = size })
held_range b size p at e h = rw e (rw (held_if_inside b p size h) refl)

by_first : (b : List ℕ) (image : Image) (sections : List SectionTable) (q : Result (Option FirstDirectoryView) Refusal) (r : Result ResourceView Refusal) → is_absent (images.resource_directory image) ≡ false →
    first_directory (options_of image.mode) b (images.resource_directory image) sections image.file_alignment ≡ q →
    IsOfFirst no_resources (AreIn (map_of (options_of image.mode) sections image.file_alignment) b) q r → AreResourcesBy b image sections (root_at b image sections) (r >>= λ x. Ok (Some x))
by_first b image sections q r h first is = grind (arith, started, first_stands, held_range, tree_by)

by_directory : (b : List ℕ) (o : ParseOptions) (machine flags : ℕ) (header : Option OptionalHeaderView) (image : Image) (sections : List SectionTable) (d : Option DataDirectory) (wanted : Bool) (f : Field ResourceView) →
    Says o machine flags header image → HasDirectory d → directory image 2 ≡ or_absent d → IsField (λ d r. IsResource o b d sections (alignment header) r) (if wanted then d else None) f →
    AreResourcesUnless (is_left_out wanted (directory image 2)) b image sections (part_of f)
unfolding first_directory directory_at
by_directory b o machine flags header image sections d wanted f s h e is = grind (arith, part_of, there, by_first)

pub resources_are : (b : List ℕ) (o : ParseOptions) (machine flags : ℕ) (header : Option OptionalHeaderView) (image : Image) (sections : List SectionTable) (f : Field ResourceView) → Says o machine flags header image →
    IsResourceField b o sections header f → AreResources o.parse_resources b image sections (part_of f)
resources_are b o machine flags header image sections f s is = grind (arith, by_directory, there)
