-- What is read at an RVA depends on the sections by its offset alone; so it is the same by an index of the sections, which maps the RVA
-- as they do.
use Rattle.std.proofs.Common.{◌≡◌, ℕ, Bool, true, false, List, Option, None, Result, subst, arith}
use Rattle.std.proofs.Math.Path.{fun_ext}
use Rattle.pe_core.specs.Refusals.{Refusal}
use Rattle.pe_core.specs.declared.byte_range.ByteRange.{ByteRange}
use Rattle.pe_core.specs.declared.section_table.SectionTable.{SectionTable}
use Rattle.pe_directories.specs.Clr.{clr_header}
use Rattle.pe_directories.specs.ImageParts.{offset_of_va}
use Rattle.pe_directories.specs.LoadConfig.{load_config}
use Rattle.pe_directories.specs.Tls.{tls_directory}
use Rattle.pe_directories.specs.declared.clr.ClrHeader.{ClrHeader}
use Rattle.pe_directories.specs.declared.tls.TlsDirectory.{TlsDirectory}
use Rattle.pe_records.specs.DebugDirectory.{directory_range, directory_table}
use Rattle.pe_resource.specs.Directories.{directory_at}
use Rattle.pe_resource.specs.Contents.{IsContentRange}
use Rattle.pe_resource.specs.ResourceEntries.{entries}
use Rattle.pe_resource.specs.Resources.{FirstDirectoryView, IsOfFirst, first_directory}
use Rattle.pe_unwind.specs.ExceptionTable.{exception_at}
use Rattle.calls_directories.specs.Clr.{clr_header_at, clr_metadata_at}
use Rattle.calls_headers.specs.Debug.{debug_entries_range, first_entry}
use Rattle.calls_base.specs.Directories.{callbacks_at, image_parts, table_at, tls_at, va_offset}
use Rattle.calls_failures.specs.DirectoryFailures.{directory_refusal}
use Rattle.calls_directories.specs.DirectoryTables.{root_at}
use Rattle.calls_directories.specs.GuardTables.{guard_table_at}
use Rattle.calls_base.specs.Images.{directory, is_absent, map_by, map_of_image, resource_directory}
use Rattle.calls_base.specs.Modes.{options_of}
use Rattle.calls_directories.specs.LoadConfigs.{load_config_at, numbered_field_at}
use Rattle.calls_base.specs.Loaded.{relocated_by}
use Rattle.calls_directories.specs.ResourceLeaves.{image_tree, leaves_start}
use Rattle.calls_base.specs.SectionIndexes.{HasIndex, SameByAny, SameByIndex}
use Rattle.calls_unwind.specs.Unwinding.{exception_table_at}
use Rattle.calls_directories.specs.Versions.{IsContentBy, IsContentOf}
use Rattle.calls_base.specs.Views.{directory_sections, may_map}
use Rattle.calls_base.specs.declared.image.Image.{Image}
use Rattle.calls_base.specs.declared.view.View.{View}

-- ---- what is read at the RVA of a directory

-- by sections that map the RVA of this directory to the same offset
abbrev pub Alike : {Y : Type 0} → (List ℕ → Image → List SectionTable → Y) → ℕ → Type 0
Alike call i = (b : List ℕ) (image : Image) (s t : List SectionTable) →
    map_of_image image s (directory image i).virtual_address ≡ map_of_image image t (directory image i).virtual_address → call b image s ≡ call b image t

by_index : {Y : Type 0} (call : List ℕ → Image → List SectionTable → Y) (i : ℕ) → Alike call i → SameByIndex call i
by_index call i same v h = same v.bytes.now v.image.now (directory_sections v i) v.sections.now (h.maps (directory v.image.now i).virtual_address)

pub tables : (i : ℕ) → SameByIndex (table_at i) i
tables i = grind (arith, by_index)

pub relocations : (difference : ℕ) (old : List ℕ) → SameByIndex (λ b image s. relocated_by b image s difference old) 5
relocations difference old = grind (arith, by_index)

tls_alike : Alike tls_at 9
unfolding tls_directory
tls_alike b image s t e = let same : tls_at b image s ≡ tls_at b image t = cc in same

pub tls : SameByIndex tls_at 9
tls = by_index tls_at 9 tls_alike

config_alike : (b : List ℕ) (image : Image) (s t : List SectionTable) →
    map_of_image image s (directory image 10).virtual_address ≡ map_of_image image t (directory image 10).virtual_address → load_config (image_parts b image s) (directory image 10) ≡ load_config (image_parts b image t) (directory image 10)
unfolding load_config
config_alike b image s t e = let same : load_config (image_parts b image s) (directory image 10) ≡ load_config (image_parts b image t) (directory image 10) = cc in same

pub load_configs : SameByIndex load_config_at 10
load_configs = grind (arith, by_index, config_alike)

pub fields : (n : ℕ) → SameByIndex (numbered_field_at n) 10
fields n = grind (arith, by_index, config_alike)

clr_headers_alike : Alike clr_header_at 14
unfolding clr_header
clr_headers_alike b image s t e = let same : clr_header_at b image s ≡ clr_header_at b image t = cc in same

pub clr_headers : SameByIndex clr_header_at 14
clr_headers = by_index clr_header_at 14 clr_headers_alike

debug_entries_alike : Alike (λ b image s. debug_entries_range b image s image.mode) 6
unfolding debug_entries_range directory_range
debug_entries_alike b image s t e = let same : debug_entries_range b image s image.mode ≡ debug_entries_range b image t image.mode = cc in same

pub debug_entries : SameByIndex (λ b image s. debug_entries_range b image s image.mode) 6
debug_entries = by_index (λ b image s. debug_entries_range b image s image.mode) 6 debug_entries_alike

first_entries_alike : (kind : ℕ) → Alike (λ b image s. first_entry b image s kind) 6
unfolding first_entry directory_table directory_range
first_entries_alike kind b image s t e = let same : first_entry b image s kind ≡ first_entry b image t kind = cc in same

pub first_entries : (kind : ℕ) → SameByIndex (λ b image s. first_entry b image s kind) 6
first_entries kind = by_index (λ b image s. first_entry b image s kind) 6 (first_entries_alike kind)

functions_alike : (machine width : ℕ) → Alike (λ b image s. exception_table_at machine width b image s image.mode) 3
unfolding exception_table_at exception_at
functions_alike machine width b image s t e = let same : exception_table_at machine width b image s image.mode ≡ exception_table_at machine width b image t image.mode = cc in same

pub functions : (machine width : ℕ) → SameByIndex (λ b image s. exception_table_at machine width b image s image.mode) 3
functions machine width = by_index (λ b image s. exception_table_at machine width b image s image.mode) 3 (functions_alike machine width)

first_alike : (b : List ℕ) (image : Image) (s t : List SectionTable) →
    map_of_image image s (resource_directory image).virtual_address ≡ map_of_image image t (resource_directory image).virtual_address →
    first_directory (options_of image.mode) b (resource_directory image) s image.file_alignment ≡ first_directory (options_of image.mode) b (resource_directory image) t image.file_alignment
unfolding first_directory directory_at
first_alike b image s t e = grind arith

leaves_alike : Alike leaves_start 2
leaves_alike b image s t e = let first = first_alike b image s t e in let same : leaves_start b image s ≡ leaves_start b image t = cc in same

pub leaves : SameByIndex leaves_start 2
leaves = by_index leaves_start 2 leaves_alike

pub trees : SameByIndex image_tree 2
trees = grind (arith, by_index, first_alike)

pub roots : SameByIndex root_at 2
roots = grind (arith, by_index, leaves_alike)

-- ---- what is read at other RVAs

pub metadata : (h : ClrHeader) → SameByAny (λ b image may_map. clr_metadata_at b image (may_map h.metadata.virtual_address) h)
metadata h = grind arith

addresses : (va : ℕ) → SameByAny (λ b image may_map. va_offset b image may_map va)
unfolding offset_of_va
addresses va = grind arith

pub callbacks : (t : TlsDirectory) → SameByAny (λ b image may_map. callbacks_at b image may_map t)
callbacks t = grind (arith, addresses)

pub guard_tables : (n : ℕ) → SameByAny (guard_table_at n)
guard_tables n = grind (arith, config_alike, fun_ext, addresses)

contents_alike : (absent : Bool) (b : List ℕ) (image : Image) (may_map : ℕ → List SectionTable) (t : List SectionTable) (id : ℕ) (r : Result (Option ByteRange) Refusal) →
    map_by image may_map ≡ map_of_image image t →
    first_directory (options_of image.mode) b (resource_directory image) (may_map (resource_directory image).virtual_address) image.file_alignment ≡ first_directory (options_of image.mode) b (resource_directory image) t image.file_alignment →
    IsContentBy absent (options_of image.mode) b image may_map id r → IsContentBy absent (options_of image.mode) b image (λ _. t) id r
contents_alike true b image may_map t id r map first is = is
contents_alike false b image may_map t id r map first is =
    subst (λ (offset : ℕ → Option ℕ). IsOfFirst None (λ d. IsContentRange offset b d.bytes d.entries id) (first_directory (options_of image.mode) b (resource_directory image) t image.file_alignment) r) map
    (subst (λ (f : Result (Option FirstDirectoryView) Refusal). IsOfFirst None (λ d. IsContentRange (map_by image may_map) b d.bytes d.entries id) f r) first is)

pub contents : (v : View) → HasIndex v → (id : ℕ) (r : Result (Option ByteRange) Refusal) →
    IsContentOf v.bytes.now v.image.now (may_map v) v.image.now.mode id r → IsContentOf v.bytes.now v.image.now (λ _. v.sections.now) v.image.now.mode id r
contents v h id r is =
    let d = resource_directory v.image.now in
    let map : map_by v.image.now (may_map v) ≡ map_of_image v.image.now v.sections.now = fun_ext h.maps in
    let first = first_alike v.bytes.now v.image.now (may_map v d.virtual_address) v.sections.now (h.maps d.virtual_address) in
    contents_alike (is_absent d) v.bytes.now v.image.now (may_map v) v.sections.now id r map first is

pub refusals : (i : ℕ) → SameByAny (directory_refusal i)
unfolding directory_refusal
refusals i v h =
    let map : map_by v.image.now (may_map v) ≡ map_of_image v.image.now v.sections.now = fun_ext h.maps in
    let a = leaves v h in
    let b = functions 34404 12 v h in
    let c = functions 43620 8 v h in
    let d = tables 5 v h in
    let e = debug_entries v h in
    let f = tls v h in
    let g = load_configs v h in
    let j = tables 13 v h in
    let k = clr_headers v h in
    let same : directory_refusal i v.bytes.now v.image.now (may_map v) ≡ directory_refusal i v.bytes.now v.image.now (λ _. v.sections.now) = cc in
    same
