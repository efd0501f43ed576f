-- Debug records by themselves: which bytes the record of an entry has, and what images have in common that differ elsewhere.
use Rattle.std.specs.Prelude.{◌≡◌, ℕ, ◌+◌, ◌<◌, ◌==◌, ◌⊎◌, List, length, slice_index, false, Option, Some, None, Result, Ok, if◌then◌else◌, Bool, true}
use Rattle.std.specs.List.{AllZip}
use Rattle.std.specs.Option.{IsSome}
use Rattle.pe_core.specs.Bytes.{le}
use Rattle.pe_core.specs.Refusals.{Refusal, ◌>>=◌}
use Rattle.pe_core.specs.declared.options.ParseOptions.{ParseOptions}
use Rattle.pe_core.specs.declared.section_table.SectionTable.{SectionTable}
use Rattle.pe_records.specs.DebugDirectory.{directory_table, whole_debug_entries}
use Rattle.pe_records.specs.DebugRecords.{DebugFields, debug_data, record_offset}
use Rattle.pe_records.specs.declared.debug.ImageDebugDirectory.{ImageDebugDirectory}
use Rattle.calls_headers.specs.Debug.{first_entry, read_first}
use Rattle.calls_base.specs.Images.{debug_directory, is_absent}
use Rattle.calls_base.specs.Modes.{options_of, resolves}
use Rattle.calls_base.specs.Ranges.{IsPart}
use Rattle.calls_base.specs.declared.image.Image.{Image}
use Rattle.calls_base.specs.declared.ranges.Range.{Range}
use Rattle.pe_resource.specs.declared.version.VersionName.{VersionName}
use Rattle.pe_resource.specs.declared.version.VsFixedFileInfo.{VsFixedFileInfo}
use Rattle.calls_base.specs.HandsOut.{HandsOutIf}
use Rattle.calls_directories.specs.VersionBlocks.{HandsOutBlocks}
use Rattle.calls_directories.specs.Versions.{HandsOutFixed, HandsOutText, fixed_in, text_in}
use Rattle.calls_base.specs.declared.results.TheConstants.{DONE}

-- ---- the bytes of a record, as many from its offset on

-- as many as the entry says
abbrev pub by_size : List ℕ → ℕ → ImageDebugDirectory → ℕ
by_size b mode e = e.size_of_data

-- a signature of 4 bytes, and as many as the entry says
abbrev pub by_signature : List ℕ → ℕ → ImageDebugDirectory → ℕ
by_signature b mode e = 4 + e.size_of_data

-- so many, whatever the entry says
abbrev pub by_kind : ℕ → List ℕ → ℕ → ImageDebugDirectory → ℕ
by_kind n b mode e = n

-- none where the entry has the hash; else a length of 4 bytes, and as many as it says
abbrev pub by_length : List ℕ → ℕ → ImageDebugDirectory → ℕ
by_length b mode e = if e.size_of_data == 0 then 0 else 4 + le b (record_offset (resolves mode) e) 4

-- ---- what two images have in common

-- the n bytes from offset p on are the same
abbrev pub SameBytes : List ℕ → List ℕ → ℕ → ℕ → Type 0
SameBytes b c p n = (k : ℕ) → k < n → slice_index b (p + k) ≡ slice_index c (p + k)

-- two entries are the same, or both are of other types
abbrev pub SameOrOther : ℕ → ImageDebugDirectory → ImageDebugDirectory → Type 0
SameOrOther kind e f = (e ≡ f) ⊎ (((e.data_type == kind) ≡ false) × ((f.data_type == kind) ≡ false))

-- the bytes of the table of debug entries
abbrev pub debug_table : List ℕ → Image → List SectionTable → Result (List ℕ) Refusal
debug_table b image sections = directory_table (options_of image.mode) b (debug_directory image) sections image.file_alignment

-- these bytes of an image are as many; their entries are the same one by one, but for those of other types; and the bytes of
-- the record of the first entry of this type are the same. All others may differ
pub record DiffersElsewhere (kind : ℕ) (count : List ℕ → ℕ → ImageDebugDirectory → ℕ) (image : Image) (sections : List SectionTable) (b c : List ℕ) : Type 0 where
  pub lengths : length b ≡ length c
  pub entries : (t u : List ℕ) → debug_table b image sections ≡ Ok t → debug_table c image sections ≡ Ok u →
      AllZip (SameOrOther kind) (whole_debug_entries 0 t) (whole_debug_entries 0 u)
  pub bytes : (e : ImageDebugDirectory) → first_entry b image sections kind ≡ Ok (Some e) →
      SameBytes b c (record_offset (resolves image.mode) e) (count b image.mode e)

-- ---- the laws

-- what is read of an entry is the same wherever its record has the same bytes
abbrev pub ReadsItsBytes : {Y : Type 0} → (List ℕ → ℕ → ImageDebugDirectory → Result (Option Y) Refusal) → (List ℕ → ℕ → ImageDebugDirectory → ℕ) → Type 0
ReadsItsBytes read count =
    (b c : List ℕ) (mode : ℕ) (e : ImageDebugDirectory) → length b ≡ length c → SameBytes b c (record_offset (resolves mode) e) (count b mode e) → read b mode e ≡ read c mode e

-- what is read of the first entry of a type is the same, whatever else differs
abbrev pub StandsAlone : {Y : Type 0} → ℕ → (List ℕ → ℕ → ImageDebugDirectory → Result (Option Y) Refusal) → (List ℕ → ℕ → ImageDebugDirectory → ℕ) → Type 0
StandsAlone kind read count =
    (b c : List ℕ) (image : Image) (sections : List SectionTable) → DiffersElsewhere kind count image sections b c → read_first read kind b image sections ≡ read_first read kind c image sections

-- the debug data of an image as a whole, if it has any; or what refuses it
unfoldable pub image_debug : List ℕ → Image → List SectionTable → Result (Option DebugFields) Refusal
image_debug b image sections =
    if is_absent (debug_directory image) then Ok None
    else debug_data (options_of image.mode) b (debug_directory image) sections image.file_alignment 0 >>= λ d. Ok (Some d)

-- where the debug data can be read as a whole and has a record, it is returned
abbrev pub ReturnsRecord : {X Y : Type 0} → ℕ → (List ℕ → ℕ → ImageDebugDirectory → Result (Option Y) Refusal) → (DebugFields → Option X) → Type 0
ReturnsRecord {X} {Y} kind read record_of =
    (b : List ℕ) (image : Image) (sections : List SectionTable) (d : DebugFields) → image_debug b image sections ≡ Ok (Some d) → IsSome (record_of d) →
    (y : Y) × (read_first read kind b image sections ≡ Ok (Some y))

-- what is read of an entry has the range of this part of the entry's record
abbrev pub ReportsPart : {X Y : Type 0} → (ParseOptions → List ℕ → ImageDebugDirectory → Result X Refusal) → (List ℕ → ℕ → ImageDebugDirectory → Result (Option Y) Refusal) →
    (Y → Range) → (X → Option (List ℕ)) → Type 0
ReportsPart {X} {Y} record_of read range_of part_of =
    (b : List ℕ) (mode : ℕ) (e : ImageDebugDirectory) (y : Y) → read b mode e ≡ Ok (Some y) →
    (x : X) × (record_of (options_of mode) b e ≡ Ok x) × IsPart b (range_of y) (part_of x)

-- ---- functions of pe.h that make two calls, the second over what the first writes

-- by whether the first call is done: the second over what that wrote, else its number, and nothing is written
abbrev pub GoesOn : {X Y : Type 0} → (X → ℕ → Y → Y → Type 0) → Bool → ℕ → X → ℕ → Y → Y → Type 0
GoesOn Second true n found number old new = Second found number old new
GoesOn Second false n found number old new = (number ≡ n) × (new ≡ old)

-- what such a function returns, and what it writes
abbrev pub Joins : {X Y : Type 0} → (ℕ → X → X → Type 0) → (X → ℕ → Y → Y → Type 0) → ℕ → Y → Y → Type 0
Joins {X} First Second number old new = (n : ℕ) × (before : X) × (found : X) × First n before found × GoesOn Second (n == DONE) n found number old new

-- the first version information, and then its fixed file information
abbrev pub ReadsFixed : Type 0
ReadsFixed =
    (b : List ℕ) (image : Image) (may_map : ℕ → List SectionTable) (mode number : ℕ) (old new : VsFixedFileInfo) →
    Joins (HandsOutBlocks b image may_map mode) (λ content n k l. HandsOutIf n k l (fixed_in b content)) number old new →
    HandsOutFixed b image may_map mode number old new

-- the same, and then the value of a name
abbrev pub ReadsText : Type 0
ReadsText =
    (b : List ℕ) (image : Image) (may_map : ℕ → List SectionTable) (mode : ℕ) (name : VersionName) (number : ℕ) (old new : Range) →
    Joins (HandsOutBlocks b image may_map mode) (λ content n k l. HandsOutIf n k l (text_in b content (Some name))) number old new →
    HandsOutText b image may_map mode (Some name) number old new
