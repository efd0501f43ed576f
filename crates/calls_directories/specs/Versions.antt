-- The version information of an image, and its manifest.
use Rattle.std.specs.Prelude.{◌≡◌, ℕ, ◌==◌, Bool, true, false, List, Option, Some, None, Result, Ok, if◌then◌else◌}
use Rattle.std.specs.Option.{option_map}
use Rattle.pe_core.specs.Bytes.{record_at}
use Rattle.pe_core.specs.Offsets.{bytes_in}
use Rattle.pe_core.specs.Refusals.{Refusal, ◌>>=◌}
use Rattle.pe_core.specs.declared.byte_range.ByteRange.{ByteRange}
use Rattle.pe_core.specs.declared.options.ParseOptions.{ParseOptions}
use Rattle.pe_core.specs.declared.section_table.SectionTable.{SectionTable}
use Rattle.pe_core.specs.SectionMap.{section_map}
use Rattle.pe_resource.specs.Contents.{IsContentRange, file_range, inner}
use Rattle.pe_resource.specs.Resources.{ResourceView, IsOfFirst, IsResource, first_directory}
use Rattle.pe_resource.specs.VersionFields.{VersionView, fixed_info_of, value_named, value_range_in}
use Rattle.pe_resource.specs.declared.content.ResourceDataEntry.{ResourceDataEntry}
use Rattle.pe_resource.specs.declared.version.VersionName.{VersionName}
use Rattle.pe_resource.specs.declared.version.VersionName.TheVariants as names
use Rattle.pe_resource.specs.declared.version.VsFixedFileInfo.{VsFixedFileInfo}
use Rattle.calls_base.specs.declared.image.Image.{Image}
use Rattle.calls_base.specs.declared.ranges.Range.{Range}
use Rattle.calls_base.specs.HandsOut.{HandsOutIf}
use Rattle.calls_base.specs.Images.{is_absent, resource_directory}
use Rattle.calls_base.specs.Modes.{options_of}
use Rattle.calls_base.specs.Ranges.{range_of, IsRange}
use Rattle.calls_base.specs.declared.results.TheConstants.{DONE, NOTHING}

-- the range of the content of the first resource with an id, or what refuses it; none without a resource directory. `may_map` gives
-- the sections that may map an RVA: one is that of the directory, one that of the content
abbrev pub IsContentBy : Bool → ParseOptions → List ℕ → Image → (ℕ → List SectionTable) → ℕ → Result (Option ByteRange) Refusal → Type 0
IsContentBy true o b image may_map id r = r ≡ Ok None
IsContentBy false o b image may_map id r =
    let d = resource_directory image in
    IsOfFirst None (λ first. IsContentRange (λ x. section_map o (may_map x) image.file_alignment x) b first.bytes first.entries id)
    (first_directory o b d (may_map d.virtual_address) image.file_alignment) r

-- the range of the content of a data entry, if there is one
abbrev pub entry_range : List ℕ → (ℕ → Option ℕ) → Option ResourceDataEntry → Result (Option ByteRange) Refusal
entry_range b offset None = Ok None
entry_range b offset (Some e) = file_range b e.size (offset e.offset_to_data) >>= λ r. Ok (Some r)

-- the same of an image in this mode
abbrev pub IsContentOf : List ℕ → Image → (ℕ → List SectionTable) → ℕ → ℕ → Result (Option ByteRange) Refusal → Type 0
IsContentOf b image may_map mode id r = IsContentBy (is_absent (resource_directory image)) (options_of mode) b image may_map id r

-- what a call for the manifest returns: the range of the content of the resource with the id 24
abbrev pub HandsOutManifest : List ℕ → Image → (ℕ → List SectionTable) → ℕ → ℕ → Range → Range → Type 0
HandsOutManifest b image may_map mode number old new =
    (c : Result (Option ByteRange) Refusal) × IsContentOf b image may_map mode 24 c
    × HandsOutIf number old new (c >>= λ c. Ok (option_map range_of c))

-- the fixed file information of the version information at a range
abbrev pub fixed_at : List ℕ → Option ByteRange → Result (Option VsFixedFileInfo) Refusal
fixed_at b None = Ok None
fixed_at b (Some c) = fixed_info_of (bytes_in b c)

-- what a call for fixed file information returns: version information is the content of the resource with the id 16
abbrev pub HandsOutFixed : List ℕ → Image → (ℕ → List SectionTable) → ℕ → ℕ → VsFixedFileInfo → VsFixedFileInfo → Type 0
HandsOutFixed b image may_map mode number old new =
    (c : Result (Option ByteRange) Refusal) × IsContentOf b image may_map mode 16 c × HandsOutIf number old new (c >>= fixed_at b)

-- the range of the value of a name in the version information at a range
abbrev pub value_at : List ℕ → VersionName → Option ByteRange → Result (Option Range) Refusal
value_at b name None = Ok None
value_at b name (Some c) = value_range_in name (bytes_in b c) >>= λ r. Ok (option_map (λ r. range_of (inner c r)) r)

-- the twelve names by their numbers
abbrev pub name_at : ℕ → Option VersionName
name_at n =
    if n == 0 then Some names.Comments
    else (if n == 1 then Some names.CompanyName
    else (if n == 2 then Some names.FileDescription
    else (if n == 3 then Some names.FileVersion
    else (if n == 4 then Some names.InternalName
    else (if n == 5 then Some names.LegalCopyright
    else (if n == 6 then Some names.LegalTrademarks
    else (if n == 7 then Some names.OriginalFilename
    else (if n == 8 then Some names.PrivateBuild
    else (if n == 9 then Some names.ProductName
    else (if n == 10 then Some names.ProductVersion
    else (if n == 11 then Some names.SpecialBuild else None)))))))))))

-- what a call for the value of a name returns; any other number is no name
abbrev pub HandsOutText : List ℕ → Image → (ℕ → List SectionTable) → ℕ → Option VersionName → ℕ → Range → Range → Type 0
HandsOutText b image may_map mode None number old new = (number ≡ NOTHING) × (new ≡ old)
HandsOutText b image may_map mode (Some name) number old new =
    (c : Result (Option ByteRange) Refusal) × IsContentOf b image may_map mode 16 c × HandsOutIf number old new (c >>= value_at b name)

-- ---- the same of one version information, whose range a caller has

-- a range of the bytes, or `Short` where it is not inside them
abbrev pub content_at : List ℕ → Range → Result ByteRange Refusal
content_at b r = record_at b r.offset r.length (record { offset = r.offset; length = r.length })

abbrev pub fixed_in : List ℕ → Range → Result (Option VsFixedFileInfo) Refusal
fixed_in b r = content_at b r >>= λ c. fixed_at b (Some c)

-- the range of the value of a name; any other number is no name
abbrev pub text_in : List ℕ → Range → Option VersionName → Result (Option Range) Refusal
text_in b r None = Ok None
text_in b r (Some name) = content_at b r >>= λ c. value_at b name (Some c)

-- ---- the same by the resources

-- the resources of an image that has some
abbrev pub AreImageResources : List ℕ → Image → List SectionTable → ℕ → ResourceView → Type 0
AreImageResources b image sections mode x =
    (is_absent (resource_directory image) ≡ false) × IsResource (options_of mode) b (resource_directory image) sections image.file_alignment (Ok x)

-- NOTHING where there is nothing; else DONE, and the range lies in the bytes and these are its bytes
abbrev pub ReportsRange : List ℕ → ℕ → Range → Option (List ℕ) → Type 0
ReportsRange b number out None = number ≡ NOTHING
ReportsRange b number out (Some bytes) = (number ≡ DONE) × IsRange b out bytes

-- the fixed file information of version information, if there are both
abbrev pub fixed_of : Option VersionView → Option VsFixedFileInfo
fixed_of None = None
fixed_of (Some v) = v.fixed_info

-- the value of a name in version information, if there are both
abbrev pub version_value : VersionName → Option VersionView → Option (List ℕ)
version_value name None = None
version_value name (Some v) = value_named name v.strings

-- what calls return of a manifest, of fixed file information and of the value of a name is what the resources hold
abbrev pub ReportsManifest : Type 0
ReportsManifest =
    (b : List ℕ) (image : Image) (sections : List SectionTable) (mode : ℕ) (x : ResourceView) (number : ℕ) (old new : Range) →
    AreImageResources b image sections mode x → HandsOutManifest b image (λ _. sections) mode number old new → ReportsRange b number new x.manifest

abbrev pub ReportsFixed : Type 0
ReportsFixed =
    (b : List ℕ) (image : Image) (sections : List SectionTable) (mode : ℕ) (x : ResourceView) (number : ℕ) (old new : VsFixedFileInfo) →
    AreImageResources b image sections mode x → HandsOutFixed b image (λ _. sections) mode number old new → HandsOutIf number old new (Ok (fixed_of x.version))

abbrev pub ReportsValue : Type 0
ReportsValue =
    (b : List ℕ) (image : Image) (sections : List SectionTable) (mode : ℕ) (name : VersionName) (x : ResourceView) (number : ℕ) (old new : Range) →
    AreImageResources b image sections mode x → HandsOutText b image (λ _. sections) mode (Some name) number old new → ReportsRange b number new (version_value name x.version)
