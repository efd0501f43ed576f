-- The resources of an image. (PE format: the resource section; the bounds by mode are this project's profile.)
use Rattle.std.specs.Prelude.{◌≡◌, ℕ, ◌*◌, List, [], Option, Some, None, Result, Ok, Err, nat_le, length, if◌then◌else◌}
use Rattle.std.specs.Option.{option_map}
use Rattle.pe_core.specs.Bytes.{range, holds}
use Rattle.pe_core.specs.Options.{is_permissive}
use Rattle.pe_core.specs.Refusals.{Refusal, ResourceBounds, ◌>>=◌}
use Rattle.pe_core.specs.declared.byte_range.ByteRange.{ByteRange}
use Rattle.pe_core.specs.declared.data_directories.DataDirectory.{DataDirectory}
use Rattle.pe_core.specs.declared.options.ParseMode.{ParseMode}
use Rattle.pe_core.specs.declared.options.ParseOptions.{ParseOptions}
use Rattle.pe_core.specs.declared.section_table.SectionTable.{SectionTable}
use Rattle.pe_resource.specs.declared.content.ResourceDataEntry.{ResourceDataEntry}
use Rattle.pe_resource.specs.declared.directory.ImageResourceDirectory.{ImageResourceDirectory}
use Rattle.pe_resource.specs.declared.entry.ResourceEntry.{ResourceEntry}
use Rattle.pe_resource.specs.declared.manifest.ManifestData.{ManifestData}
use Rattle.pe_resource.specs.declared.resource.FirstDirectory.{FirstDirectory}
use Rattle.pe_resource.specs.declared.resource.ResourceData.{ResourceData}
use Rattle.pe_resource.specs.Contents.{map_of, IsThere, file_bytes, IsContentRange, IsContent, IsDataEntry, version_of_content, IsVersion}
use Rattle.pe_resource.specs.Directories.{directory_at, count}
use Rattle.pe_resource.specs.ResourceEntries.{entries}
use Rattle.pe_resource.specs.VersionFields.{VersionView, version_view}

-- resources, independent of where their bytes lie in memory
pub record ResourceView : Type 0 where
  pub directory : ImageResourceDirectory
  pub first_entries : List ResourceEntry
  pub version : Option VersionView
  pub manifest : Option (List ℕ)

-- the bytes of a manifest
abbrev pub manifest_view : ManifestData → List ℕ
manifest_view m = m.bytes.now

-- the view of resources
abbrev pub resource_view : ResourceData → ResourceView
resource_view r = record {
  directory = r.image_resource_directory;
  first_entries = entries r.table.now;
  version = option_map version_view r.version_info;
  manifest = option_map manifest_view r.manifest_data;
}

-- the default: no resources
abbrev pub no_resources : ResourceView
no_resources = record {
  directory = record { characteristics = 0; time_date_stamp = 0; major_version = 0; minor_version = 0; number_of_named_entries = 0; number_of_id_entries = 0 };
  first_entries = [];
  version = None;
  manifest = None;
}

-- the bytes of the first directory's entries in its data; in permissive mode `None` if the data is shorter than a
-- directory, and no entries if they are not in the data
unfoldable pub first_entries_in : ParseMode → List ℕ → ImageResourceDirectory → Result (Option (List ℕ)) Refusal
first_entries_in mode body d =
    if nat_le 16 (length body) then
    (if holds body 16 (8 * count d) then Ok (Some (range body 16 (8 * count d)))
    else (if is_permissive mode then Ok (Some []) else Err ResourceBounds))
    else (if is_permissive mode then Ok None else Err ResourceBounds)

-- the first directory, the data of the resource directory, and the entries of the first directory
pub record FirstDirectoryView : Type 0 where
  pub directory : ImageResourceDirectory
  pub bytes : List ℕ
  pub entries : List ResourceEntry

-- the view of a first directory
abbrev pub first_directory_view : FirstDirectory → FirstDirectoryView
first_directory_view d = record { directory = d.directory; bytes = d.bytes.now; entries = entries d.table.now }

-- the first directory at the RVA of a data directory, whose size is that of the data; `None` if the data is shorter
-- than a directory
unfoldable pub first_directory : ParseOptions → List ℕ → DataDirectory → List SectionTable → ℕ → Result (Option FirstDirectoryView) Refusal
first_directory o f data_directory sections alignment =
    directory_at o f data_directory sections alignment >>= λ d.
    file_bytes f data_directory.size (map_of o sections alignment data_directory.virtual_address) >>= λ bytes.
    first_entries_in o.parse_mode bytes d >>= λ table.
    Ok (option_map (λ t. record { directory = d; bytes = bytes; entries = entries t }) table)

-- this is what is read from the first directory; `none` without one, and the refusal of the directory if it is refused
abbrev pub IsOfFirst : {X : Type 0} → X → (FirstDirectoryView → Result X Refusal → Type 0) → Result (Option FirstDirectoryView) Refusal → Result X Refusal → Type 0
IsOfFirst none Reads (Err e) r = r ≡ Err e
IsOfFirst none Reads (Ok None) r = r ≡ Ok none
IsOfFirst none Reads (Ok (Some d)) r = Reads d r

-- version information and manifest together, or the first refusal
abbrev pub resources_with : FirstDirectoryView → Result (Option VersionView) Refusal → Result (Option (List ℕ)) Refusal → Result ResourceView Refusal
resources_with d version manifest =
    version >>= λ v. manifest >>= λ m. Ok (record { directory = d.directory; first_entries = d.entries; version = v; manifest = m })

-- these are the resources of a first directory: the version information and the manifest that its entries lead to
abbrev pub AreResources : (ℕ → Option ℕ) → List ℕ → FirstDirectoryView → Result ResourceView Refusal → Type 0
AreResources map f d r =
    (v : Result (Option VersionView) Refusal) × (m : Result (Option (List ℕ)) Refusal)
    × IsVersion map f d.bytes d.entries v × IsContent map f d.bytes d.entries 24 m × (r ≡ resources_with d v m)

-- these are the resources of a data directory, or the first refusal
abbrev pub IsResource : ParseOptions → List ℕ → DataDirectory → List SectionTable → ℕ → Result ResourceView Refusal → Type 0
IsResource o f data_directory sections alignment r =
    IsOfFirst no_resources (AreResources (map_of o sections alignment) f) (first_directory o f data_directory sections alignment) r

-- this is the file range of the content of the first resource with an id, or the first refusal on the way to it
abbrev pub IsResourceRange : ParseOptions → List ℕ → DataDirectory → ℕ → List SectionTable → ℕ → Result (Option ByteRange) Refusal → Type 0
IsResourceRange o f data_directory id sections alignment r =
    IsOfFirst None (λ d. IsContentRange (map_of o sections alignment) f d.bytes d.entries id) (first_directory o f data_directory sections alignment) r

-- this is the data entry of that content, or the first refusal on the way to it
abbrev pub IsResourceEntry : ParseOptions → List ℕ → DataDirectory → ℕ → List SectionTable → ℕ → Result (Option ResourceDataEntry) Refusal → Type 0
IsResourceEntry o f data_directory id sections alignment r =
    IsOfFirst None (λ d. IsDataEntry d.bytes d.entries id) (first_directory o f data_directory sections alignment) r

-- the range is found, it is in the file, and the manifest is its bytes
abbrev pub IsManifestIn : List ℕ → Result (Option ByteRange) Refusal → Option (List ℕ) → Type 0
IsManifestIn f r m = (c : Option ByteRange) × (r ≡ Ok c) × IsThere f c m

-- the range is found, it is in the file, and the version information is what its bytes are read as
abbrev pub IsVersionIn : List ℕ → Result (Option ByteRange) Refusal → Option VersionView → Type 0
IsVersionIn f r v = (c : Option ByteRange) × (b : Option (List ℕ)) × (r ≡ Ok c) × IsThere f c b × (version_of_content b ≡ Ok v)
