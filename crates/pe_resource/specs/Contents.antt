-- From an entry of the first directory to its content: a leaf, its data entry, and the bytes of the file that it
-- describes. (PE format: resource data entries; the rest is this project's profile.)
use Rattle.std.specs.Prelude.{◌≡◌, ℕ, ◌+◌, List, [], ◌∷◌, Option, Some, None, Result, Ok, Err}
use Rattle.std.specs.Option.{option_map}
use Rattle.pe_core.specs.Bytes.{le, holds, record_at}
use Rattle.pe_core.specs.Offsets.{bytes_in, IsWithin}
use Rattle.pe_core.specs.Refusals.{Refusal, Unmapped, ResourceBounds, outcome, ◌>>=◌}
use Rattle.pe_core.specs.SectionMap.{section_map}
use Rattle.pe_core.specs.declared.byte_range.ByteRange.{ByteRange}
use Rattle.pe_core.specs.declared.options.ParseOptions.{ParseOptions}
use Rattle.pe_core.specs.declared.section_table.SectionTable.{SectionTable}
use Rattle.pe_resource.specs.declared.content.ResourceDataEntry.{ResourceDataEntry}
use Rattle.pe_resource.specs.declared.entry.ResourceEntry.{ResourceEntry}
use Rattle.pe_resource.specs.ResourceEntries.{with_id, is_directory, data_offset}
use Rattle.pe_resource.specs.ResourceWalk.{Walks}
use Rattle.pe_resource.specs.VersionFields.{VersionView, version_in}

-- the file offset of an RVA, if it is mapped
abbrev pub map_of : ParseOptions → List SectionTable → ℕ → ℕ → Option ℕ
map_of o sections alignment = section_map o sections alignment

-- the offset of the data entry that an entry of the first directory leads to, at the end of the walk over directories;
-- `None` without an entry, or if the walk ends at a directory
abbrev pub IsLeaf : List ℕ → Option ResourceEntry → Result (Option ℕ) Refusal → Type 0
IsLeaf b None r = r ≡ Ok None
IsLeaf b (Some e) r = (w : Result ResourceEntry Refusal) × Walks b is_directory e w × (r ≡ (w >>= λ v. Ok (data_offset v)))

-- the data entry at p, 16 bytes
unfoldable pub data_entry_at : List ℕ → ℕ → ResourceDataEntry
data_entry_at b p = record {
  offset_to_data = le b p 4;
  size = le b (p + 4) 4;
  code_page = le b (p + 8) 4;
  reserved = le b (p + 12) 4;
}

-- there is neither a range nor a value, or the range is in f and the value is its bytes
abbrev pub IsThere : List ℕ → Option ByteRange → Option (List ℕ) → Type 0
IsThere f None v = v ≡ None
IsThere f (Some r) v = IsWithin f r × (v ≡ Some (bytes_in f r))

-- a range inside the range `outer`, as a range of all bytes
abbrev pub inner : ByteRange → ByteRange → ByteRange
inner outer r = record { offset = outer.offset + r.offset; length = r.length }

-- the file range of `size` bytes at an offset; refused without an offset, and if the bytes are not in the file
abbrev pub file_range : List ℕ → ℕ → Option ℕ → Result ByteRange Refusal
file_range f size None = Err Unmapped
file_range f size (Some p) = outcome ((holds f p size, ResourceBounds) ∷ []) (record { offset = p; length = size })

-- the bytes of this range
abbrev pub file_bytes : List ℕ → ℕ → Option ℕ → Result (List ℕ) Refusal
file_bytes f size offset = file_range f size offset >>= λ r. Ok (bytes_in f r)

-- the file range of the content of the data entry at p
unfoldable pub named_range : (ℕ → Option ℕ) → List ℕ → List ℕ → ℕ → Result ByteRange Refusal
named_range map f b p = record_at b p 16 (data_entry_at b p) >>= λ d. file_range f d.size (map d.offset_to_data)

-- the data entry at an offset, if there is one; its 16 bytes have to be there
abbrev pub data_entry_in : List ℕ → Option ℕ → Result (Option ResourceDataEntry) Refusal
data_entry_in b None = Ok None
data_entry_in b (Some p) = record_at b p 16 (Some (data_entry_at b p))

-- this is the data entry that the first entry with an id leads to
abbrev pub IsDataEntry : List ℕ → List ResourceEntry → ℕ → Result (Option ResourceDataEntry) Refusal → Type 0
IsDataEntry b es id r = (leaf : Result (Option ℕ) Refusal) × IsLeaf b (with_id id es) leaf × (r ≡ (leaf >>= data_entry_in b))

-- the same as a range, if there is a data entry
abbrev pub range_in : (ℕ → Option ℕ) → List ℕ → List ℕ → Option ℕ → Result (Option ByteRange) Refusal
range_in map f b None = Ok None
range_in map f b (Some p) = named_range map f b p >>= λ r. Ok (Some r)

-- this is the file range of the content of the first entry with an id
abbrev pub IsContentRange : (ℕ → Option ℕ) → List ℕ → List ℕ → List ResourceEntry → ℕ → Result (Option ByteRange) Refusal → Type 0
IsContentRange map f b es id r = (leaf : Result (Option ℕ) Refusal) × IsLeaf b (with_id id es) leaf × (r ≡ (leaf >>= range_in map f b))

-- the bytes of a range, if there is a range
abbrev pub content_of : List ℕ → Option ByteRange → Option (List ℕ)
content_of f r = option_map (bytes_in f) r

-- this is the content of the first entry with an id
abbrev pub IsContent : (ℕ → Option ℕ) → List ℕ → List ℕ → List ResourceEntry → ℕ → Result (Option (List ℕ)) Refusal → Type 0
IsContent map f b es id r = (c : Result (Option ByteRange) Refusal) × IsContentRange map f b es id c × (r ≡ (c >>= λ c. Ok (content_of f c)))

-- the version information in a content, if there is one
abbrev pub version_of_content : Option (List ℕ) → Result (Option VersionView) Refusal
version_of_content None = Ok None
version_of_content (Some c) = version_in c >>= λ v. Ok (Some v)

-- this is the version information of the first entry with the id 16
abbrev pub IsVersion : (ℕ → Option ℕ) → List ℕ → List ℕ → List ResourceEntry → Result (Option VersionView) Refusal → Type 0
IsVersion map f b es r = (c : Result (Option (List ℕ)) Refusal) × IsContent map f b es 16 c × (r ≡ (c >>= version_of_content))
