-- What is parsed of an image whose resources changed. (PE format: optional header, section table, the .rsrc section.)
use Rattle.std.specs.Prelude.{◌≡◌, ℕ, ◌+◌, ◌*◌, ◌/◌, ◌==◌, ◌||◌, Bool, false, List, [], ◌∷◌, ◌++◌, Option, Result, Ok, Err, drop, if◌then◌else◌, map, slice_set, take}
use Rattle.std.specs.Option.{option_map}
use Rattle.pe_core.specs.Bytes.{AreBytes}
use Rattle.pe_core.specs.Header.{HeaderView, OptionalHeaderView}
use Rattle.pe_core.specs.Refusals.{Refusal}
use Rattle.pe_core.specs.Sections.{sections_offset}
use Rattle.pe_core.specs.declared.data_directories.DataDirectory.{DataDirectory}
use Rattle.pe_core.specs.SectionMap.{section_map}
use Rattle.pe_core.specs.declared.options.ParseOptions.{ParseOptions}
use Rattle.pe_core.specs.declared.header.CoffHeader.{CoffHeader}
use Rattle.pe_core.specs.declared.section_table.SectionTable.{SectionTable}
use Rattle.pe_records.specs.declared.debug.ImageDebugDirectory.{ImageDebugDirectory}
use Rattle.pe_resource.specs.Contents.{file_bytes}
use Rattle.pe_resource.specs.Leaves.{TreeRefusal, resource_tree}
use Rattle.pe_resource.specs.declared.leaves.ResourceLeaf.{ResourceLeaf}
use Rattle.pe_edit.specs.Reread.{LeafRefusal, Tree, leaf_with, of_image, read_key}
use Rattle.pe_edit.specs.Written.{Leaf}
use Rattle.pe_sign.specs.WrittenHeaders.{headers_changed}
use Rattle.pe_core.specs.Refusals.{◌>>=◌}
use Rattle.pe_sign.specs.Digest.{is_in}
use Rattle.pe_rewrite.specs.Edited.{at_end, edited_of, in_place}
use Rattle.pe_rewrite.specs.Places.{place_of, section_header, section_headers, target_of}
use Rattle.pe_rewrite.specs.Removals.{gone_of}
use Rattle.pe_rewrite.specs.RewriteRefusals.{RewriteRefusal}
use Rattle.pe_rewrite.specs.Rooms.{moved, room_of}
use Rattle.pe_rewrite.specs.declared.place.Place.{Place}
use Rattle.pe_rewrite.specs.declared.place.Target.{Target}
use Rattle.pe_rewrite.specs.declared.debug.DebugEntries.{DebugEntries}
use Rattle.pe_rewrite.specs.declared.room.Room.{Room}

-- the entry of the resource directory
abbrev pub entry_of : Place → DataDirectory
entry_of p = record { virtual_address = p.section.virtual_address; size = p.length }

-- the headers: the entry of the resource directory, which is the third, and the checksum are others
abbrev pub edited_headers : Place → ℕ → HeaderView → HeaderView
edited_headers p sum h = headers_changed 2 (entry_of p) sum h

-- the headers of an image with room for resources: four fields, and the entry of the resource directory, are others
abbrev pub optional_roomy : Room → OptionalHeaderView → OptionalHeaderView
optional_roomy m o = record {
  standard_fields = record o.standard_fields { size_of_initialized_data = m.size_of_initialized_data };
  windows_fields = record o.windows_fields { size_of_image = m.size_of_image };
  data_directories = slice_set o.data_directories 2 (entry_of m.place);
}

abbrev pub coff_roomy : Room → CoffHeader → CoffHeader
coff_roomy m c = record c { number_of_sections = m.number_of_sections; pointer_to_symbol_table = m.pointer_to_symbol_table }

abbrev pub headers_roomy : Room → HeaderView → HeaderView
headers_roomy m h = record h { coff_header = coff_roomy m h.coff_header; optional_header = option_map (optional_roomy m) h.optional_header }

-- a section header with another size in memory
abbrev pub resized : ℕ → SectionTable → SectionTable
resized size s = record s { virtual_size = size }

-- section headers of which the one with index i is another one, or of which there is one more
abbrev pub sections_with : ℕ → SectionTable → List SectionTable → List SectionTable
sections_with i s ss = take i ss ++ (s ∷ drop (i + 1) ss)

-- i is the index of the section that has room
abbrev pub IsRoomRow : HeaderView → Room → ℕ → Type 0
IsRoomRow h m i = m.place.row ≡ sections_offset h + 40 * i

-- the section map of an image with these headers
abbrev pub headers_map : ParseOptions → List ℕ → HeaderView → OptionalHeaderView → ℕ → Option ℕ
headers_map o b h w rva = section_map o (section_headers b h) w.windows_fields.file_alignment rva

-- ---- leaves, by the section map

-- the content that a data entry describes, by where the map has its RVA; of no bytes, whether it is mapped or not
abbrev pub content_at : (ℕ → Option ℕ) → List ℕ → ℕ → ℕ → Result (List ℕ) Refusal
content_at map f rva size = if size == 0 then Ok [] else file_bytes f size (map rva)

-- what is read of a leaf of the resources b: its keys, its language, and its content in the file f by the section map
unfoldable pub mapped_leaf : (ℕ → Option ℕ) → List ℕ → List ℕ → ResourceLeaf → Result Leaf LeafRefusal
mapped_leaf map f b x =
    of_image (read_key b x.resource_type) >>= λ t.
    of_image (read_key b x.name) >>= λ n.
    of_image (read_key b x.language) >>= λ l.
    of_image (content_at map f x.data_entry.offset_to_data x.data_entry.size) >>= λ c.
    leaf_with t n l x.data_entry.code_page c

abbrev pub mapped_item : (ℕ → Option ℕ) → List ℕ → List ℕ → Result ResourceLeaf TreeRefusal → Result Leaf LeafRefusal
mapped_item map f b (Ok x) = mapped_leaf map f b x
mapped_item map f b (Err r) = Err (Tree r)

-- the leaves that a walk over the resources of an image finds, with their contents by the section map
abbrev pub leaves_of_image : ParseOptions → List ℕ → DataDirectory → List SectionTable → ℕ → Result (List (Result Leaf LeafRefusal)) Refusal
leaves_of_image o f directory sections alignment =
    resource_tree o f directory sections alignment >>= λ tree. Ok (map (mapped_item (section_map o sections alignment) f tree.0) tree.1)

-- i is the index of the resource section
abbrev pub IsRow : HeaderView → Place → ℕ → Type 0
IsRow h p i = p.row ≡ sections_offset h + 40 * i

-- ---- the file of an edit

-- an edit of the image b with these headers puts these leaves in this place, and writes this file
pub record IsEditedInPlace (b : List ℕ) (h : HeaderView) (xs : List Leaf) (p : Place) (f : List ℕ) : Type 0 where
  pub bytes : AreBytes b
  pub place : place_of b h xs ≡ Ok p
  pub file : in_place b h xs ≡ Ok f

-- an edit puts them in this room at the end of the image, and writes this file
pub record IsEditedAtEnd (b : List ℕ) (h : HeaderView) (xs : List Leaf) (m : Room) (f : List ℕ) : Type 0 where
  pub bytes : AreBytes b
  pub room : room_of b h xs ≡ Ok m
  pub file : at_end b h xs ≡ Ok f

-- ---- the file without resources

-- an edit without leaves of the image b, by these facts of its headers, writes the file f, without the resource section: this changes
pub record IsEditedAway (b : List ℕ) (h : HeaderView) (t : Target) (m : Room) (f : List ℕ) : Type 0 where
  pub bytes : AreBytes b
  pub target : target_of h ≡ Ok t
  pub room : gone_of b h t ≡ Ok m
  pub file : edited_of b h [] ≡ Ok f

-- it writes the file f, with the resource section
pub record IsEditedEmpty (b : List ℕ) (h : HeaderView) (t : Target) (f : List ℕ) : Type 0 where
  pub reason : RewriteRefusal
  pub target : target_of h ≡ Ok t
  pub stays : gone_of b h t ≡ Err reason
  pub file : edited_of b h [] ≡ Ok f

-- the header of the section that goes, which is the last one
abbrev pub last_header : List ℕ → HeaderView → Room → SectionTable
last_header b h m = section_header b h m.number_of_sections

-- the file offset is in a field of the headers that changes with the section, in the checksum, in the entry of the resource directory,
-- or in the section header
abbrev pub is_gone_over : HeaderView → Room → ℕ → Bool
is_gone_over h m k =
    is_in (record { offset = h.dos_header.pe_pointer + 6; length = 2 }) k
    || (is_in (record { offset = h.dos_header.pe_pointer + 12; length = 4 }) k
    || (is_in (record { offset = h.dos_header.pe_pointer + 32; length = 4 }) k
    || (is_in (record { offset = h.dos_header.pe_pointer + 80; length = 4 }) k
    || (is_in (record { offset = h.dos_header.pe_pointer + 88; length = 4 }) k
    || (is_in (record { offset = m.place.entry; length = 8 }) k || is_in (record { offset = m.place.row; length = 40 }) k)))))

-- the file offset is in the data of a section that become zeros, if they do
abbrev pub is_emptied_at : Result Place RewriteRefusal → ℕ → Bool
is_emptied_at (Ok p) k = is_in (record { offset = p.section.pointer_to_raw_data; length = p.section.size_of_raw_data }) k
is_emptied_at (Err r) k = false

-- or in the entry of the resource directory, or in the checksum
abbrev pub is_emptied_over : HeaderView → Target → Result Place RewriteRefusal → ℕ → Bool
is_emptied_over h t place k =
    is_emptied_at place k
    || (is_in (record { offset = t.entry; length = 8 }) k || is_in (record { offset = h.dos_header.pe_pointer + 88; length = 4 }) k)

-- ---- debug entries

-- the file offset of the k-th debug entry
abbrev pub entry_offset : Room → ℕ → ℕ
entry_offset m k = m.debug.offset + 28 * k

-- a debug entry with its pointer moved
abbrev pub moved_entry : Room → ImageDebugDirectory → ImageDebugDirectory
moved_entry m e = record e { pointer_to_raw_data = moved m.end m.more e.pointer_to_raw_data }

-- the debug entries that a directory's RVA leads to by the section map
abbrev pub entries_at : ℕ → DataDirectory → DebugEntries
entries_at q d = record { offset = q; count = d.size / 28 }
