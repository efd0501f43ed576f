-- The file of an image with other resources, in the section that it had them in, or in one at the end of the image.
use Rattle.std.specs.Prelude.{◌≡◌, ℕ, zero, suc, ◌+◌, ◌-◌, ◌*◌, ◌%◌, ◌^◌, ◌<◌, ◌≤◌, ◌==◌, ◌&&◌, ◌||◌, ◌++◌, max, Bool, true, false, List, [], ◌∷◌, Option, Some, None, Result, Ok, Err, drop, length, nat_le, nat_lt, replicate, take, if◌then◌else◌}
use Rattle.pe_core.specs.Bytes.{bytes_of, le, splice}
use Rattle.pe_core.specs.Header.{HeaderView, OptionalHeaderView}
use Rattle.pe_core.specs.Refusals.{WriteFit, outcome, ◌>>=◌}
use Rattle.pe_core.specs.Sections.{raw_end, sections_offset}
use Rattle.pe_core.specs.Spelling.{spell_section}
use Rattle.pe_core.specs.declared.section_table.SectionTable.{SectionTable}
use Rattle.pe_edit.specs.Written.{Leaf, section}
use Rattle.pe_sign.specs.Checksum.{checksum_of}
use Rattle.pe_sign.specs.Digest.{is_in}
use Rattle.pe_rewrite.specs.Places.{header_tests, headers_end, place_of, target_of}
use Rattle.pe_rewrite.specs.Removals.{emptied_of, gone_of}
use Rattle.pe_rewrite.specs.RewriteRefusals.{RewriteRefusal, Image, NoDirectory, Signed, Leaves, Headers, Alignment, NoSection, Section, SharedSection, Symbols, Overlap, NoRoom, NoHeaderRoom, ImageTooLarge, DebugData}
use Rattle.pe_rewrite.specs.Rooms.{moved, room_of}
use Rattle.pe_rewrite.specs.declared.place.Place.{Place}
use Rattle.pe_rewrite.specs.declared.debug.DebugEntries.{DebugEntries}
use Rattle.pe_rewrite.specs.declared.room.Room.{Room}

-- ---- changes: bytes that are written at a file offset

-- a file with these changes, one after the other
abbrev pub changed : List (ℕ × List ℕ) → List ℕ → List ℕ
changed [] b = b
changed (c ∷ cs) b = changed cs (splice b c.0 c.1)

-- ---- what an edit changes

-- the resources, with zeros up to the size of the section's data
unfoldable pub filled : SectionTable → List ℕ → List ℕ
filled s resources = resources ++ replicate (s.size_of_raw_data - length resources) 0

-- the section's size in memory: as large as it was, and as the resources
abbrev pub grown_size : Place → ℕ
grown_size p = max p.section.virtual_size p.length

-- the section's data, its size in memory, and the entry of the resource directory
abbrev pub resource_changes : Place → List ℕ → List (ℕ × List ℕ)
resource_changes p resources =
    (p.section.pointer_to_raw_data, filled p.section resources)
    ∷ (p.row + 8, bytes_of 4 (grown_size p))
    ∷ (p.entry, bytes_of 4 p.section.virtual_address)
    ∷ (p.entry + 4, bytes_of 4 p.length) ∷ []

-- the checksum of a file whose header had this one: 0 stays 0
abbrev pub sum_by : ℕ → Option OptionalHeaderView → List ℕ → ℕ
sum_by pointer None f = 0
sum_by pointer (Some o) f = if o.windows_fields.check_sum == 0 then 0 else checksum_of f (pointer + 88)

abbrev pub sum_of : HeaderView → List ℕ → ℕ
sum_of h f = sum_by h.dos_header.pe_pointer h.optional_header f

-- the file with the resources; that file with its checksum
unfoldable pub with_resources : Place → List ℕ → List ℕ → List ℕ
with_resources p resources b = changed (resource_changes p resources) b

unfoldable pub with_sum : HeaderView → List ℕ → List ℕ
with_sum h f = splice f (h.dos_header.pe_pointer + 88) (bytes_of 4 (sum_of h f))

-- the file of the image with these leaves in this place
abbrev pub edited_file : HeaderView → Place → List Leaf → List ℕ → List ℕ
edited_file h p xs b = with_sum h (with_resources p (section p.section.virtual_address xs) b)

-- the file offset is in the resource section's data, its size in memory, the entry of the resource directory, or the checksum
abbrev pub is_written : HeaderView → Place → ℕ → Bool
is_written h p k =
    is_in (record { offset = p.section.pointer_to_raw_data; length = p.section.size_of_raw_data }) k
    || (is_in (record { offset = p.row + 8; length = 4 }) k
    || (is_in (record { offset = p.entry; length = 8 }) k
    || is_in (record { offset = h.dos_header.pe_pointer + 88; length = 4 }) k))

-- ---- room at the end of the image

-- n zeros put in at a file offset
unfoldable pub with_zeros : ℕ → ℕ → List ℕ → List ℕ
with_zeros p n b = take p b ++ (replicate n 0 ++ drop p b)

-- the file offset of the field PointerToRawData in the k-th debug entry
abbrev pub pointer_at : DebugEntries → ℕ → ℕ
pointer_at d k = d.offset + 28 * k + 24

-- the pointer that the k-th entry gets: that of the image b, moved
abbrev pub moved_pointer : Room → List ℕ → ℕ → ℕ
moved_pointer m b k = moved m.end m.more (le b (pointer_at m.debug k) 4)

-- the file f with those of the first n entries
unfoldable pub pointers_moved : Room → List ℕ → ℕ → List ℕ → List ℕ
pointers_moved m b zero f = f
pointers_moved m b (suc n) f = splice (pointers_moved m b n f) (pointer_at m.debug n) (bytes_of 4 (moved_pointer m b n))

-- the file with those of all
abbrev pub with_pointers : Room → List ℕ → List ℕ
with_pointers m b = pointers_moved m b m.debug.count b

-- the file offset is in the pointer of an entry
abbrev pub is_pointer : DebugEntries → ℕ → Bool
is_pointer d k = nat_le d.offset k && (nat_lt k (d.offset + 28 * d.count) && nat_le 24 ((k - d.offset) % 28))

-- what changes in the headers, by the PE pointer: four fields, the entry of the resource directory, and the header of its section
abbrev pub room_changes : ℕ → Room → List (ℕ × List ℕ)
room_changes pointer m =
    (pointer + 6, bytes_of 2 m.number_of_sections)
    ∷ (pointer + 12, bytes_of 4 m.pointer_to_symbol_table)
    ∷ (pointer + 32, bytes_of 4 m.size_of_initialized_data)
    ∷ (pointer + 80, bytes_of 4 m.size_of_image)
    ∷ (m.place.entry, bytes_of 4 m.place.section.virtual_address)
    ∷ (m.place.entry + 4, bytes_of 4 m.place.length)
    ∷ (m.place.row, spell_section m.place.section) ∷ []

-- the file with room for resources: zeros at the end of its sections' data
unfoldable pub roomy_file : HeaderView → Room → List ℕ → List ℕ
roomy_file h m b = changed (room_changes h.dos_header.pe_pointer m) (with_zeros m.end m.more b)

-- the file with the leaves there, and with the pointers of debug entries moved
abbrev pub moved_file : HeaderView → Room → List Leaf → List ℕ → List ℕ
moved_file h m xs b = edited_file h m.place xs (roomy_file h m (with_pointers m b))

-- the file offset is in the pointer of a debug entry, in a field of the headers that changes, in the section header, or written with
-- the resources
abbrev pub is_moved_over : HeaderView → Room → ℕ → Bool
is_moved_over h m k =
    is_pointer m.debug k
    || (is_in (record { offset = h.dos_header.pe_pointer + 6; length = 2 }) k
    || (is_in (record { offset = h.dos_header.pe_pointer + 12; length = 4 }) k
    || (is_in (record { offset = h.dos_header.pe_pointer + 32; length = 4 }) k
    || (is_in (record { offset = h.dos_header.pe_pointer + 80; length = 4 }) k
    || (is_in (record { offset = m.place.row; length = 40 }) k
    || is_written h m.place k)))))

-- ---- no resources

-- n bytes from a file offset on taken out
unfoldable pub cut : ℕ → ℕ → List ℕ → List ℕ
cut p n b = take p b ++ drop (p + n) b

-- the file without the resource section
abbrev pub gone_file : HeaderView → Room → List ℕ → List ℕ
gone_file h m b = changed (room_changes h.dos_header.pe_pointer m) (cut m.end m.more b)

-- the file with zeros in the place of the section's data
abbrev pub emptied_file : Place → List ℕ → List ℕ
emptied_file p b = splice b p.section.pointer_to_raw_data (replicate p.section.size_of_raw_data 0)

-- the file with an entry of zeros at this file offset, and with its checksum
abbrev pub cleared_file : HeaderView → ℕ → List ℕ → List ℕ
cleared_file h e b = with_sum h (splice b e (replicate 8 0))

-- the resource section goes; or else it stays, with zeros in the place of its data if they can be written over
abbrev pub stayed_file : Result Place RewriteRefusal → List ℕ → List ℕ
stayed_file (Ok p) b = emptied_file p b
stayed_file (Err r) b = b

abbrev pub without_section : HeaderView → Result Room RewriteRefusal → Result Place RewriteRefusal → List ℕ → List ℕ
without_section h (Ok m) place b = gone_file h m b
without_section h (Err r) place b = stayed_file place b

-- the file of the image without resources: the entry of their directory is one of zeros
abbrev pub removed_of : List ℕ → HeaderView → Result (List ℕ) RewriteRefusal
removed_of b h =
    target_of h >>= λ t.
    outcome {Y = Unit {0}} (header_tests b h t) tt >>= λ u.
    Ok (cleared_file h t.entry (without_section h (gone_of b h t) (emptied_of b h t) b))

-- ---- the calls

-- the file of the image with these leaves in the place of its resources
abbrev pub in_place : List ℕ → HeaderView → List Leaf → Result (List ℕ) RewriteRefusal
in_place b h xs = place_of b h xs >>= λ p. Ok (edited_file h p xs b)

-- the file with the leaves at the end of the image
abbrev pub at_end : List ℕ → HeaderView → List Leaf → Result (List ℕ) RewriteRefusal
at_end b h xs = room_of b h xs >>= λ m. Ok (moved_file h m xs b)

-- the resources do not go into the section that they are in
abbrev pub wants_room : RewriteRefusal → Bool
wants_room (Image r) = false
wants_room NoDirectory = false
wants_room Signed = false
wants_room (Leaves r) = false
wants_room Headers = false
wants_room Alignment = false
wants_room NoSection = true
wants_room Section = true
wants_room SharedSection = true
wants_room Symbols = true
wants_room Overlap = true
wants_room NoRoom = true
wants_room NoHeaderRoom = false
wants_room ImageTooLarge = false
wants_room DebugData = true

-- the first file, or the second if the resources want room
abbrev pub or_at_end : Result (List ℕ) RewriteRefusal → Result (List ℕ) RewriteRefusal → Result (List ℕ) RewriteRefusal
or_at_end (Ok f) other = Ok f
or_at_end (Err r) other = if wants_room r then other else Err r

-- the file of the image with these leaves: in place of its resources if they fit there, or else at the end of the image; without any,
-- the image without resources
abbrev pub edited_of : List ℕ → HeaderView → List Leaf → Result (List ℕ) RewriteRefusal
edited_of b h [] = removed_of b h
edited_of b h (x ∷ xs) = or_at_end (in_place b h (x ∷ xs)) (at_end b h (x ∷ xs))

-- its length
abbrev pub edited_length : Result (List ℕ) RewriteRefusal → Result ℕ RewriteRefusal
edited_length file = file >>= λ f. Ok (length f)

-- a file at the start of a buffer, whose other bytes stay: its length, and the buffer
abbrev pub written : Result (List ℕ) RewriteRefusal → List ℕ → Result (ℕ × List ℕ) RewriteRefusal
written file old =
    file >>= λ f. outcome ((nat_le (length f) (length old), Image WriteFit) ∷ []) (length f, splice old 0 f)

-- ---- what the place of resources fulfils

-- the fields and the data of the section lie in a file of n bytes, one after the other
pub record Lies (h : HeaderView) (p : Place) (n : ℕ) : Type 0 where
  pub sum : h.dos_header.pe_pointer + 92 ≤ p.entry
  pub entry : p.entry + 8 ≤ sections_offset h
  pub table : sections_offset h ≤ p.row
  pub row : p.row + 40 ≤ headers_end h
  pub raw : headers_end h ≤ p.section.pointer_to_raw_data
  pub end : raw_end p.section ≤ n
  pub room : p.length ≤ p.section.size_of_raw_data

-- the same in any order, as a write of them asks
pub record Inside (h : HeaderView) (p : Place) (n : ℕ) : Type 0 where
  pub sum : h.dos_header.pe_pointer + 92 ≤ n
  pub entry : p.entry + 8 ≤ n
  pub row : p.row + 40 ≤ n
  pub end : raw_end p.section ≤ n
  pub room : p.length ≤ p.section.size_of_raw_data

-- the fields of the headers and the section header lie one after the other, before the end of the data in a file of n bytes
pub record RoomLies (h : HeaderView) (m : Room) (n : ℕ) : Type 0 where
  pub sum : h.dos_header.pe_pointer + 92 ≤ m.place.entry
  pub entry : m.place.entry + 8 ≤ m.place.row
  pub row : m.place.row + 40 ≤ m.end
  pub end : m.end ≤ n
  pub section : raw_end m.place.section ≡ m.end + m.more
  pub room : m.place.length ≤ m.place.section.size_of_raw_data
  pub name : length m.place.section.name ≡ 8

-- the fields of the headers that change and the section header lie one after the other in a file of n bytes
pub record FieldsLie (h : HeaderView) (m : Room) (n : ℕ) : Type 0 where
  pub sum : h.dos_header.pe_pointer + 92 ≤ m.place.entry
  pub entry : m.place.entry + 8 ≤ m.place.row
  pub row : m.place.row + 40 ≤ n
  pub room : m.place.length ≤ m.place.section.size_of_raw_data
  pub name : length m.place.section.name ≡ 8

-- the section that goes lies after them in the file
pub record GoneLies (h : HeaderView) (m : Room) (n : ℕ) : Type 0 where
  pub fields : FieldsLie h m m.end
  pub end : m.end + m.more ≤ n

-- the debug entries, if there are any, lie between the section headers and the section's data
abbrev pub EntriesLie : HeaderView → Room → Type 0
EntriesLie h m =
    0 < m.debug.count →
    (sections_offset h + 40 * m.number_of_sections ≤ m.debug.offset)
    × (m.debug.offset + 28 * m.debug.count ≤ m.place.section.pointer_to_raw_data)

-- their pointers, moved, have 32 bits
abbrev pub PointersFit : Room → List ℕ → Type 0
PointersFit m b = (k : ℕ) → k < m.debug.count → moved_pointer m b k < 2 ^ 32

-- the room lies in the file of an image, and its debug entries can be changed
pub record CanMove (h : HeaderView) (m : Room) (b : List ℕ) : Type 0 where
  pub lies : RoomLies h m (length b)
  pub entries : EntriesLie h m
  pub before : m.place.section.pointer_to_raw_data ≤ m.end
  pub fit : PointersFit m b
