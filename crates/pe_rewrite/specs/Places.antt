-- Where an image has its resources, and whether others can be put there. (PE format: optional header, section table.)
use Rattle.std.specs.Prelude.{ℕ, ◌+◌, ◌*◌, ◌/◌, ◌%◌, ◌==◌, ◌&&◌, ◌||◌, max, Bool, true, false, Option, Some, None, List, [], ◌∷◌, Result, Err, length, nat_le, nat_lt, slice_index_or, if◌then◌else◌}
use Rattle.std.specs.Int.{is_power_of_two}
use Rattle.std.specs.List.{list_all, position_or_len}
use Rattle.pe_core.specs.Bytes.{le}
use Rattle.pe_core.specs.Directories.{absent_directory}
use Rattle.pe_core.specs.Header.{HeaderView, OptionalHeaderView, directories_offset}
use Rattle.pe_core.specs.Records.{section_table}
use Rattle.pe_core.specs.Refusals.{NoOptionalHeader, Short, outcome, ◌>>=◌}
use Rattle.pe_core.specs.Rows.{each, rows}
use Rattle.pe_core.specs.SectionMap.{offset_of, raw_start, rounded_up}
use Rattle.pe_core.specs.Sections.{raw_end, sections_offset}
use Rattle.pe_core.specs.declared.data_directories.DataDirectory.{DataDirectory}
use Rattle.pe_core.specs.declared.optional_header.TheConstants.{MAGIC_64}
use Rattle.pe_core.specs.declared.section_table.SectionTable.{SectionTable}
use Rattle.pe_edit.specs.EditRefusals as edits
use Rattle.pe_edit.specs.Written.{Leaf}
use Rattle.pe_sign.specs.WrittenHeaders.{directories_end}
use Rattle.pe_rewrite.specs.RewriteRefusals.{RewriteRefusal, Image, NoDirectory, Signed, Headers, Alignment, NoSection, Section, SharedSection, Symbols, Overlap, NoRoom, DebugData, of_leaves}
use Rattle.pe_rewrite.specs.Relocations.{table_at, table_beside}
use Rattle.pe_rewrite.specs.declared.debug.DebugEntries.{DebugEntries}
use Rattle.pe_rewrite.specs.declared.place.Place.{Place}
use Rattle.pe_rewrite.specs.declared.place.Target.{Target}
use Rattle.pe_rewrite.specs.declared.relocation.Rvas.{Rvas}

-- ---- the headers

-- the directory with this index, of zeros if there is none
abbrev pub directory_at : OptionalHeaderView → ℕ → DataDirectory
directory_at o k = slice_index_or o.data_directories k absent_directory

abbrev pub is_absent : DataDirectory → Bool
is_absent d = d.virtual_address == 0 && d.size == 0

-- the same of an image that may have no optional header
abbrev pub directory_in : Option OptionalHeaderView → ℕ → DataDirectory
directory_in None k = absent_directory
directory_in (Some o) k = directory_at o k

-- what is known of the resources by the optional header of an image with this PE pointer: the file offset of the entry of
-- their directory, which is the third, their RVA, both alignments, and the sizes of the image in memory, of its headers and of
-- its initialized data
abbrev pub target_by : ℕ → OptionalHeaderView → Target
target_by pointer o = record {
  entry = pointer + 24 + directories_offset (o.standard_fields.magic == MAGIC_64) + 16;
  rva = (directory_at o 2).virtual_address;
  section_alignment = o.windows_fields.section_alignment;
  file_alignment = o.windows_fields.file_alignment;
  size_of_image = o.windows_fields.size_of_image;
  size_of_headers = o.windows_fields.size_of_headers;
  size_of_initialized_data = o.standard_fields.size_of_initialized_data;
}

-- there is a resource directory, and no certificates, whose directory is the fifth
abbrev pub target_tests : OptionalHeaderView → List (Bool × RewriteRefusal)
target_tests o = (nat_lt 2 (length o.data_directories), NoDirectory) ∷ (is_absent (directory_at o 4), Signed) ∷ []

abbrev pub target_before : ℕ → Option OptionalHeaderView → Result Target RewriteRefusal
target_before pointer None = Err (Image NoOptionalHeader)
target_before pointer (Some o) = outcome (target_tests o) (target_by pointer o)

abbrev pub target_of : HeaderView → Result Target RewriteRefusal
target_of h = target_before h.dos_header.pe_pointer h.optional_header

-- the file offset at which the section table ends
abbrev pub headers_end : HeaderView → ℕ
headers_end h = sections_offset h + 40 * h.coff_header.number_of_sections

-- the directories end before the section table, which is in the file; sections are pages, and their data sectors at least
abbrev pub header_tests : List ℕ → HeaderView → Target → List (Bool × RewriteRefusal)
header_tests b h t =
    (nat_le (directories_end h) (sections_offset h), Headers)
    ∷ (nat_le (headers_end h) (length b), Image Short)
    ∷ (nat_le 4096 t.section_alignment, Alignment)
    ∷ (nat_le 512 t.file_alignment && is_power_of_two t.file_alignment, Alignment) ∷ []

-- ---- the resource section

-- the section headers, and the one with this index
abbrev pub section_headers : List ℕ → HeaderView → List SectionTable
section_headers b h = rows (section_table b) 40 (sections_offset h) h.coff_header.number_of_sections

abbrev pub section_header : List ℕ → HeaderView → ℕ → SectionTable
section_header b h k = section_table b (sections_offset h + 40 * k)

-- the index of the first section that starts at this RVA; at RVA 0, that of the headers and of an absent directory, are no resources
abbrev pub index_of : List ℕ → HeaderView → ℕ → Result ℕ RewriteRefusal
index_of b h rva =
    let k = position_or_len (λ s. s.virtual_address == rva) (section_headers b h) in
    outcome ((nat_lt 0 rva, NoSection) ∷ (nat_lt k h.coff_header.number_of_sections, NoSection) ∷ []) k

-- the section's data start after the headers and at a sector, and end in the file
abbrev pub has_data : List ℕ → HeaderView → SectionTable → Bool
has_data b h s =
    nat_le (headers_end h) s.pointer_to_raw_data && (s.pointer_to_raw_data % 512 == 0 && nat_le (raw_end s) (length b))

-- the end of the RVAs that the section's data can have: whole pages
abbrev pub pages_end : SectionTable → ℕ
pages_end s = s.virtual_address + rounded_up s.size_of_raw_data 4096

-- this RVA is outside of the section
abbrev pub is_outside : SectionTable → ℕ → Bool
is_outside s rva = nat_lt rva s.virtual_address || nat_le (pages_end s) rva

-- this entry of the data directories is that of the resources or of the certificates, or absent, or leads out of the section
abbrev pub leads_out : SectionTable → List DataDirectory → ℕ → Bool
leads_out s ds k =
    let d = slice_index_or ds k absent_directory in
    k == 2 || (k == 4 || (is_absent d || is_outside s d.virtual_address))

-- the entry point and the directories by an optional header: all lead out of the section
abbrev pub is_alone : SectionTable → Option OptionalHeaderView → Bool
is_alone s None = true
is_alone s (Some o) =
    is_outside s o.standard_fields.address_of_entry_point
    && list_all (leads_out s o.data_directories) (each (λ k. k) (length o.data_directories))

-- the COFF symbols, of 18 bytes each, end before the section's data or start after them, if there are any
abbrev pub symbols_apart : HeaderView → SectionTable → Bool
symbols_apart h s =
    let p = h.coff_header.pointer_to_symbol_table in
    p == 0 || (nat_le (raw_end s) p || nat_le (p + 18 * h.coff_header.number_of_symbol_table) s.pointer_to_raw_data)

-- another section has no data; or its data, as mapped, start after the headers, and share no byte of the file and no page with
-- those of this section
abbrev pub data_apart : ℕ → HeaderView → SectionTable → SectionTable → Bool
data_apart alignment h s t =
    t.size_of_raw_data == 0
    || (nat_le (headers_end h) (raw_start t)
    && ((nat_le (rounded_up (raw_end t) alignment) s.pointer_to_raw_data || nat_le (raw_end s) (raw_start t))
    && (nat_le (pages_end t) s.virtual_address || nat_le (pages_end s) t.virtual_address)))

-- the section with index k is that with index i, or apart from it
abbrev pub is_apart : List ℕ → HeaderView → ℕ → ℕ → ℕ → Bool
is_apart b h alignment i k = k == i || data_apart alignment h (section_header b h i) (section_header b h k)

abbrev pub sections_apart : List ℕ → HeaderView → ℕ → ℕ → Bool
sections_apart b h alignment i = list_all (is_apart b h alignment i) (each (λ k. k) h.coff_header.number_of_sections)

-- another section ends before this one in memory, or starts after it when it has n bytes at least
abbrev pub memory_apart : ℕ → SectionTable → SectionTable → Bool
memory_apart n s t =
    nat_le (t.virtual_address + t.virtual_size) s.virtual_address || nat_le (s.virtual_address + max s.virtual_size n) t.virtual_address

-- the section with index k is that with index i, or apart from it in memory when that has n bytes at least
abbrev pub is_clear : List ℕ → HeaderView → ℕ → ℕ → ℕ → Bool
is_clear b h n i k = k == i || memory_apart n (section_header b h i) (section_header b h k)

abbrev pub grows_clear : List ℕ → HeaderView → ℕ → ℕ → Bool
grows_clear b h n i = list_all (is_clear b h n i) (each (λ k. k) h.coff_header.number_of_sections)

-- the entries of the debug directory, which is the seventh, of 28 bytes each, which the section map leads to this file offset; if to none, they are in the
-- headers, of n bytes, or nowhere
abbrev pub entries_by : Option ℕ → DataDirectory → ℕ → DebugEntries
entries_by (Some p) d n = record { offset = p; count = d.size / 28 }
entries_by None d n = record { offset = d.virtual_address; count = if nat_lt d.virtual_address n then d.size / 28 else 0 }

abbrev pub debug_entries : List ℕ → HeaderView → Target → DebugEntries
debug_entries b h t =
    let d = directory_in h.optional_header 6 in
    entries_by (offset_of true t.file_alignment (section_headers b h) d.virtual_address) d t.size_of_headers

-- the entries lie after the headers, and before or after the section's data, in the file, if there are any
abbrev pub entries_apart : List ℕ → HeaderView → SectionTable → DebugEntries → Bool
entries_apart b h s d =
    d.count == 0
    || (nat_le (headers_end h) d.offset
    && (nat_le (d.offset + 28 * d.count) s.pointer_to_raw_data || (nat_le (raw_end s) d.offset && nat_le (d.offset + 28 * d.count) (length b))))

-- n bytes from an RVA on lie outside of the section; at RVA 0 are data that are not loaded
abbrev pub are_outside : SectionTable → ℕ → ℕ → Bool
are_outside s rva n =
    nat_le (pages_end s) rva || (nat_lt rva s.virtual_address && (rva == 0 || nat_le (rva + n) s.virtual_address))

-- the data of the debug entry at file offset e end before the section's data or start after them, and are outside of the section
-- when they are loaded
abbrev pub debug_data_apart : List ℕ → SectionTable → ℕ → Bool
debug_data_apart b s e =
    let p = le b (e + 24) 4 in
    let n = le b (e + 16) 4 in
    (nat_le (p + n) s.pointer_to_raw_data || nat_le (raw_end s) p) && are_outside s (le b (e + 20) 4) n

abbrev pub entry_apart : List ℕ → SectionTable → DebugEntries → ℕ → Bool
entry_apart b s d k = debug_data_apart b s (d.offset + 28 * k)

abbrev pub debug_apart : List ℕ → HeaderView → SectionTable → DebugEntries → Bool
debug_apart b h s d = entries_apart b h s d && list_all (entry_apart b s d) (each (λ k. k) d.count)

-- no base relocation, of which the directory is the sixth, changes what is between two RVAs
unfoldable pub relocations_beside : List ℕ → HeaderView → Target → Rvas → Bool
relocations_beside b h t v =
    let d = directory_in h.optional_header 5 in
    table_beside v (table_at b d t.size_of_headers (offset_of true t.file_alignment (section_headers b h) d.virtual_address))

-- the RVAs of a section that is written over; a relocation that is not read may change them
abbrev pub rvas_of : SectionTable → Rvas
rvas_of s = record { start = s.virtual_address; end = pages_end s; skips_unread = false }

-- the section with index i can be written over, and n bytes fit into its data and into the image in memory
abbrev pub section_tests : List ℕ → HeaderView → Target → ℕ → ℕ → List (Bool × RewriteRefusal)
section_tests b h t i n =
    let s = section_header b h i in
    (has_data b h s, Section)
    ∷ (is_alone s h.optional_header, SharedSection)
    ∷ (symbols_apart h s, Symbols)
    ∷ (sections_apart b h t.file_alignment i, Overlap)
    ∷ (nat_le n s.size_of_raw_data && nat_le (s.virtual_address + n) t.size_of_image, NoRoom)
    ∷ (grows_clear b h n i, Overlap)
    ∷ (debug_apart b h s (debug_entries b h t), DebugData)
    ∷ (relocations_beside b h t (rvas_of s), SharedSection) ∷ []

-- ---- the place

-- the place of n bytes of resources, by the index of their section
abbrev pub place_at : List ℕ → HeaderView → Target → ℕ → ℕ → Place
place_at b h t n i = record {
  entry = t.entry;
  row = sections_offset h + 40 * i;
  section = section_header b h i;
  length = n;
}

-- the length of the section with these leaves at an RVA
abbrev pub length_at : ℕ → List Leaf → Result ℕ RewriteRefusal
length_at rva xs = of_leaves (edits.length_of (edits.section_of rva xs))

-- the place of the resources of an image, if these leaves fit there
abbrev pub place_of : List ℕ → HeaderView → List Leaf → Result Place RewriteRefusal
place_of b h xs =
    target_of h >>= λ t.
    length_at t.rva xs >>= λ n.
    outcome {Y = Unit {0}} (header_tests b h t) tt >>= λ u.
    index_of b h t.rva >>= λ i.
    outcome (section_tests b h t i n) (place_at b h t n i)
