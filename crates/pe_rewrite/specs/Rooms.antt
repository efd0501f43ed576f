-- Where resources go that have no room in place: to the end of the image, into a new section or into their own if it is the
-- last. (PE format: COFF file header, optional header, section table.)
use Rattle.std.specs.Prelude.{ℕ, ◌+◌, ◌-◌, ◌*◌, ◌%◌, ◌==◌, ◌&&◌, ◌||◌, max, Bool, List, [], ◌∷◌, Result, Ok, Err, length, nat_le, nat_lt, if◌then◌else◌}
use Rattle.std.specs.List.{fold, list_all}
use Rattle.pe_core.specs.Bytes.{le}
use Rattle.pe_core.specs.Header.{HeaderView}
use Rattle.pe_core.specs.Refusals.{outcome, ◌>>=◌}
use Rattle.pe_core.specs.Rows.{each}
use Rattle.pe_core.specs.SectionMap.{raw_start, rounded_up}
use Rattle.pe_core.specs.Sections.{raw_end, sections_offset}
use Rattle.pe_core.specs.declared.section_table.SectionTable.{SectionTable}
use Rattle.pe_edit.specs.Written.{Leaf}
use Rattle.pe_rewrite.specs.Places.{debug_entries, header_tests, headers_end, are_outside, index_of, is_alone, length_at, pages_end, relocations_beside, section_header, section_headers, target_of}
use Rattle.pe_rewrite.specs.RewriteRefusals.{RewriteRefusal, DebugData, NoHeaderRoom, ImageTooLarge, Section, SharedSection, Symbols, Overlap}
use Rattle.pe_rewrite.specs.declared.place.Target.{Target}
use Rattle.pe_rewrite.specs.declared.relocation.Rvas.{Rvas}
use Rattle.pe_rewrite.specs.declared.room.LastSection.{LastSection}
use Rattle.pe_rewrite.specs.declared.room.Room.{Room}
use Rattle.pe_rewrite.specs.declared.room.Sizes.{Sizes}
use Rattle.pe_rewrite.specs.declared.room.TheConstants.{CHARACTERISTICS}

-- ---- the section

-- the section with more bytes of data
abbrev pub enlarged : LastSection → SectionTable
enlarged l = record l.section { size_of_raw_data = l.section.size_of_raw_data + l.more }

-- the resource section, which has this index, with room for n bytes
abbrev pub own_section : List ℕ → HeaderView → Target → ℕ → ℕ → LastSection
own_section b h t n i =
    let s = section_header b h i in
    record {
      index = i;
      section = s;
      more = rounded_up (n - s.size_of_raw_data) t.file_alignment;
      debug = debug_entries b h t;
    }

-- where the data of all sections end in the file, and the headers
abbrev pub later_end : ℕ → SectionTable → ℕ
later_end n s = max n (if s.size_of_raw_data == 0 then 0 else raw_end s)

abbrev pub data_end : List ℕ → HeaderView → Target → ℕ
data_end b h t = fold later_end t.size_of_headers (section_headers b h)

-- the RVA after the image
abbrev pub image_end : Target → ℕ
image_end t = rounded_up t.size_of_image t.section_alignment

-- the header of a new section without data: `.rsrc`, of initialized data that can be read
abbrev pub new_header : ℕ → ℕ → SectionTable
new_header rva offset = record {
  name = 46 ∷ 114 ∷ 115 ∷ 114 ∷ 99 ∷ 0 ∷ 0 ∷ 0 ∷ [];
  virtual_size = 0;
  virtual_address = rva;
  size_of_raw_data = 0;
  pointer_to_raw_data = offset;
  pointer_to_relocations = 0;
  pointer_to_linenumbers = 0;
  number_of_relocations = 0;
  number_of_linenumbers = 0;
  characteristics = CHARACTERISTICS;
}

-- a new section after them, with room for n bytes
abbrev pub new_section : List ℕ → HeaderView → Target → ℕ → LastSection
new_section b h t n = record {
  index = h.coff_header.number_of_sections;
  section = new_header (image_end t) (data_end b h t);
  more = rounded_up n t.file_alignment;
  debug = debug_entries b h t;
}

-- ---- the room that it makes

-- how many sections there are with it, and where the section table ends
abbrev pub count_with : HeaderView → ℕ → ℕ
count_with h i = max h.coff_header.number_of_sections (i + 1)

abbrev pub table_end : HeaderView → ℕ → ℕ
table_end h i = sections_offset h + 40 * count_with h i

-- a file offset after `more` bytes were put in at `end`
abbrev pub moved : ℕ → ℕ → ℕ → ℕ
moved end more p = if nat_lt p end then p else p + more

-- the numbers that change, for n bytes of resources in the section: where its data end, and fields of the headers
abbrev pub sizes_of : HeaderView → Target → ℕ → LastSection → Sizes
sizes_of h t n l = record {
  data_end = raw_end l.section + l.more;
  pointer_to_symbol_table = moved (raw_end l.section) l.more h.coff_header.pointer_to_symbol_table;
  size_of_initialized_data = t.size_of_initialized_data + l.more;
  size_of_image = max t.size_of_image (rounded_up (l.section.virtual_address + n) t.section_alignment);
}

-- the room: the bytes of the file after the section's data move
abbrev pub room_at : HeaderView → Target → ℕ → LastSection → Room
room_at h t n l = record {
  place = record {
    entry = t.entry;
    row = sections_offset h + 40 * l.index;
    section = enlarged l;
    length = n;
  };
  end = raw_end l.section;
  more = l.more;
  debug = l.debug;
  number_of_sections = count_with h l.index;
  pointer_to_symbol_table = (sizes_of h t n l).pointer_to_symbol_table;
  size_of_initialized_data = (sizes_of h t n l).size_of_initialized_data;
  size_of_image = (sizes_of h t n l).size_of_image;
}

-- ---- whether it can be made

-- 40 bytes of zeros
abbrev pub are_zeros : List ℕ → ℕ → Bool
are_zeros b p =
    nat_le (p + 40) (length b)
    && (le b p 8 == 0 && (le b (p + 8) 8 == 0 && (le b (p + 16) 8 == 0 && (le b (p + 24) 8 == 0 && le b (p + 32) 8 == 0))))

-- there are fewer than 65,536 sections with it, after the DOS header, and if it is new, 40 zeros follow the section table, in the
-- headers
abbrev pub has_header : List ℕ → HeaderView → Target → ℕ → Bool
has_header b h t i =
    nat_lt (count_with h i) 65536
    && (nat_le 64 h.dos_header.pe_pointer
    && (nat_lt i h.coff_header.number_of_sections || (nat_le (headers_end h + 40) t.size_of_headers && are_zeros b (headers_end h))))

-- the numbers have 32 bits
abbrev pub is_u32 : ℕ → Bool
is_u32 n = nat_lt n 4294967296

abbrev pub are_u32 : Sizes → Bool
are_u32 z =
    is_u32 z.data_end && (is_u32 z.pointer_to_symbol_table && (is_u32 z.size_of_initialized_data && is_u32 z.size_of_image))

-- the data start after the headers and at a sector, and end in the file, at a multiple of the file alignment
abbrev pub ends_data : List ℕ → HeaderView → Target → LastSection → Bool
ends_data b h t l =
    nat_le (table_end h l.index) l.section.pointer_to_raw_data
    && (l.section.pointer_to_raw_data % 512 == 0
    && (raw_end l.section % t.file_alignment == 0 && nat_le (raw_end l.section) (length b)))

-- the COFF symbols end before the section's data, or start after what was the end of all data, if there are any
abbrev pub symbols_move : HeaderView → LastSection → Bool
symbols_move h l =
    let p = h.coff_header.pointer_to_symbol_table in
    p == 0 || (nat_le (raw_end l.section) p || nat_le (p + 18 * h.coff_header.number_of_symbol_table) l.section.pointer_to_raw_data)

-- another section ends before this one, in memory and, as mapped, in the file, where it starts after the section table
abbrev pub is_before : ℕ → ℕ → SectionTable → SectionTable → Bool
is_before alignment end s u =
    nat_le (u.virtual_address + u.virtual_size) s.virtual_address
    && (u.size_of_raw_data == 0
    || (nat_le end (raw_start u)
    && (nat_le (rounded_up (raw_end u) alignment) s.pointer_to_raw_data && nat_le (pages_end u) s.virtual_address)))

abbrev pub is_before_or_same : List ℕ → HeaderView → Target → LastSection → ℕ → Bool
is_before_or_same b h t l k = k == l.index || is_before t.file_alignment (table_end h l.index) l.section (section_header b h k)

abbrev pub is_last : List ℕ → HeaderView → Target → LastSection → Bool
is_last b h t l = list_all (is_before_or_same b h t l) (each (λ k. k) h.coff_header.number_of_sections)

-- the debug entries lie after the section headers and before the section's data, if there are any
abbrev pub entries_lie : HeaderView → LastSection → Bool
entries_lie h l =
    l.debug.count == 0
    || (nat_le (table_end h l.index) l.debug.offset && nat_le (l.debug.offset + 28 * l.debug.count) l.section.pointer_to_raw_data)

-- the data of the debug entry at file offset e end before the section's data, or start after what was the end of all data, and
-- then their offset, when they have moved, has 32 bits; and they are outside of the section when they are loaded
abbrev pub data_moves : List ℕ → LastSection → ℕ → Bool
data_moves b l e =
    let p = le b (e + 24) 4 in
    let n = le b (e + 16) 4 in
    (nat_le (p + n) l.section.pointer_to_raw_data || (nat_le (raw_end l.section) p && is_u32 (p + l.more)))
    && are_outside (enlarged l) (le b (e + 20) 4) n

abbrev pub entry_moves : List ℕ → LastSection → ℕ → Bool
entry_moves b l k = data_moves b l (l.debug.offset + 28 * k)

abbrev pub debug_moves : List ℕ → HeaderView → LastSection → Bool
debug_moves b h l = entries_lie h l && list_all (entry_moves b l) (each (λ k. k) l.debug.count)

-- the tests, in their order
abbrev pub room_tests : List ℕ → HeaderView → Target → ℕ → LastSection → List (Bool × RewriteRefusal)
room_tests b h t n l =
    (has_header b h t l.index, NoHeaderRoom)
    ∷ (are_u32 (sizes_of h t n l), ImageTooLarge)
    ∷ (ends_data b h t l, Section)
    ∷ (is_alone (enlarged l) h.optional_header, SharedSection)
    ∷ (symbols_move h l, Symbols)
    ∷ (is_last b h t l, Overlap)
    ∷ (debug_moves b h l, DebugData) ∷ []

abbrev pub room_with : List ℕ → HeaderView → Target → ℕ → LastSection → Result Room RewriteRefusal
room_with b h t n l = outcome (room_tests b h t n l) (room_at h t n l)

-- ---- the room

-- the first of two results that is accepted, or else the second
abbrev pub or_else : Result Room RewriteRefusal → Result Room RewriteRefusal → Result Room RewriteRefusal
or_else (Ok r) other = Ok r
or_else (Err e) other = other

-- the RVAs of the section with its data. A relocation that is not read may change the resource section; a new section is after the
-- image
abbrev pub rvas_with : HeaderView → LastSection → Rvas
rvas_with h l = record {
  start = l.section.virtual_address;
  end = pages_end (enlarged l);
  skips_unread = nat_le h.coff_header.number_of_sections l.index;
}

-- no base relocation changes the section with its data; then the room that it makes
abbrev pub rvas_tests : List ℕ → HeaderView → Target → LastSection → List (Bool × RewriteRefusal)
rvas_tests b h t l = (relocations_beside b h t (rvas_with h l), SharedSection) ∷ []

abbrev pub room_beside : List ℕ → HeaderView → Target → ℕ → LastSection → Result Room RewriteRefusal
room_beside b h t n l = outcome {Y = Unit {0}} (rvas_tests b h t l) tt >>= λ u. room_with b h t n l

-- room for n bytes in the resource section
abbrev pub own_room : List ℕ → HeaderView → Target → ℕ → Result Room RewriteRefusal
own_room b h t n = index_of b h t.rva >>= λ i. room_beside b h t n (own_section b h t n i)

-- room for the leaves in a new section, whose RVA and data have 32 bits. What a base relocation changes in the old section is not
-- asked: that section stays, with its RVA and its bytes, as the law `edits_at_the_end_change_no_more` says
abbrev pub new_room : List ℕ → HeaderView → Target → List Leaf → Result Room RewriteRefusal
new_room b h t xs =
    outcome {Y = Unit {0}} ((is_u32 (image_end t) && is_u32 (data_end b h t), ImageTooLarge) ∷ []) tt >>= λ u.
    length_at (image_end t) xs >>= λ n.
    room_beside b h t n (new_section b h t n)

-- room for the leaves at the end of the image: in their own section, or else in a new one
abbrev pub room_of : List ℕ → HeaderView → List Leaf → Result Room RewriteRefusal
room_of b h xs =
    target_of h >>= λ t.
    length_at t.rva xs >>= λ n.
    outcome {Y = Unit {0}} (header_tests b h t) tt >>= λ u.
    or_else (own_room b h t n) (new_room b h t xs)
