-- Whether the resource section of an image goes where the image has no resources. (PE format: COFF file header, section table.)
use Rattle.std.specs.Prelude.{ℕ, ◌+◌, ◌-◌, ◌*◌, ◌==◌, ◌&&◌, Bool, List, [], ◌∷◌, Result, nat_le, nat_lt, if◌then◌else◌}
use Rattle.std.specs.List.{list_all}
use Rattle.pe_core.specs.Bytes.{le}
use Rattle.pe_core.specs.Header.{HeaderView}
use Rattle.pe_core.specs.Refusals.{outcome, ◌>>=◌}
use Rattle.pe_core.specs.Rows.{each}
use Rattle.pe_core.specs.SectionMap.{rounded_up}
use Rattle.pe_core.specs.Sections.{raw_end, sections_offset}
use Rattle.pe_core.specs.declared.section_table.SectionTable.{SectionTable}
use Rattle.pe_rewrite.specs.Places.{index_of, pages_end, place_at, section_tests}
use Rattle.pe_rewrite.specs.RewriteRefusals.{RewriteRefusal, DebugData, Section, SharedSection}
use Rattle.pe_rewrite.specs.Rooms.{own_section, room_beside}
use Rattle.pe_rewrite.specs.declared.place.Place.{Place}
use Rattle.pe_rewrite.specs.declared.place.Target.{Target}
use Rattle.pe_rewrite.specs.declared.room.LastSection.{LastSection}
use Rattle.pe_rewrite.specs.declared.room.Room.{Room}

-- ---- whether it can go

-- the section is the last of the section table, and not the only one
abbrev pub ends_table : HeaderView → LastSection → Bool
ends_table h l = l.index + 1 == h.coff_header.number_of_sections && nat_lt 0 l.index

-- the image ends in memory with the pages of the section's data
abbrev pub ends_image : Target → LastSection → Bool
ends_image t l = nat_le t.size_of_image (rounded_up (pages_end l.section) t.section_alignment)

-- the data of the k-th debug entry end before the section's data
abbrev pub data_before : List ℕ → LastSection → ℕ → Bool
data_before b l k =
    let e = l.debug.offset + 28 * k in
    nat_le (le b (e + 24) 4 + le b (e + 16) 4) l.section.pointer_to_raw_data

abbrev pub debug_before : List ℕ → LastSection → Bool
debug_before b l = list_all (data_before b l) (each (λ k. k) l.debug.count)

abbrev pub gone_tests : List ℕ → HeaderView → Target → LastSection → List (Bool × RewriteRefusal)
gone_tests b h t l = (ends_table h l, Section) ∷ (ends_image t l, SharedSection) ∷ (debug_before b l, DebugData) ∷ []

-- ---- what changes when it goes

-- 40 bytes of zeros in place of its header
abbrev pub no_header : SectionTable
no_header = record {
  name = 0 ∷ 0 ∷ 0 ∷ 0 ∷ 0 ∷ 0 ∷ 0 ∷ 0 ∷ [];
  virtual_size = 0;
  virtual_address = 0;
  size_of_raw_data = 0;
  pointer_to_raw_data = 0;
  pointer_to_relocations = 0;
  pointer_to_linenumbers = 0;
  number_of_relocations = 0;
  number_of_linenumbers = 0;
  characteristics = 0;
}

-- a file offset after `less` bytes before `end` have gone
abbrev pub moved_back : ℕ → ℕ → ℕ → ℕ
moved_back end less p = if nat_lt p end then p else p - less

-- `more` bytes of the file from `end` on go, and those after them move back; there is one section less, the image ends in memory
-- where the section started, and the entry of the resource directory is one of zeros
abbrev pub gone_at : HeaderView → Target → LastSection → Room
gone_at h t l =
    let s = l.section in record {
      place = record {
        entry = t.entry;
        row = sections_offset h + 40 * l.index;
        section = no_header;
        length = 0;
      };
      end = s.pointer_to_raw_data;
      more = s.size_of_raw_data;
      debug = l.debug;
      number_of_sections = l.index;
      pointer_to_symbol_table = moved_back (raw_end s) s.size_of_raw_data h.coff_header.pointer_to_symbol_table;
      size_of_initialized_data = t.size_of_initialized_data - s.size_of_raw_data;
      size_of_image = s.virtual_address;
    }

-- ---- the section

-- the resource section goes: it could grow as one at the end of the image, so nothing else is in it or after it, and it passes the
-- tests above
abbrev pub gone_with : List ℕ → HeaderView → Target → LastSection → Result Room RewriteRefusal
gone_with b h t l = room_beside b h t 0 l >>= λ m. outcome (gone_tests b h t l) (gone_at h t l)

abbrev pub gone_of : List ℕ → HeaderView → Target → Result Room RewriteRefusal
gone_of b h t = index_of b h t.rva >>= λ i. gone_with b h t (own_section b h t 0 i)

-- its data can be written over with zeros: nothing else is in them
abbrev pub emptied_of : List ℕ → HeaderView → Target → Result Place RewriteRefusal
emptied_of b h t = index_of b h t.rva >>= λ i. outcome (section_tests b h t i 0) (place_at b h t 0 i)
