-- The steps of the writers. Only private contracts cite them, and the law that writing pieces in turn leaves their
-- overlay.
use Rattle.std.specs.Prelude.{ℕ, ◌+◌, ◌-◌, ◌^◌, ◌||◌, ◌&&◌, ◌==◌, min, max, Bool, true, false, List, [], ◌∷◌, ◌++◌, length, take, drop, replicate, nat_le, Option, Some, Result, if◌then◌else◌}
use Rattle.std.specs.Int.{is_power_of_two}
use Rattle.pe_core.specs.Bytes.{range, splice}
use Rattle.pe_core.specs.Header.{header_view, optional_header_view}
use Rattle.pe_core.specs.Refusals.{Refusal, WriteAlignment, WriteFit, WriteOverlap, WriteSection, WriteSymbols, outcome}
use Rattle.pe_core.specs.Sections.{raw_end}
use Rattle.pe_core.specs.Spelling.{spell_section}
use Rattle.pe_core.specs.declared.optional_header.OptionalHeader.{OptionalHeader}
use Rattle.pe_core.specs.declared.section_table.SectionTable.{SectionTable}
use Rattle.pe_image.specs.CertificateLists.{certificate_views}
use Rattle.pe_image.specs.Overlay.{Piece, greatest_end, longest, piece}
use Rattle.pe_image.specs.Pieces.{lacking}
use Rattle.pe_image.specs.Writing.{all_in_source, clash_free, image_end, image_tests, padded_pieces, same_section, whole_pieces}
use Rattle.pe_image.specs.declared.write.image.ImageWriter.{ImageWriter}

-- the bytes after the pieces are written one after the other
unfoldable pub put_in_turn : List ℕ → List Piece → List ℕ
put_in_turn b [] = b
put_in_turn b (x ∷ xs) = put_in_turn (splice b x.offset x.content) xs

-- a value where a buffer may have n bytes, else `WriteFit`
abbrev pub possible : {X : Type 0} → ℕ → X → Result X Refusal
possible n value = outcome ((nat_le n longest, WriteFit) ∷ []) value

-- the greatest end of the pieces, or `WriteFit` if no buffer is so long
abbrev pub all_end : List Piece → Result ℕ Refusal
all_end pieces = possible (greatest_end pieces) (greatest_end pieces)

-- the section equals another, or ends at or before its start in the file
abbrev pub ends_before : SectionTable → SectionTable → Bool
ends_before s t = same_section s t || nat_le (raw_end s) t.pointer_to_raw_data

-- the same of two sections in turn, or with `falls` of the second and the first
abbrev pub before_by : Bool → SectionTable → SectionTable → Bool
before_by falls s t = if falls then ends_before t s else ends_before s t

abbrev pub before_next : Bool → SectionTable → List SectionTable → Bool
before_next falls s [] = true
before_next falls s (t ∷ after) = before_by falls s t

-- the same of every section of the list and the next one
abbrev pub in_order : Bool → List SectionTable → Bool
in_order falls [] = true
in_order falls (s ∷ after) = before_next falls s after && in_order falls after

-- the section equals the next one
abbrev pub is_next : SectionTable → List SectionTable → Bool
is_next s [] = false
is_next s (t ∷ after) = same_section s t

-- ---- sections that later ones are written over

-- the range of the first section with data: of its data and the zeros after them, its start and its end, at most that of a
-- `usize`; an empty range without such a section
abbrev pub next_range : Option ℕ → List SectionTable → ℕ × ℕ
next_range unit [] = (0, 0)
next_range unit (s ∷ after) =
    if s.size_of_raw_data == 0
    then next_range unit after
    else (s.pointer_to_raw_data, min (raw_end s + lacking s.size_of_raw_data unit) (2 ^ 64 - 1))

-- where a section need not be written, as the next one with data is written there: that one's range; an empty range for a
-- section without data
abbrev pub covered : Option ℕ → SectionTable → List SectionTable → ℕ × ℕ
covered unit s after = if s.size_of_raw_data == 0 then (0, 0) else next_range unit after

-- of n bytes at offset p: how many lie before the range, and how many before the part that lies after it
abbrev pub outside : ℕ × ℕ → ℕ → ℕ → ℕ × ℕ
outside (start, end) p n = (min (start - p) n, max (min (start - p) n) (min (end - p) n))

-- the two pieces of the bytes s at offset p that lie outside the range
abbrev pub parts_outside : ℕ × ℕ → ℕ → List ℕ → List Piece
parts_outside covered p s =
    let (before, after) = outside covered p (length s) in
    piece p (take before s) ∷ piece (p + after) (drop after s) ∷ []

-- the pieces of a section, of its data and zeros only the parts outside the range
unfoldable pub section_parts : ℕ × ℕ → List ℕ → Option ℕ → ℕ → SectionTable → List Piece
section_parts covered b unit offset s =
    parts_outside covered s.pointer_to_raw_data (range b s.pointer_to_raw_data s.size_of_raw_data)
    ++ piece offset (spell_section s)
    ∷ parts_outside covered (raw_end s) (replicate (lacking s.size_of_raw_data unit) 0)

-- ---- of the parts of an image, with one optional header

-- its pieces, with sections that are padded to a multiple of the unit
abbrev pub own_pieces : ImageWriter → OptionalHeader → Option ℕ → List Piece
own_pieces w o unit =
    padded_pieces unit w.source.now (header_view w.header.now) (optional_header_view o) w.sections.now
    (certificate_views w.certificates)

-- these over its file
abbrev pub own_whole : ImageWriter → OptionalHeader → List Piece
own_whole w o =
    whole_pieces w.source.now (header_view w.header.now) (optional_header_view o) w.sections.now
    (certificate_views w.certificates)

-- its end
abbrev pub own_end : ImageWriter → OptionalHeader → ℕ
own_end w o = image_end (header_view w.header.now) (optional_header_view o) w.sections.now (certificate_views w.certificates)

-- the tests of writing its pieces over n bytes
abbrev pub own_tests : ImageWriter → OptionalHeader → ℕ → List (Bool × Refusal)
own_tests w o n =
    image_tests w.source.now (header_view w.header.now) (optional_header_view o) w.sections.now n
    (own_pieces w o (Some o.windows_fields.file_alignment))

-- the tests of these but for the last, whether they fit
abbrev pub field_tests : ImageWriter → OptionalHeader → List (Bool × Refusal)
field_tests w o =
    (is_power_of_two o.windows_fields.file_alignment, WriteAlignment)
    ∷ (w.header.now.coff_header.pointer_to_symbol_table == 0, WriteSymbols)
    ∷ (clash_free w.sections.now, WriteOverlap)
    ∷ (all_in_source w.source.now w.sections.now, WriteSection)
    ∷ []
