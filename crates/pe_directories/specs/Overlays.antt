-- The overlay of an image: what follows its headers and the raw data of its sections in the file. (Loaders read none of it.)
use Rattle.std.specs.Prelude.{ℕ, ◌+◌, ◌-◌, ◌==◌, max, List, [], ◌∷◌, Option, Some, None, nat_lt, if◌then◌else◌}
use Rattle.pe_core.specs.declared.byte_range.ByteRange.{ByteRange}
use Rattle.pe_core.specs.declared.section_table.SectionTable.{SectionTable}

-- where the raw data of a section ends in the file; one without data has no end
abbrev pub raw_end : SectionTable → ℕ
raw_end s = if s.size_of_raw_data == 0 then 0 else s.pointer_to_raw_data + s.size_of_raw_data

-- the furthest end of these sections and of what ends here
unfoldable pub furthest_end : ℕ → List SectionTable → ℕ
furthest_end end [] = end
furthest_end end (s ∷ more) = furthest_end (max end (raw_end s)) more

-- the bytes of a file of this length after headers of this size and the sections, if there are any
abbrev pub overlay_from : ℕ → ℕ → Option ByteRange
overlay_from length end = if nat_lt end length then Some (record { offset = end; length = length - end }) else None

abbrev pub overlay_range : ℕ → ℕ → List SectionTable → Option ByteRange
overlay_range length headers sections = overlay_from length (furthest_end headers sections)
