-- What calls return of the section map, section by section.
use Rattle.std.specs.Prelude.{ℕ, ◌+◌, ◌-◌, ◌==◌, ◌&&◌, Bool, List, length, min, nat_lt, position, Option, Some, None, if◌then◌else◌}
use Rattle.std.specs.Int.{is_power_of_two}
use Rattle.pe_core.specs.SectionMap.{raw_start, reach}
use Rattle.pe_core.specs.SectionMap as sections
use Rattle.pe_core.specs.declared.section_table.SectionTable.{SectionTable}
use Rattle.calls_base.specs.Modes.{resolves}
use Rattle.calls_base.specs.declared.image.Image.{Image}
use Rattle.calls_base.specs.declared.ranges.Range.{Range}

-- the section covers the RVA; none does where the file alignment is not a power of two
abbrev pub covers : ℕ → ℕ → SectionTable → Bool
covers alignment rva s = is_power_of_two alignment && sections.covers alignment rva s

-- the index of the section that maps an RVA, the first that covers it; none in an image as loaded, where no section maps RVAs
abbrev pub section_at : Image → List SectionTable → ℕ → Option ℕ
section_at image s rva = if resolves image.mode then position (covers image.file_alignment rva) s else None

-- the bytes from an offset up to another one or to the end of all, if that is any
abbrev pub bytes_between : List ℕ → ℕ → ℕ → Option Range
bytes_between b from to = if nat_lt from (min to (length b)) then Some (record { offset = from; length = min to (length b) - from }) else None

-- the bytes of a section in memory
abbrev pub memory_size : SectionTable → ℕ
memory_size s = if s.virtual_size == 0 then s.size_of_raw_data else s.virtual_size

-- the bytes that the RVAs of a section are mapped to
abbrev pub section_range : List ℕ → Image → SectionTable → Option Range
section_range b image s =
    if resolves image.mode then (if is_power_of_two image.file_alignment then bytes_between b (raw_start s) (raw_start s + reach image.file_alignment s) else None)
    else bytes_between b s.virtual_address (s.virtual_address + memory_size s)
