-- The image of a file as a loader lays it out in memory. (PE format: the headers at RVA 0, the raw data of each section at its RVA,
-- zeros elsewhere. Which section has an RVA is what the section map says.)
use Rattle.std.specs.Prelude.{◌≡◌, ℕ, ◌+◌, ◌-◌, ◌<◌, ◌≤◌, List, take, filter, get_or, Option, Some, None}
use Rattle.std.specs.Option.{option_map}
use Rattle.pe_core.specs.Rows.{each}
use Rattle.pe_core.specs.SectionMap.{covers, first, raw_start, section_map}
use Rattle.pe_core.specs.declared.section_table.SectionTable.{SectionTable}
use Rattle.pe_directories.specs.ImageParts.{ImageView}
use Rattle.pe_directories.specs.declared.section_runs.Run.{Run}

-- the byte at an offset, 0 where there is none
abbrev pub byte_or_zero : List ℕ → ℕ → ℕ
byte_or_zero b p = get_or b p 0

-- the byte at an RVA: the file's at the offset to which it is mapped; where it is mapped to none that of the headers, which are
-- so many bytes at the start of the file
abbrev pub loaded_byte : List ℕ → ℕ → ℕ → Option ℕ → ℕ
loaded_byte b headers rva (Some p) = byte_or_zero b p
loaded_byte b headers rva None = byte_or_zero (take headers b) rva

-- the image, this many bytes: those of its RVAs by a map, in their order
abbrev pub loaded : (ℕ → Option ℕ) → List ℕ → ℕ → ℕ → List ℕ
loaded to_offset b headers size = each (λ rva. loaded_byte b headers rva (to_offset rva)) size

-- ---- how it is written: run by run

-- the RVAs from this one up to the end of the run are mapped to the offsets from that of the run on, or none of them is mapped
pub record IsRun (to_offset : ℕ → Option ℕ) (rva : ℕ) (r : Run) : Type 0 where
  pub ahead : rva < r.end
  pub maps : (x : ℕ) → rva ≤ x → x < r.end → to_offset x ≡ option_map (λ p. p + (x - rva)) r.offset

-- the file offset of an RVA of an image
abbrev pub map_of : ImageView → ℕ → Option ℕ
map_of i = section_map i.opts i.sections i.file_alignment

-- the file offset of an RVA by the first section that covers it
abbrev pub in_turn : ℕ → List SectionTable → ℕ → Option ℕ
in_turn alignment sections x = option_map (λ s. x - s.virtual_address + raw_start s) (first (filter (covers alignment x) sections))
