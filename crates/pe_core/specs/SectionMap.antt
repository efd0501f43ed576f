-- The section map: from RVAs to file offsets. (This project's profile.)
use Rattle.std.specs.Prelude.{ℕ, ◌+◌, ◌-◌, ◌*◌, ◌/◌, ◌%◌, ◌^◌, ◌==◌, ◌&&◌, min, Bool, not, List, [], ◌∷◌, filter, Option, Some, None, Result, Ok, Err, nat_le, nat_lt, if◌then◌else◌}
use Rattle.std.specs.Option.{option_map}
use Rattle.std.specs.Int.{is_power_of_two}
use Rattle.pe_core.specs.Refusals.{Refusal, Unmapped}
use Rattle.pe_core.specs.Sections.{raw_end}
use Rattle.pe_core.specs.declared.options.ParseOptions.{ParseOptions}
use Rattle.pe_core.specs.declared.section_table.SectionTable.{SectionTable}

-- n rounded down to a multiple of the unit
abbrev pub rounded_down : ℕ → ℕ → ℕ
rounded_down n unit = n / unit * unit

-- n rounded up to a multiple of the unit
abbrev pub rounded_up : ℕ → ℕ → ℕ
rounded_up n unit = (n + (unit - 1)) / unit * unit

-- the file offset of the section's data as mapped: its raw pointer rounded down to 512
abbrev pub raw_start : SectionTable → ℕ
raw_start s = rounded_down s.pointer_to_raw_data 512

-- the number of RVAs that the section covers
unfoldable pub reach : ℕ → SectionTable → ℕ
reach alignment s =
    let raw = min (rounded_up (raw_end s) alignment - raw_start s) (rounded_up s.size_of_raw_data 4096) in
    if s.virtual_size == 0 then raw else min raw (rounded_up s.virtual_size 4096)

-- the section covers the RVA: it starts at or before it, and reaches past it
abbrev pub covers : ℕ → ℕ → SectionTable → Bool
covers alignment rva s = nat_le s.virtual_address rva && nat_lt rva (s.virtual_address + reach alignment s)

-- the file offset of the RVA by this section, if it covers it
abbrev pub offset_by : ℕ → ℕ → SectionTable → Option ℕ
offset_by alignment rva s = if covers alignment rva s then Some (rva - s.virtual_address + raw_start s) else None

-- a test that every section passes that covers an RVA with these low 32 bits: the page of the RVA starts, counted from
-- the section's start modulo 2^32, before its raw size ends
abbrev pub may_cover : ℕ → SectionTable → Bool
may_cover low s = nat_lt (rounded_down ((low + (2 ^ 32 - s.virtual_address % 2 ^ 32)) % 2 ^ 32) 4096) s.size_of_raw_data

-- the first of a list
abbrev pub first : {X : Type 0} → List X → Option X
first [] = None
first (x ∷ xs) = Some x

-- the file offset of an RVA, by the first section that covers it; if RVAs are not resolved, they are file offsets
unfoldable pub offset_of : Bool → ℕ → List SectionTable → ℕ → Option ℕ
offset_of resolve alignment sections rva =
    if not resolve then Some rva
    else (if is_power_of_two alignment
    then option_map (λ s. rva - s.virtual_address + raw_start s) (first (filter (covers alignment rva) sections))
    else None)

-- the section map of an image: these sections, under these options, with this file alignment
abbrev pub section_map : ParseOptions → List SectionTable → ℕ → ℕ → Option ℕ
section_map opts sections alignment = offset_of opts.resolve_rva alignment sections

-- what a section map is made of
pub record SectionMapView : Type 0 where
  pub opts : ParseOptions
  pub alignment : ℕ
  pub sections : List SectionTable

-- what the section map of an image is made of
abbrev pub map_view : ParseOptions → List SectionTable → ℕ → SectionMapView
map_view opts sections alignment = record { opts = opts; alignment = alignment; sections = sections }

-- the file offset of an RVA by a section map
abbrev pub offset_in : SectionMapView → ℕ → Option ℕ
offset_in m = offset_of m.opts.resolve_rva m.alignment m.sections

-- the file offset, or `Unmapped` if there is none
abbrev pub mapped : Option ℕ → Result ℕ Refusal
mapped None = Err Unmapped
mapped (Some offset) = Ok offset
