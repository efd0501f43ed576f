-- Lookup of an RVA by an index of the sections of an image. Every list of entries is legal: what it names is tested as a section is
-- without an index.
use Rattle.std.specs.Prelude.{ℕ, ◌-◌, ◌==◌, ◌&&◌, Bool, List, [], ◌∷◌, length, nat_le, nat_lt, take, drop, if◌then◌else◌, slice_index_or}
use Rattle.pe_core.specs.declared.section_table.SectionTable.{SectionTable}
use Rattle.pe_lookup.specs.AddressRanges as ranges
use Rattle.pe_core.specs.declared.range_index.RangeEntry.{RangeEntry}

-- an entry that says nothing
abbrev pub no_entry : RangeEntry
no_entry = record { start = 0; number = 0 }

-- there are so many entries, and the last of them starts at or before the RVA
abbrev pub start_by : List RangeEntry → ℕ → ℕ → Bool
start_by es x m = ranges.start_by (λ e. e.start) no_entry es x m

-- how many entries start at or before an RVA, where they are sorted by start: the search by halving, from the highest of n bits on,
-- after k entries that do
abbrev pub started : List RangeEntry → ℕ → ℕ → ℕ → ℕ
started es x n k = ranges.started (λ e. e.start) no_entry es x n k

-- the number in the last of the entries that start at or before the RVA; 0 without one
abbrev pub number_found : List RangeEntry → ℕ → ℕ
number_found es x = if started es x 64 0 == 0 then 0 else (slice_index_or es (started es x 64 0 - 1) no_entry).number

-- the section with this index plus 1, if there is one
abbrev pub numbered : List SectionTable → ℕ → List SectionTable
numbered sections n = if nat_lt 0 n && nat_le n (length sections) then take 1 (drop (n - 1) sections) else []

-- the sections that may map an RVA: all of them without an index, else the one that the index names
unfoldable pub sections_by : List SectionTable → List RangeEntry → ℕ → List SectionTable
sections_by sections [] x = sections
sections_by sections (e ∷ es) x = numbered sections (number_found (e ∷ es) x)
