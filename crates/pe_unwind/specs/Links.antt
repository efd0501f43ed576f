-- Links between the entries of a function table. (x64 exception handling; links by this project's profile.)
use Rattle.std.specs.Prelude.{◌≡◌, ℕ, ◌-◌, ◌*◌, ◌/◌, ◌%◌, List, length, Option, Some, None, Result, Ok, Err, if◌then◌else◌, nat_le, nat_lt, ◌==◌, ◌&&◌, option_and_then, IsSomeAnd}
use Rattle.pe_core.specs.Refusals.{Refusal, Unmapped, FunctionLink, FunctionCycle}
use Rattle.pe_core.specs.SectionMap.{SectionMapView, map_view, offset_in}
use Rattle.pe_core.specs.declared.options.ParseOptions.{ParseOptions}
use Rattle.pe_core.specs.declared.section_table.SectionTable.{SectionTable}
use Rattle.pe_core.specs.Chains.{after}
use Rattle.pe_unwind.specs.ExceptionTable.{ExceptionView, table_of}
use Rattle.pe_unwind.specs.FunctionTable.{function_at}

-- the bytes of a function table, its file offset, and the map from RVAs to file offsets
pub record Table : Type 0 where
  pub entries : List ℕ
  pub start : ℕ
  pub offset : ℕ → Option ℕ

-- the table of these bytes, at this file offset, by a map
abbrev pub linked_table : List ℕ → ℕ → (ℕ → Option ℕ) → Table
linked_table entries start offset = record { entries = entries; start = start; offset = offset }

-- the table of an exception directory, by a map
abbrev pub links_with : ExceptionView → (ℕ → Option ℕ) → Table
links_with v offset = linked_table (table_of v) v.start offset

-- the same by a section map
abbrev pub links_by : ExceptionView → SectionMapView → Table
links_by v m = links_with v (offset_in m)

-- the same by the map of these sections, with these options and the directory's own file alignment
abbrev pub links_of : ExceptionView → List SectionTable → ParseOptions → Table
links_of v sections opts = links_by v (map_view opts sections v.alignment)

-- how many whole entries there are
abbrev pub table_count : Table → ℕ
table_count t = length t.entries / 12

-- an odd unwind RVA is a link
abbrev pub IsOdd : ℕ → Type 0
IsOdd u = u % 2 ≡ 1

-- an even unwind RVA is that of a record
abbrev pub IsEven : ℕ → Type 0
IsEven u = u % 2 ≡ 0

-- the index of the entry that starts at a file offset, if one does
unfoldable pub link_entry_at : Table → ℕ → Option ℕ
link_entry_at t p =
    if nat_le t.start p && (p - t.start) % 12 == 0 && nat_lt ((p - t.start) / 12) (table_count t) then Some ((p - t.start) / 12) else None

-- the index of the entry to which an odd RVA is a link
unfoldable pub link : Table → ℕ → Option ℕ
link t u = if u % 2 == 1 then option_and_then (link_entry_at t) (t.offset (u - 1)) else None

-- the unwind RVA of an entry
abbrev pub address_of : Table → ℕ → ℕ
address_of t i = (function_at t.entries (12 * i)).unwind_info_address

-- the unwind RVA after one link
unfoldable pub next : Table → ℕ → Option ℕ
next t u = option_and_then (λ i. Some (address_of t i)) (link t u)

-- the links never end: every RVA on the way exists and is odd
abbrev pub IsEndless : Table → ℕ → Type 0
IsEndless t u = (k : ℕ) → IsSomeAnd (after (next t) k u) IsOdd

-- following the links comes to this RVA
abbrev pub Reaches : Table → ℕ → ℕ → Type 0
Reaches t u v = (k : ℕ) × (after (next t) k u ≡ Some v)

-- the result of following the links from u: the even RVA at their end, or why there is none
abbrev pub Follows : Table → ℕ → Result ℕ Refusal → Type 0
Follows t u (Ok v) = Reaches t u v × IsEven v
Follows t u (Err Unmapped) = (v : ℕ) × Reaches t u v × IsOdd v × (t.offset (v - 1) ≡ None)
Follows t u (Err FunctionLink) = (v : ℕ) × Reaches t u v × IsOdd v × (p : ℕ) × (t.offset (v - 1) ≡ Some p) × (link_entry_at t p ≡ None)
Follows t u (Err FunctionCycle) = IsEndless t u
Follows t u (Err other) = ⊥
