-- The index of a section map.
use Rattle.std.specs.Prelude.{◌≡◌, ℕ, ◌-◌, ◌^◌, true, List, Option, Some, None}
use Rattle.std.specs.Int.{is_power_of_two}
use Rattle.pe_core.specs.declared.range_index.RangeEntry.{RangeEntry}
use Rattle.pe_core.specs.declared.section_table.SectionTable.{SectionTable}
use Rattle.pe_core.specs.RangeIndexes.{Indexes}
use Rattle.pe_core.specs.SectionMap.{SectionMapView, reach}

-- RVAs are resolved, and the entries are those of the sections as ranges of RVAs
pub record Agrees (m : SectionMapView) (entries : List RangeEntry) : Type 0 where
  pub resolves : m.opts.resolve_rva ≡ true
  pub aligns : is_power_of_two m.alignment ≡ true
  pub indexes : Indexes (λ (s : SectionTable). s.virtual_address) (reach m.alignment) 0 m.sections entries

-- the file offset, or if there is none the greatest number, at which no byte is
abbrev pub offset_or_end : Option ℕ → ℕ
offset_or_end None = 2 ^ 64 - 1
offset_or_end (Some p) = p
