-- The RVAs around the last one that was mapped. Only private contracts cite this.
use Rattle.std.specs.Prelude.{◌≡◌, ℕ, ◌+◌, ◌-◌, ◌^◌, ◌<◌, ◌≤◌, List, Some}
use Rattle.pe_core.specs.RangeIndexes.{number_at}
use Rattle.pe_core.specs.SectionMap.{SectionMapView, offset_in}
use Rattle.pe_core.specs.declared.range_index.RangeEntry.{RangeEntry}
use Rattle.pe_core.specs.declared.section_window.Window.{Window}

-- RVA x lies between an entry and `end`, and each RVA there has the number of the entry, which is that of a section
pub record IsPieceOf (entries : List RangeEntry) (x : ℕ) (entry : RangeEntry) (end : ℕ) : Type 0 where
  pub some : 0 < entry.number
  pub starts : entry.start ≤ x
  pub ends : x < end
  pub numbered : (y : ℕ) → entry.start ≤ y → y < end → number_at entries y ≡ entry.number

-- by the map each RVA of the window has the file offset that its section says
pub record IsWindow (m : SectionMapView) (w : Window) : Type 0 where
  pub above : (x : ℕ) → x < 2 ^ 32 → w.start ≤ x → x < w.end → w.address ≤ x
  pub maps : (x : ℕ) → x < 2 ^ 32 → w.start ≤ x → x < w.end → Some (x - w.address + w.offset) ≡ offset_in m x
