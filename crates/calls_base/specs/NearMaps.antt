-- Windows of the section map, by which lists map most RVAs. Only contracts of private functions cite this.
use Rattle.std.specs.Prelude.{◌≡◌, ℕ, ◌+◌, ◌-◌, ◌<◌, ◌≤◌, ◌^◌, Option, Some, None}
use Rattle.calls_base.specs.declared.near_map.Window.{Window}

-- by the map each RVA of the window has the offset that is as far after that of the first RVA
pub record IsWindow (to_offset : ℕ → Option ℕ) (w : Window) : Type 0 where
  pub maps : (x : ℕ) → w.start ≤ x → x < w.end → to_offset x ≡ Some (w.offset + (x - w.start))
  pub small : w.offset + (w.end - w.start) ≤ 2 ^ 64

-- the same, and this RVA lies in it
pub record IsWindowOf (to_offset : ℕ → Option ℕ) (rva : ℕ) (w : Window) : Type 0 where
  pub starts : w.start ≤ rva
  pub ends : rva < w.end
  pub window : IsWindow to_offset w

-- what is found of an RVA: a window in which it lies, or none where the map has no offset for it
abbrev pub FindsWindow : (ℕ → Option ℕ) → ℕ → Option Window → Type 0
FindsWindow to_offset rva None = to_offset rva ≡ None
FindsWindow to_offset rva (Some w) = IsWindowOf to_offset rva w
