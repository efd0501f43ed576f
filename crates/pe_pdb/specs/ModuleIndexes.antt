-- An index of modules by the RVAs that they have.
use Rattle.std.specs.Prelude.{◌≡◌, ℕ, ◌*◌, ◌<◌, ◌≤◌, List, length, Result, Ok, Err}
use Rattle.pe_pdb.specs.declared.contribution.ModuleRange.{ModuleRange}
use Rattle.pe_pdb.specs.declared.module_index.ModuleIndex.{ModuleIndex}

-- the index is that of these ranges, for which a room has place; or how many entries it has to have
abbrev pub IndexesModules : List ModuleRange → ℕ → Result ModuleIndex ℕ → Type 0
IndexesModules ranges room (Ok index) = (4 * length ranges ≤ room) × (index.ranges.now ≡ ranges)
IndexesModules ranges room (Err n) = (room < 4 * length ranges) × (n ≡ 4 * length ranges)
