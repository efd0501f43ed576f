-- What calls return of the modules of a PDB.
use Rattle.std.specs.Prelude.{◌≡◌, ℕ, ◌+◌, ◌-◌, ◌==◌, List, length, min, Option, Some, None, Result, Ok, Err, if◌then◌else◌, Bool, true, false, ◌++◌, drop, nat_le}
use Rattle.std.specs.Option.{option_map}
use Rattle.pe_core.specs.Refusals.{◌>>=◌}
use Rattle.pe_pdb.specs.Modules.{ModuleView, module_at, module_end}
use Rattle.pe_pdb.specs.Refusals.{PdbRefusal}
use Rattle.pe_pdb.specs.declared.module.ModuleRecord.{ModuleRecord}
use Rattle.calls_pdb.specs.Pdbs.{part_of, pdb_number}
use Rattle.calls_base.specs.Ranges.{no_bytes, range_after}
use Rattle.calls_pdb.specs.declared.modules.PdbModule.{PdbModule}
use Rattle.calls_base.specs.declared.ranges.Range.{Range}
use Rattle.pe_pdb.specs.Contributions.{ContributionsView, contributions_of, count_of, module_ranges}
use Rattle.pe_pdb.specs.SectionHeaders.{headers_of}
use Rattle.pe_pdb.specs.declared.contribution.ModuleRange.{ModuleRange}
use Rattle.calls_base.specs.declared.results.TheConstants.{DONE, ROOM}

-- the symbols of a module in its stream, after the number of 4 bytes at its start, if it has any
abbrev pub symbols_range : ModuleRecord → Range
symbols_range m = if m.symbols_size == 0 then no_bytes else record { offset = 4; length = m.symbols_size - 4 }

-- a module as callers get it, whose record is at an offset
abbrev pub module_reported : ℕ → ModuleView → PdbModule
module_reported p m = record {
  name = record { offset = p + 64; length = length m.name };
  file = record { offset = p + 64 + length m.name + 1; length = length m.file };
  symbols = symbols_range m.header;
  lines = record { offset = (m.header).symbols_size + (m.header).c11_size; length = (m.header).c13_size };
  code_offset = (m.header).code_offset;
  code_size = (m.header).code_size;
  section = (m.header).section;
  flags = (m.header).flags;
  stream = (m.header).stream;
  number_of_files = (m.header).files;
}

-- the module that stands first in what is left, and how many bytes of it it has; none where nothing is left
abbrev pub first_of : ℕ → List ℕ → ModuleView → PdbModule × ℕ
first_of p left m = (module_reported p m, min (module_end m) (length left))

abbrev pub first_module : ℕ → List ℕ → Result (Option (PdbModule × ℕ)) PdbRefusal
first_module p left = if length left == 0 then Ok None else (module_at left 0 >>= λ m. Ok (Some (first_of p left m)))

abbrev pub first_at : List ℕ → Range → Result (Option (PdbModule × ℕ)) PdbRefusal
first_at b r = part_of b r >>= first_module r.offset

-- what a step returns
abbrev pub module_step : List ℕ → Range → Result (Option PdbModule) PdbRefusal
module_step b r = first_at b r >>= λ o. Ok (option_map (λ x. x.0) o)

-- the walk after it: over after an error, and unchanged where nothing is left
abbrev pub walk_by : Range → Result (Option (PdbModule × ℕ)) PdbRefusal → Range
walk_by r (Ok None) = r
walk_by r (Ok (Some x)) = range_after r x.1
walk_by r (Err refusal) = no_bytes

abbrev pub module_walk : List ℕ → Range → Range
module_walk b r = walk_by r (first_at b r)

-- a step over the modules of a DBI stream
abbrev pub StepsModules : List ℕ → Range → Result (Option PdbModule) PdbRefusal → Range → Type 0
StepsModules b old answer new = (answer ≡ module_step b old) × (new ≡ module_walk b old)

-- ---- what calls return of the section contributions of a PDB

-- the contributions in a range of the DBI stream
abbrev pub contributions_at : List ℕ → Range → Result ContributionsView PdbRefusal
contributions_at b r = part_of b r >>= contributions_of

-- with the section headers by which they have RVAs
abbrev pub module_rows : List ℕ → Range → List ℕ → Result (List ℕ × ContributionsView) PdbRefusal
module_rows b r sections = do
  headers ← headers_of sections
  rows ← contributions_at b r
  Ok (headers, rows)

-- by whether there is room: the range of each at the start of the room; else it is unchanged
abbrev pub PutsRangesIf : Bool → List ModuleRange → ℕ → List ModuleRange → List ModuleRange → ℕ → Type 0
PutsRangesIf true ranges number old new n = (number ≡ DONE) × (new ≡ ranges ++ drop n old)
PutsRangesIf false ranges number old new n = (number ≡ ROOM) × (new ≡ old)

-- how many there are, whether there is room or not; else the number of the refusal, and all is unchanged
abbrev pub HandsOutRanges : Result (List ℕ × ContributionsView) PdbRefusal → ℕ → List ModuleRange → List ModuleRange → ℕ → ℕ → Type 0
HandsOutRanges (Ok x) number old new before written =
    PutsRangesIf (nat_le (count_of x.1) (length old)) (module_ranges x.0 x.1 (count_of x.1)) number old new (count_of x.1) × (written ≡ count_of x.1)
HandsOutRanges (Err refusal) number old new before written = (number ≡ pdb_number refusal) × (new ≡ old) × (written ≡ before)
