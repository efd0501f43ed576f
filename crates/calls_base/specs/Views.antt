-- An image as calls take it in one argument.
use Rattle.std.specs.Prelude.{ℕ, List, Option}
use Rattle.pe_core.specs.declared.section_table.SectionTable.{SectionTable}
use Rattle.calls_base.specs.declared.view.View.{View}
use Rattle.calls_base.specs.Images.{for_directory, map_of_image}
use Rattle.pe_lookup.specs.SectionIndexes.{sections_by}

-- the sections that may map an RVA: all of them, or the one that an index names where the view has one
abbrev pub may_map : View → ℕ → List SectionTable
may_map v x = sections_by v.sections.now v.index.now x

-- those that may map the RVA of the directory with this index
abbrev pub directory_sections : View → ℕ → List SectionTable
directory_sections v i = for_directory (may_map v) v.image.now i

-- the file offset of an RVA
abbrev pub map_of : View → ℕ → Option ℕ
map_of v x = map_of_image v.image.now (may_map v x) x
