-- The debug directory of a TE image needs no sections.
use Rattle.std.proofs.Common.{◌≡◌, ℕ, List, [], refl}
use Rattle.pe_core.specs.Options.{te_options}
use Rattle.pe_core.specs.SectionMap.{offset_of}
use Rattle.pe_core.specs.declared.data_directories.DataDirectory.{DataDirectory}
use Rattle.pe_core.specs.declared.section_table.SectionTable.{SectionTable}
use Rattle.pe_records.specs.DebugDirectory.{directory_range}

pub without_sections : (b : List ℕ) (d : DataDirectory) (sections : List SectionTable) (alignment : ℕ) → directory_range te_options b d sections alignment ≡ directory_range te_options b d [] 0
unfolding directory_range offset_of
without_sections b d sections alignment = refl
