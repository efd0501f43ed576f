-- The strings of all sections, from their offsets.
use Rattle.std.proofs.Common.{◌≡◌, ℕ, ◌<◌, ◌^◌, List, [], ◌∷◌, map, length, refl, arith}
use Rattle.pe_directories.proofs.Cited.{text_at, SectionTable}
use Rattle.pe_core.proofs.ExportLists.{text_or_end}
use Rattle.pe_directories.specs.SectionNames.{long_section_name, text_offset}

one : (table : List ℕ) (s : SectionTable) → length table < 2 ^ 64 → text_at table (text_offset s) ≡ long_section_name s table
unfolding text_offset long_section_name
one table s small = grind (arith, text_or_end)

pub names_there : (table : List ℕ) (sections : List SectionTable) → length table < 2 ^ 64
    → map (text_at table) (map text_offset sections) ≡ map (λ s. long_section_name s table) sections
names_there table [] small = refl
names_there table (s ∷ more) small = grind (arith, one, names_there table more small)
