-- Base relocations. (PE format: .reloc section. The order of errors is this project's profile.)
use Rattle.std.specs.Prelude.{ℕ, List, Result}
use Rattle.pe_core.specs.Bytes.{range, record_at}
use Rattle.pe_core.specs.Refusals.{Refusal, ◌>>=◌}
use Rattle.pe_core.specs.SectionMap.{section_map, mapped}
use Rattle.pe_core.specs.declared.data_directories.DataDirectory.{DataDirectory}
use Rattle.pe_core.specs.declared.options.ParseOptions.{ParseOptions}
use Rattle.pe_core.specs.declared.section_table.SectionTable.{SectionTable}

-- the bytes of a directory: from the file offset of its RVA on, as many as its size says
unfoldable pub directory_bytes : ParseOptions → List ℕ → DataDirectory → List SectionTable → ℕ → Result (List ℕ) Refusal
directory_bytes o b d sections alignment =
    mapped (section_map o sections alignment d.virtual_address) >>= λ p. record_at b p d.size (range b p d.size)
