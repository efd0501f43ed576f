-- A COFF object: its header, section headers, symbols and strings. (PE format: COFF object files.)
use Rattle.std.specs.Prelude.{ℕ, ◌+◌, List, Option, Result, Ok}
use Rattle.pe_core.specs.Bytes.{record_at}
use Rattle.pe_core.specs.Records.{coff_header}
use Rattle.pe_core.specs.Refusals.{Refusal, ◌>>=◌}
use Rattle.pe_core.specs.Sections.{sections_at}
use Rattle.pe_core.specs.Strings.{strings_of, strings_view}
use Rattle.pe_core.specs.Symbols.{symbols_of, symbol_table_view}
use Rattle.pe_core.specs.declared.header.CoffHeader.{CoffHeader}
use Rattle.pe_core.specs.declared.section_table.SectionTable.{SectionTable}
use Rattle.pe_image.specs.declared.coff.Coff.{Coff}

-- an object; its symbols and strings are the bytes of their tables
pub record ObjectView : Type 0 where
  pub header : CoffHeader
  pub sections : List SectionTable
  pub symbols : Option (List ℕ)
  pub strings : Option (List ℕ)

-- the view of an object
abbrev pub object_view : {Z : Type 0} → Coff Z → ObjectView
object_view c = record { header = c.header; sections = c.sections.items; symbols = symbol_table_view c.symbols; strings = strings_view c.strings }

-- the section headers of an object: after its header and the optional header, whose size the header contains
abbrev pub object_sections : List ℕ → CoffHeader → Result (List SectionTable) Refusal
object_sections b header = sections_at b (20 + header.size_of_optional_header) header.number_of_sections

-- the section headers, or the refusal of the header or of the section headers
abbrev pub sections_of_object : List ℕ → Result (List SectionTable) Refusal
sections_of_object b = record_at b 0 20 (coff_header b 0) >>= λ header. object_sections b header

-- an object, or the first refusal: of its header, section headers, symbols, strings
unfoldable pub object_of : List ℕ → Result ObjectView Refusal
object_of b =
    record_at b 0 20 (coff_header b 0) >>= λ header.
    object_sections b header >>= λ sections.
    symbols_of b header >>= λ symbols.
    strings_of b header >>= λ strings.
    Ok (record { header = header; sections = sections; symbols = symbols; strings = strings })
