-- A TE image: its header, its section headers and its debug data, each reduced by the bytes that the file is shorter
-- than the PE image. (This project's profile.)
use Rattle.std.specs.Prelude.{ℕ, List, Result, Ok}
use Rattle.pe_core.specs.Options.{te_options}
use Rattle.pe_core.specs.Refusals.{Refusal, ◌>>=◌}
use Rattle.pe_core.specs.TeImages.{rva_offset, te_header_of, te_sections_of}
use Rattle.pe_core.specs.declared.header.TeHeader.{TeHeader}
use Rattle.pe_core.specs.declared.section_table.SectionTable.{SectionTable}
use Rattle.pe_records.specs.DebugRecords.{DebugFields, debug_data, debug_view}
use Rattle.pe_image.specs.declared.te.TE.{TE}

-- a TE image, independent of where its bytes lie in memory
pub record TeView : Type 0 where
  pub header : TeHeader
  pub sections : List SectionTable
  pub debug_data : DebugFields
  pub rva_offset : ℕ

-- the view of a TE image
abbrev pub te_view : {Z : Type 0} → TE Z → TeView
te_view t = record { header = t.header; sections = t.sections.items; debug_data = debug_view t.debug_data; rva_offset = t.rva_offset }

-- the section headers of a TE image, or the refusal of its header or of the section headers
abbrev pub te_sections : List ℕ → Result (List SectionTable) Refusal
te_sections b = te_header_of b >>= λ header. te_sections_of b header

-- a TE image, or the first refusal: of its header, its section headers, its debug data
unfoldable pub te_of : List ℕ → Result TeView Refusal
te_of b =
    te_header_of b >>= λ header.
    te_sections_of b header >>= λ sections.
    debug_data te_options b header.debug_dir sections 0 (rva_offset header) >>= λ debug.
    Ok (record { header = header; sections = sections; debug_data = debug; rva_offset = rva_offset header })
