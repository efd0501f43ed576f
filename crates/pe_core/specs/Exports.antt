-- Exports: the export directory with its three tables, and the list of named exports. (PE format: the .edata section.)
use Rattle.std.specs.Prelude.{ℕ, ◌*◌, ◌/◌, ◌==◌, List, [], length, Option, Some, None, Result, Ok, if◌then◌else◌}
use Rattle.std.specs.List.{filter_map}
use Rattle.std.specs.Option.{option_and_then, option_map}
use Rattle.pe_core.specs.Bytes.{le, holds, range, record_at}
use Rattle.pe_core.specs.Records.{export_directory}
use Rattle.pe_core.specs.Refusals.{Refusal, ◌>>=◌}
use Rattle.pe_core.specs.Rows.{each}
use Rattle.pe_core.specs.SectionMap.{mapped}
use Rattle.pe_core.specs.Text.{text_at}
use Rattle.pe_core.specs.declared.export.Export.{Export}
use Rattle.pe_core.specs.declared.export.ExportData.{ExportData}
use Rattle.pe_core.specs.declared.export.ExportDirectoryTable.{ExportDirectoryTable}

-- what is seen of an export directory: its fields, and its name and tables as bytes
pub record ExportDataView : Type 0 where
  pub directory : ExportDirectoryTable
  pub name : Option (List ℕ)
  pub addresses : List ℕ
  pub names : List ℕ
  pub ordinals : List ℕ

-- what is seen of `ExportData`
abbrev pub export_data_view : ExportData → ExportDataView
export_data_view d = record { directory = d.directory; name = option_map (λ s. s.now) d.name; addresses = d.addresses.now; names = d.names.now; ordinals = d.ordinals.now }

-- what is seen of an export: its name as bytes, its RVA and its file offset
pub record ExportView : Type 0 where
  pub name : List ℕ
  pub rva : ℕ
  pub offset : Option ℕ

-- what is seen of `Export`
abbrev pub export_view : Export → ExportView
export_view e = record { name = e.name.now; rva = e.rva; offset = e.offset }

-- ---- the directory; `offset` maps an RVA to its file offset

-- the text at an RVA, if the RVA is mapped and a text is there
abbrev pub text_at_address : (ℕ → Option ℕ) → List ℕ → ℕ → Option (List ℕ)
text_at_address offset b rva = option_and_then (text_at b) (offset rva)

-- the name of the image; an image with the RVA 0 for it has none
abbrev pub image_name : (ℕ → Option ℕ) → List ℕ → ℕ → Option (List ℕ)
image_name offset b rva = if rva == 0 then None else text_at_address offset b rva

-- a table of n bytes at an RVA; a table of no bytes is empty, whatever its RVA
abbrev pub table_at : (ℕ → Option ℕ) → List ℕ → ℕ → ℕ → Result (List ℕ) Refusal
table_at offset b rva n = if n == 0 then Ok [] else (mapped (offset rva) >>= λ p. record_at b p n (range b p n))

-- the export directory at an RVA: its 40 bytes, then its three tables
unfoldable pub export_data_at : (ℕ → Option ℕ) → List ℕ → ℕ → Result ExportDataView Refusal
export_data_at offset b rva = do
  p ← mapped (offset rva)
  directory ← record_at b p 40 (export_directory b p)
  addresses ← table_at offset b directory.address_table_rva (4 * directory.address_table_entries)
  names ← table_at offset b directory.name_pointer_rva (4 * directory.number_of_name_pointers)
  ordinals ← table_at offset b directory.ordinal_table_rva (2 * directory.number_of_name_pointers)
  Ok (record { directory = directory; name = image_name offset b directory.name_rva; addresses = addresses; names = names; ordinals = ordinals })

-- ---- the list

-- entry i of a table with entries of n bytes, if it is there
abbrev pub table_entry : ℕ → List ℕ → ℕ → Option ℕ
table_entry n table i = if holds table (n * i) n then Some (le table (n * i) n) else None

-- the export of a name with index i in the name table: its index in the address table, then the RVA there, if both are
-- there
abbrev pub named_export : (ℕ → Option ℕ) → ExportDataView → ℕ → List ℕ → Option ExportView
named_export offset d i name =
    option_map (λ rva. record { name = name; rva = rva; offset = offset rva }) (option_and_then (table_entry 4 d.addresses) (table_entry 2 d.ordinals i))

-- the export of entry i of the name table, if its name is there too
abbrev pub export_at : (ℕ → Option ℕ) → List ℕ → ExportDataView → ℕ → Option ExportView
export_at offset b d i = option_and_then (named_export offset d i) (text_at_address offset b (le d.names (4 * i) 4))

-- the exports of the entries of the name table, in order, without the entries that have none
unfoldable pub exports : (ℕ → Option ℕ) → List ℕ → ExportDataView → List ExportView
exports offset b d = filter_map (λ e. e) (each (export_at offset b d) (length d.names / 4))
