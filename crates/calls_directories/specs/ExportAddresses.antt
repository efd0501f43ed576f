-- The address table of an export directory: every export by its index, also those without a name.
use Rattle.std.specs.Prelude.{ℕ, ◌*◌, ◌==◌, List, [], Option, Some, None, Result, Ok, if◌then◌else◌}
use Rattle.std.specs.Option.{option_map}
use Rattle.pe_core.specs.ExportAddresses.{AddressesView, address_at}
use Rattle.pe_core.specs.Exports.{ExportDataView, export_data_at}
use Rattle.pe_core.specs.Refusals.{Refusal, ◌>>=◌}
use Rattle.pe_core.specs.declared.data_directories.DataDirectory.{DataDirectory}
use Rattle.pe_core.specs.declared.export_addresses.ExportAddress.{ExportAddress}
use Rattle.calls_directories.specs.Exports.{export_table, one_if}
use Rattle.calls_base.specs.Ranges.{one_if_some, text_from, bytes_at, or_no_bytes}
use Rattle.calls_base.specs.Images.{export_directory, is_absent}
use Rattle.calls_directories.specs.declared.names.export_addresses.AddressTable.{AddressTable}
use Rattle.calls_directories.specs.declared.names.export_addresses.Exported.{Exported}
use Rattle.calls_base.specs.declared.image.Image.{Image}
use Rattle.calls_base.specs.declared.ranges.Range.{Range}

-- the range of the text at an RVA, if it is mapped and a text is there
abbrev pub text_range : (ℕ → Option ℕ) → List ℕ → ℕ → Option Range
text_range offset b rva = text_from b (offset rva)

-- the range of the DLL's name; the RVA 0 is that of none
abbrev pub dll_name : (ℕ → Option ℕ) → List ℕ → ℕ → Option Range
dll_name offset b rva = if rva == 0 then None else text_range offset b rva

-- the address table of a directory's export data
abbrev pub address_table : (ℕ → Option ℕ) → List ℕ → DataDirectory → ExportDataView → AddressTable
address_table offset b directory d = record {
  name = or_no_bytes (dll_name offset b d.directory.name_rva);
  addresses = export_table offset d.directory.address_table_rva (4 * d.directory.address_table_entries);
  directory = directory;
  ordinal_base = d.directory.ordinal_base;
  has_name = one_if_some (dll_name offset b d.directory.name_rva);
}

-- the address table of an image, if it has an export directory; or what refuses that
unfoldable pub address_table_at : List ℕ → Image → (ℕ → Option ℕ) → Result (Option AddressTable) Refusal
address_table_at b image offset =
    if is_absent (export_directory image) then Ok None
    else export_data_at offset b (export_directory image).virtual_address >>= λ d. Ok (Some (address_table offset b (export_directory image) d))

-- the entry of an export: its numbers, and the range of a forwarder's text
abbrev pub exported_with : (ℕ → Option ℕ) → List ℕ → ExportAddress → Exported
exported_with offset b x = record {
  forwarder = or_no_bytes (if x.is_forwarder then text_range offset b x.rva else None);
  ordinal = x.ordinal;
  rva = x.rva;
  is_forwarder = one_if x.is_forwarder;
}

-- an address table whose bytes are these; it has no names
abbrev pub addresses_in : AddressTable → List ℕ → AddressesView
addresses_in t table = record { addresses = table; names = []; ordinals = []; directory = t.directory; ordinal_base = t.ordinal_base }

-- the entry of such a table with an index, if it has one
abbrev pub exported_in : (ℕ → Option ℕ) → List ℕ → AddressesView → ℕ → Option Exported
exported_in offset b table i = option_map (exported_with offset b) (address_at table i)

-- the entry with an index, if the table has it
abbrev pub exported_at : (ℕ → Option ℕ) → List ℕ → AddressTable → ℕ → Result (Option Exported) Refusal
exported_at offset b t i = bytes_at b t.addresses >>= λ table. Ok (exported_in offset b (addresses_in t table) i)
