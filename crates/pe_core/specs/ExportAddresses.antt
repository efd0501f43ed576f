-- The address table of the export directory: all exports by their index, also those that have no name, and the index to
-- which each name leads. (PE format: the .edata section.)
use Rattle.std.specs.Prelude.{ℕ, ◌+◌, ◌-◌, ◌*◌, ◌/◌, ◌&&◌, Bool, List, length, map, nat_le, nat_lt, Option, None, if◌then◌else◌}
use Rattle.std.specs.List.{range_with_len}
use Rattle.std.specs.Option.{option_and_then, option_map}
use Rattle.pe_core.specs.Bytes.{le}
use Rattle.pe_core.specs.Exports.{ExportDataView, table_entry, text_at_address}
use Rattle.pe_core.specs.declared.data_directories.DataDirectory.{DataDirectory}
use Rattle.pe_core.specs.declared.export_addresses.ExportAddress.{ExportAddress}
use Rattle.pe_core.specs.declared.export_addresses.ExportAddressIterator.{ExportAddressIterator}
use Rattle.pe_core.specs.declared.export_addresses.ExportAddresses.{ExportAddresses}
use Rattle.pe_core.specs.declared.export_addresses.ExportName.{ExportName}

-- what is seen of `ExportAddresses`: the tables as bytes, the export directory, and the ordinal of the first entry
pub record AddressesView : Type 0 where
  pub addresses : List ℕ
  pub names : List ℕ
  pub ordinals : List ℕ
  pub directory : DataDirectory
  pub ordinal_base : ℕ

abbrev pub addresses_view : ExportAddresses → AddressesView
addresses_view t = record { addresses = t.addresses.now; names = t.names.now; ordinals = t.ordinals.now; directory = t.directory; ordinal_base = t.ordinal_base }

-- the address table of export data, whose directory is this one
abbrev pub addresses_of : DataDirectory → ExportDataView → AddressesView
addresses_of directory d = record { addresses = d.addresses; names = d.names; ordinals = d.ordinals; directory = directory; ordinal_base = d.directory.ordinal_base }

-- ---- by index

-- whether an RVA lies in a directory
abbrev pub lies_in : DataDirectory → ℕ → Bool
lies_in d rva = nat_le d.virtual_address rva && nat_lt rva (d.virtual_address + d.size)

-- the export with this index and RVA: its ordinal is the base plus the index, and it is a forwarder if the RVA lies in the
-- export directory
abbrev pub address_with : AddressesView → ℕ → ℕ → ExportAddress
address_with t i rva = record { ordinal = t.ordinal_base + i; rva = rva; is_forwarder = lies_in t.directory rva }

-- the export with an index, if the table has it
abbrev pub address_at : AddressesView → ℕ → Option ExportAddress
address_at t i = option_map (address_with t i) (table_entry 4 t.addresses i)

-- the exports from an index on, in the order of the table
abbrev pub addresses_from : AddressesView → ℕ → List ExportAddress
addresses_from t i = map (λ k. address_with t k (le t.addresses (4 * k) 4)) (range_with_len i (length t.addresses / 4 - i))

-- the exports that an iterator has left
abbrev pub addresses_left : ExportAddressIterator → List ExportAddress
addresses_left s = addresses_from (addresses_view s.table) s.next

-- the text of a forwarder, if the RVA is that of one and a text is there; `offset` maps an RVA to its file offset
abbrev pub forwarder_text : (ℕ → Option ℕ) → List ℕ → DataDirectory → ℕ → Option (List ℕ)
forwarder_text offset b d rva = if lies_in d rva then text_at_address offset b rva else None

-- ---- by name

-- what is seen of `ExportName`: the name as bytes, and the index in the address table to which it leads
pub record NameView : Type 0 where
  pub name : List ℕ
  pub index : ℕ

abbrev pub name_view : ExportName → NameView
name_view n = record { name = n.name.now; index = n.index }

-- entry i of the name table with its index, if both are there and the name is text
abbrev pub name_at : (ℕ → Option ℕ) → List ℕ → AddressesView → ℕ → Option NameView
name_at offset b t i =
    option_and_then (λ name. option_map (λ k. record { name = name; index = k }) (table_entry 2 t.ordinals i)) (option_and_then (text_at_address offset b) (table_entry 4 t.names i))
