-- Exports by their index: the parts of an address table, and the entry that a named export has.
use Rattle.std.proofs.Common.{◌≡◌, ℕ, ◌*◌, List, length, Option, Some, Ok, refl, subst, arith}
use Rattle.calls_directories.proofs.Cited.{option_and_then, option_map, record_at, AddressesView, address_with, forwarder_text}
use Rattle.calls_directories.proofs.Cited.{lies_in, ExportDataView, export_data_at, image_name, table_at, table_entry}
use Rattle.calls_directories.proofs.Cited.{export_directory, mapped, text_at, DataDirectory, ExportDirectoryTable, address_table}
use Rattle.calls_directories.proofs.Cited.{addresses_in, exported_with, exported_at, export_reported, one_if, reported_entry}
use Rattle.calls_directories.proofs.Cited.{IsPart, IsRange, bytes_at, or_no_bytes, AddressTable, Export, text_stands, given}
use Rattle.calls_directories.proofs.Cited.{same_inside}
use Rattle.calls_directories.proofs.ExportParts.{tables_stand}

-- ---- texts

part_at : (b : List ℕ) (at : Option ℕ) → IsPart b (or_no_bytes (option_and_then (λ p. option_map (λ t. record { offset = p; length = length t }) (text_at b p)) at)) (option_and_then (text_at b) at)
part_at b at = grind (arith, text_stands)

pub forwarders : (offset : ℕ → Option ℕ) (b : List ℕ) (t : AddressesView) (i rva : ℕ) → IsPart b (exported_with offset b (address_with t i rva)).forwarder (forwarder_text offset b t.directory rva)
forwarders offset b t i rva = grind (arith, part_at)

-- ---- the table

pub name_is : (offset : ℕ → Option ℕ) (b : List ℕ) (rva : ℕ) (d : ExportDataView) → export_data_at offset b rva ≡ Ok d → image_name offset b d.directory.name_rva ≡ d.name
unfolding export_data_at
name_is offset b rva d e =
    let p = given (mapped (offset rva)) _ d e in
    let directory = given (record_at b p.0 40 (export_directory b p.0)) _ d p.2 in
    let t : ExportDirectoryTable = directory.0 in
    let addresses = given (table_at offset b t.address_table_rva (4 * t.address_table_entries)) _ d directory.2 in
    let names = given (table_at offset b t.name_pointer_rva (4 * t.number_of_name_pointers)) _ d addresses.2 in
    let ordinals = given (table_at offset b t.ordinal_table_rva (2 * t.number_of_name_pointers)) _ d names.2 in
    subst (λ (x : ExportDataView). image_name offset b x.directory.name_rva ≡ x.name) (same_inside _ d ordinals.2) refl

pub names_stand : (offset : ℕ → Option ℕ) (b : List ℕ) (rva : ℕ) (directory : DataDirectory) (d : ExportDataView) → export_data_at offset b rva ≡ Ok d → IsPart b (address_table offset b directory d).name d.name
names_stand offset b rva directory d e =
    subst (λ (x : Option (List ℕ)). IsPart b (address_table offset b directory d).name x) (name_is offset b rva d e)
    (grind (arith, part_at))

pub addresses_stand : (offset : ℕ → Option ℕ) (b : List ℕ) (rva : ℕ) (directory : DataDirectory) (d : ExportDataView) → export_data_at offset b rva ≡ Ok d → IsRange b (address_table offset b directory d).addresses d.addresses
addresses_stand offset b rva directory d e = (tables_stand offset b rva directory d e).addresses

-- ---- the entry of a named export

-- what holds of every export whose entry the address table has
abbrev OfEntries : (Export → Type 0) → (ℕ → Option ℕ) → List ℕ → DataDirectory → ExportDataView → Type 0
OfEntries Holds offset b g d = (p k r : ℕ) (name : List ℕ) → table_entry 4 d.addresses k ≡ Some r → Holds (export_reported b g p k (record { name = name; rva = r; offset = offset r }))

by_rva : (Holds : Export → Type 0) (offset : ℕ → Option ℕ) (b : List ℕ) (g : DataDirectory) (d : ExportDataView) (p k : ℕ) (name : List ℕ) (rva : Option ℕ) (x : Export) →
    OfEntries Holds offset b g d → table_entry 4 d.addresses k ≡ rva →
    option_map (export_reported b g p k) (option_map (λ r. record { name = name; rva = r; offset = offset r }) rva) ≡ Some x → Holds x
by_rva Holds offset b g d p k name rva x all h e = grind arith

-- so it holds of the export of an entry of the name table
of_entry : (Holds : Export → Type 0) (offset : ℕ → Option ℕ) (b : List ℕ) (g : DataDirectory) (d : ExportDataView) (i : ℕ) (x : Export) →
    OfEntries Holds offset b g d → reported_entry offset b g d i ≡ Some x → Holds x
of_entry Holds offset b g d i x all e = grind (arith, by_rva)

pub entries : (offset : ℕ → Option ℕ) (b : List ℕ) (g : DataDirectory) (d : ExportDataView) (t : AddressTable) (i : ℕ) (x : Export) →
    bytes_at b t.addresses ≡ Ok d.addresses → reported_entry offset b g d i ≡ Some x →
    exported_at offset b t x.index ≡ Ok (Some (exported_with offset b (address_with (addresses_in t d.addresses) x.index x.rva)))
entries offset b g d t i x there e = grind (arith, of_entry)

-- ---- whether a named export is a forwarder, and its text

pub named_forwarders : (offset : ℕ → Option ℕ) (b : List ℕ) (d : ExportDataView) (t : AddressTable) (i : ℕ) (x : Export) → reported_entry offset b t.directory d i ≡ Some x →
    x.is_forwarder ≡ (exported_with offset b (address_with (addresses_in t d.addresses) x.index x.rva)).is_forwarder
named_forwarders offset b d t i x e = of_entry (λ y. y.is_forwarder ≡ one_if (lies_in t.directory y.rva)) offset b t.directory d i x (λ p k r name h. refl) e
