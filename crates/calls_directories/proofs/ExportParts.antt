-- What a walk reports of exports.
use Rattle.std.proofs.Common.{◌≡◌, ℕ, ◌*◌, Bool, List, [], Option, Ok, subst, arith}
use Rattle.calls_directories.proofs.Cited.{◌==◌, if◌then◌else◌, nat_tests, given, same_inside, range, record_at, ExportDataView}
use Rattle.calls_directories.proofs.Cited.{export_at, export_data_at, table_at, export_directory, ◌>>=◌, mapped, DataDirectory}
use Rattle.calls_directories.proofs.Cited.{ExportDirectoryTable, reported_entry, walk_over, with_tables, HasTables, ReportsExport}
use Rattle.calls_directories.proofs.Cited.{IsRange, no_bytes, range_from, text_stands}

-- ---- exports

pub reports : (offset : ℕ → Option ℕ) (b : List ℕ) (directory : DataDirectory) (d : ExportDataView) (i : ℕ) → ReportsExport b (reported_entry offset b directory (with_tables d.names d.ordinals d.addresses) i) (export_at offset b d i)
reports offset b directory d i = grind (arith, text_stands)

-- ---- tables

table_by : (offset : ℕ → Option ℕ) (b : List ℕ) (rva n : ℕ) (none : Bool) (t : List ℕ) → (if none then Ok [] else (mapped (offset rva) >>= λ p. record_at b p n (range b p n))) ≡ Ok t →
    IsRange b (if none then no_bytes else range_from n (offset rva)) t
table_by offset b rva n none t e = grind (arith, nat_tests)

pub tables_stand : (offset : ℕ → Option ℕ) (b : List ℕ) (rva : ℕ) (directory : DataDirectory) (d : ExportDataView) → export_data_at offset b rva ≡ Ok d → HasTables b (walk_over offset directory d) d
unfolding export_data_at
tables_stand offset b rva directory d e =
    let p = given (mapped (offset rva)) _ d e in
    let fields = given (record_at b p.0 40 (export_directory b p.0)) _ d p.2 in
    let t : ExportDirectoryTable = fields.0 in
    let addresses = given (table_at offset b t.address_table_rva (4 * t.address_table_entries)) _ d fields.2 in
    let names = given (table_at offset b t.name_pointer_rva (4 * t.number_of_name_pointers)) _ d addresses.2 in
    let ordinals = given (table_at offset b t.ordinal_table_rva (2 * t.number_of_name_pointers)) _ d names.2 in
    subst (λ (x : ExportDataView). HasTables b (walk_over offset directory x) x) (same_inside _ d ordinals.2) (record {
      names = table_by offset b t.name_pointer_rva (4 * t.number_of_name_pointers) (4 * t.number_of_name_pointers == 0) names.0 names.1;
      ordinals = table_by offset b t.ordinal_table_rva (2 * t.number_of_name_pointers) (2 * t.number_of_name_pointers == 0) ordinals.0 ordinals.1;
      addresses = table_by offset b t.address_table_rva (4 * t.address_table_entries) (4 * t.address_table_entries == 0) addresses.0 addresses.1;
    })
