-- Exports: the tables of the directory, and a walk over the exports that have a name.
use Rattle.std.specs.Prelude.{◌≡◌, ℕ, ◌+◌, ◌*◌, ◌/◌, ◌-◌, ◌<◌, ◌≤◌, ◌==◌, Bool, true, false, List, length, nat_le, Option, Some, None, Result, Ok, Err, if◌then◌else◌}
use Rattle.std.specs.List.{filter_map, range_with_len}
use Rattle.std.specs.Option.{option_map, option_and_then}
use Rattle.pe_core.specs.Bytes.{le}
use Rattle.pe_core.specs.ExportAddresses.{lies_in}
use Rattle.pe_core.specs.Exports.{ExportDataView, ExportView, export_data_at, named_export}
use Rattle.pe_core.specs.Refusals.{Refusal, ◌>>=◌}
use Rattle.pe_core.specs.Text.{text_at}
use Rattle.pe_core.specs.declared.data_directories.DataDirectory.{DataDirectory}
use Rattle.calls_directories.specs.declared.names.exports.Export.{Export}
use Rattle.calls_directories.specs.declared.names.exports.Exports.{Exports}
use Rattle.calls_directories.specs.declared.names.exports.Tables.{Tables}
use Rattle.calls_base.specs.declared.image.Image.{Image}
use Rattle.calls_base.specs.declared.ranges.Range.{Range}
use Rattle.calls_base.specs.Images.{export_directory, is_absent}
use Rattle.calls_base.specs.Ranges.{bytes_at, no_bytes, or_no_bytes, range_from, or_zero, one_if_some, text_from}
use Rattle.calls_base.specs.NearMaps.{IsWindow}
use Rattle.calls_directories.specs.declared.names.near_exports.ExportWindows.{ExportWindows}

-- ---- the tables

-- the range of a table of n bytes at an RVA; an empty table has the empty range
abbrev pub export_table : (ℕ → Option ℕ) → ℕ → ℕ → Range
export_table offset rva n = if n == 0 then no_bytes else range_from n (offset rva)

-- a walk over the exports of a directory, at its start
abbrev pub walk_over : (ℕ → Option ℕ) → DataDirectory → ExportDataView → Exports
walk_over offset directory d = record {
  names = export_table offset d.directory.name_pointer_rva (4 * d.directory.number_of_name_pointers);
  ordinals = export_table offset d.directory.ordinal_table_rva (2 * d.directory.number_of_name_pointers);
  addresses = export_table offset d.directory.address_table_rva (4 * d.directory.address_table_entries);
  next = 0;
  directory = directory;
}

-- the tables of an image's export directory as a walk, if it has one; or what refuses it
unfoldable pub tables_at : List ℕ → Image → (ℕ → Option ℕ) → Result (Option Exports) Refusal
tables_at b image offset =
    if is_absent (export_directory image) then Ok None
    else export_data_at offset b (export_directory image).virtual_address >>= λ d. Ok (Some (walk_over offset (export_directory image) d))

-- ---- the walk

-- export data of which these tables alone are known: exports are read from nothing else
abbrev pub with_tables : List ℕ → List ℕ → List ℕ → ExportDataView
with_tables names ordinals addresses = record {
  directory = record {
    characteristics = 0;
    time_date_stamp = 0;
    major = 0;
    minor = 0;
    name_rva = 0;
    ordinal_base = 0;
    address_table_entries = 0;
    number_of_name_pointers = 0;
    address_table_rva = 0;
    name_pointer_rva = 0;
    ordinal_table_rva = 0;
  };
  name = None;
  addresses = addresses;
  names = names;
  ordinals = ordinals;
}

-- the tables of a walk as export data
abbrev pub view_of : Tables → ExportDataView
view_of t = with_tables t.names.now t.ordinals.now t.addresses.now

-- the tables of a walk, or `Short` where one is not inside the bytes
abbrev pub tables_or_short : List ℕ → Exports → Result ExportDataView Refusal
tables_or_short b w = do
  names ← bytes_at b w.names
  ordinals ← bytes_at b w.ordinals
  addresses ← bytes_at b w.addresses
  Ok (with_tables names ordinals addresses)

-- 1 or 0
abbrev pub one_if : Bool → ℕ
one_if c = if c then 1 else 0

-- an export whose name is at offset p, with its index in the address table; it is a forwarder, with the text at its offset, if its
-- RVA lies in this directory
abbrev pub export_reported : List ℕ → DataDirectory → ℕ → ℕ → ExportView → Export
export_reported b directory p index e = record {
  name = record { offset = p; length = length e.name };
  forwarder = or_no_bytes (if lies_in directory e.rva then text_from b e.offset else None);
  offset = or_zero e.offset;
  rva = e.rva;
  has_offset = one_if_some e.offset;
  index = index;
  is_forwarder = one_if (lies_in directory e.rva);
}

-- the index in the address table that entry i of the ordinal table has
abbrev pub index_at : ExportDataView → ℕ → ℕ
index_at d i = le d.ordinals (2 * i) 2

-- the export of entry i of the name table, if its name is mapped and is text, and its ordinal is in the address table; which are
-- forwarders depends on the export directory
abbrev pub reported_entry : (ℕ → Option ℕ) → List ℕ → DataDirectory → ExportDataView → ℕ → Option Export
reported_entry offset b directory d i =
    option_and_then (λ p. option_map (export_reported b directory p (index_at d i)) (option_and_then (named_export offset d i) (text_at b p)))
    (offset (le d.names (4 * i) 4))

-- the exports of the entries from one index up to another, in their order; an entry may have none
abbrev pub reported_from : (ℕ → Option Export) → ℕ → ℕ → List Export
reported_from reported from end = filter_map reported (range_with_len from (end - from))

-- no entry from one index up to another has an export
abbrev pub HaveNone : (ℕ → Option Export) → ℕ → ℕ → Type 0
HaveNone reported from end = (k : ℕ) → from ≤ k → k < end → reported k ≡ None

-- the first entry from an index on that has an export, and the index after it
abbrev pub FindsNext : (ℕ → Option Export) → ℕ → ℕ → Option (Export × ℕ) → Type 0
FindsNext reported from end None = HaveNone reported from end
FindsNext reported from end (Some x) = (i : ℕ) × (from ≤ i) × (i < end) × HaveNone reported from i × (reported i ≡ Some x.0) × (x.1 ≡ i + 1)

-- the count of entries of the name table
abbrev pub count_of : Exports → ℕ
count_of w = w.names.length / 4

-- the walk after what was found: at its end where nothing was
abbrev pub exports_after : Exports → Option (Export × ℕ) → Exports
exports_after w None = record w { next = count_of w }
exports_after w (Some x) = record w { next = x.1 }

-- a step over the entries that are left of these tables
abbrev pub StepsOverExports : (ℕ → Option ℕ) → List ℕ → Result ExportDataView Refusal → Exports → Result (Option Export) Refusal → Exports → Type 0
StepsOverExports offset b (Ok d) w answer new =
    (found : Option (Export × ℕ)) × FindsNext (reported_entry offset b w.directory d) w.next (count_of w) found × (answer ≡ Ok (option_map (λ x. x.0) found)) × (new ≡ exports_after w found)
StepsOverExports offset b (Err refusal) w answer new = (answer ≡ Err refusal) × (new ≡ record w { names = no_bytes })

-- a step, by whether the walk is at its end
abbrev pub StepsExportsIf : Bool → (ℕ → Option ℕ) → List ℕ → Exports → Result (Option Export) Refusal → Exports → Type 0
StepsExportsIf true offset b w answer new = (answer ≡ Ok None) × (new ≡ w)
StepsExportsIf false offset b w answer new = StepsOverExports offset b (tables_or_short b w) w answer new

-- a step: nothing at the end of the name table; `Short`, and the walk is over, where a table is not inside the bytes
abbrev pub StepsExports : (ℕ → Option ℕ) → List ℕ → Exports → Result (Option Export) Refusal → Exports → Type 0
StepsExports offset b w answer new = StepsExportsIf (nat_le (count_of w) w.next) offset b w answer new

-- ---- windows of the section map for a list of exports. Only contracts of private functions cite this.

-- both are windows of the map
pub record AreNear (to_offset : ℕ → Option ℕ) (w : ExportWindows) : Type 0 where
  pub names : IsWindow to_offset w.names
  pub exported : IsWindow to_offset w.exported
