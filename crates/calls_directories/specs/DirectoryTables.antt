-- The tables that head a directory with fields of their own: that of exports, and each directory of a resource tree.
use Rattle.std.specs.Prelude.{ℕ, ◌+◌, ◌*◌, List, Option, Some, None, Result, Ok, if◌then◌else◌}
use Rattle.std.specs.Option.{option_map}
use Rattle.pe_core.specs.Bytes.{record_at}
use Rattle.pe_core.specs.Records as records
use Rattle.pe_core.specs.Refusals.{Refusal, ◌>>=◌}
use Rattle.pe_core.specs.SectionMap.{mapped}
use Rattle.pe_core.specs.declared.export.ExportDirectoryTable.{ExportDirectoryTable}
use Rattle.pe_core.specs.declared.section_table.SectionTable.{SectionTable}
use Rattle.pe_resource.specs.Directories.{count, directory_of, entries_at}
use Rattle.pe_resource.specs.ResourceEntries.{directory_offset, entry_at, is_directory}
use Rattle.pe_resource.specs.declared.directory.ImageResourceDirectory.{ImageResourceDirectory}
use Rattle.pe_resource.specs.declared.entry.ResourceEntry as trees
use Rattle.calls_base.specs.Images.{export_directory, is_absent}
use Rattle.calls_base.specs.Ranges.{bytes_at}
use Rattle.calls_directories.specs.ResourceLeaves.{leaves_start, name_in}
use Rattle.calls_base.specs.Walks.{next_of}
use Rattle.calls_directories.specs.declared.directories.tables.ExportFields.{ExportFields}
use Rattle.calls_directories.specs.declared.directories.tables.ResourceDirectory.{ResourceDirectory}
use Rattle.calls_directories.specs.declared.directories.tables.ResourceItem.{ResourceItem}
use Rattle.calls_base.specs.declared.image.Image.{Image}
use Rattle.calls_base.specs.declared.ranges.Range.{Range}
use Rattle.calls_directories.specs.declared.resources.leaves.ResourceLeaves.{ResourceLeaves}
use Rattle.calls_directories.specs.declared.resources.leaves.ResourceName.{ResourceName}

-- ---- exports

-- the fields of an export directory, by winnt.h's names
abbrev pub export_fields : ExportDirectoryTable → ExportFields
export_fields d = record {
  characteristics = d.characteristics;
  time_date_stamp = d.time_date_stamp;
  major_version = d.major;
  minor_version = d.minor;
  name = d.name_rva;
  base = d.ordinal_base;
  number_of_functions = d.address_table_entries;
  number_of_names = d.number_of_name_pointers;
  address_of_functions = d.address_table_rva;
  address_of_names = d.name_pointer_rva;
  address_of_name_ordinals = d.ordinal_table_rva;
}

-- the fields of an image's export directory, if it has one; or what refuses its 40 bytes
abbrev pub export_directory_at : List ℕ → Image → (ℕ → Option ℕ) → Result (Option ExportFields) Refusal
export_directory_at b image offset =
    if is_absent (export_directory image) then Ok None
    else mapped (offset (export_directory image).virtual_address) >>= λ p.
    record_at b p 40 (Some (export_fields (records.export_directory b p)))

-- ---- resources

-- a directory with the range of its entries
abbrev pub directory_with : ImageResourceDirectory → Range → ResourceDirectory
directory_with d entries = record {
  characteristics = d.characteristics;
  time_date_stamp = d.time_date_stamp;
  major_version = d.major_version;
  minor_version = d.minor_version;
  number_of_named_entries = d.number_of_named_entries;
  number_of_id_entries = d.number_of_id_entries;
  entries = entries;
}

-- a directory at p of the tree, which has its entries after its 16 bytes
abbrev pub directory_reported : Range → ℕ → ImageResourceDirectory → ResourceDirectory
directory_reported tree p d = directory_with d (record { offset = tree.offset + (p + 16); length = 8 * count d })

-- the directory at p of a tree, or `Short` where the tree does not lie in the bytes, or the directory or its entries not in the tree
abbrev pub resource_directory_at : List ℕ → Range → ℕ → Result ResourceDirectory Refusal
resource_directory_at b tree p = do
  d ← bytes_at b tree
  directory ← record_at d p 16 (directory_of d p)
  entries ← entries_at d (p + 16) directory
  Ok (directory_reported tree p directory)

-- the first directory of the tree of a walk before its first leaf: it stands at the start of the data, and its entries, which follow
-- its 16 bytes, are the types that the walk has left
abbrev pub root_of : List ℕ → ResourceLeaves → ResourceDirectory
root_of b w = directory_with (directory_of b w.tree.offset) (record { offset = w.tree.offset + 16; length = w.types.length })

-- the first directory of an image's resources; without a walk there is none, or the same refusal
abbrev pub root_at : List ℕ → Image → List SectionTable → Result (Option ResourceDirectory) Refusal
root_at b image sections = leaves_start b image sections >>= λ walk. Ok (option_map (root_of b) walk)

-- an entry by its name or id; where it leads counts from the start of the tree
abbrev pub item_reported : trees.ResourceEntry → ResourceName → ResourceItem
item_reported e name = record { name = name; offset = directory_offset e; is_directory = if is_directory e then 1 else 0 }

-- an entry that is read further: its name, in the data of the tree
abbrev pub item_in : ℕ → List ℕ → Option trees.ResourceEntry → Result (Option ResourceItem) Refusal
item_in start d None = Ok None
item_in start d (Some e) = name_in start d e >>= λ name. Ok (Some (item_reported e name))

-- the next entry of a directory; `Short` where the tree or the walk is not inside the bytes, an entry is truncated, or its name
abbrev pub next_item_of : List ℕ → Range → Range → Result (Option ResourceItem) Refusal
next_item_of b tree walk = do
  d ← bytes_at b tree
  entry ← next_of entry_at 8 b walk
  item_in tree.offset d entry
