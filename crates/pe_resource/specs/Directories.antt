-- Resource directories. (PE format: resource directory table.)
use Rattle.std.specs.Prelude.{ℕ, ◌+◌, ◌*◌, min, List, Option, Some, None, Result, Err}
use Rattle.pe_core.specs.Bytes.{le, range, record_at}
use Rattle.pe_core.specs.Refusals.{Refusal, Unmapped}
use Rattle.pe_core.specs.SectionMap.{section_map}
use Rattle.pe_core.specs.declared.data_directories.DataDirectory.{DataDirectory}
use Rattle.pe_core.specs.declared.options.ParseOptions.{ParseOptions}
use Rattle.pe_core.specs.declared.section_table.SectionTable.{SectionTable}
use Rattle.pe_resource.specs.declared.directory.ImageResourceDirectory.{ImageResourceDirectory}
use Rattle.pe_resource.specs.declared.entry.ResourceEntry.{ResourceEntry}
use Rattle.pe_resource.specs.ResourceEntries.{entries}

-- the directory at p, 16 bytes
unfoldable pub directory_of : List ℕ → ℕ → ImageResourceDirectory
directory_of b p = record {
  characteristics = le b p 4;
  time_date_stamp = le b (p + 4) 4;
  major_version = le b (p + 8) 2;
  minor_version = le b (p + 10) 2;
  number_of_named_entries = le b (p + 12) 2;
  number_of_id_entries = le b (p + 14) 2;
}

-- the number of entries: the sum of both counts, at most 65,535
abbrev pub count : ImageResourceDirectory → ℕ
count d = min (d.number_of_named_entries + d.number_of_id_entries) 65535

-- the directory at an offset; refused without an offset
abbrev pub directory_at_offset : List ℕ → Option ℕ → Result ImageResourceDirectory Refusal
directory_at_offset b None = Err Unmapped
directory_at_offset b (Some p) = record_at b p 16 (directory_of b p)

-- the directory at the RVA of a data directory
unfoldable pub directory_at : ParseOptions → List ℕ → DataDirectory → List SectionTable → ℕ → Result ImageResourceDirectory Refusal
directory_at o b d sections alignment = directory_at_offset b (section_map o sections alignment d.virtual_address)

-- the entries of a directory, which start at p
abbrev pub entries_at : List ℕ → ℕ → ImageResourceDirectory → Result (List ResourceEntry) Refusal
entries_at b p d = record_at b p (8 * count d) (entries (range b p (8 * count d)))
