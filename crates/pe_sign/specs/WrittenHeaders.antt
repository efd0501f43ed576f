-- The headers of a file in which the checksum and one entry of the data directories change. (PE format: optional header, optional header data directories.)
use Rattle.std.specs.Prelude.{ℕ, ◌+◌, ◌*◌, ◌==◌, length, slice_set, Option, Some, None}
use Rattle.std.specs.Option.{option_map}
use Rattle.pe_core.specs.Header.{HeaderView, OptionalHeaderView, directories_offset}
use Rattle.pe_core.specs.declared.data_directories.DataDirectory.{DataDirectory}
use Rattle.pe_core.specs.declared.optional_header.TheConstants.{MAGIC_64}

-- the optional header with this entry for the directory with an index, and with this checksum
abbrev pub optional_changed : ℕ → DataDirectory → ℕ → OptionalHeaderView → OptionalHeaderView
optional_changed index entry sum o = record {
  standard_fields = o.standard_fields;
  windows_fields = record o.windows_fields { check_sum = sum };
  data_directories = slice_set o.data_directories index entry;
}

-- the headers with both; nothing else in them changes
abbrev pub headers_changed : ℕ → DataDirectory → ℕ → HeaderView → HeaderView
headers_changed index entry sum h = record h { optional_header = option_map (optional_changed index entry sum) h.optional_header }

-- the same for the certificates, whose entry is the fifth
abbrev pub optional_with : DataDirectory → ℕ → OptionalHeaderView → OptionalHeaderView
optional_with entry sum o = optional_changed 4 entry sum o

abbrev pub headers_with : DataDirectory → ℕ → HeaderView → HeaderView
headers_with entry sum h = headers_changed 4 entry sum h

-- the file offset at which the data directories end, in an image with this PE pointer
abbrev pub directories_end_after : ℕ → Option OptionalHeaderView → ℕ
directories_end_after pointer None = pointer + 24
directories_end_after pointer (Some o) =
    pointer + 24 + directories_offset (o.standard_fields.magic == MAGIC_64) + 8 * length o.data_directories

abbrev pub directories_end : HeaderView → ℕ
directories_end h = directories_end_after h.dos_header.pe_pointer h.optional_header
