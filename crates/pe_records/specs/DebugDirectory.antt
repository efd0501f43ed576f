-- The debug directory: the table to which it points, and the entries of the table. (PE format: debug directory; the
-- bounds by mode and the fixup are this project's profile.)
use Rattle.std.specs.Prelude.{◌≡◌, ℕ, ◌+◌, ◌-◌, ◌/◌, ◌==◌, List, [], ◌∷◌, length, min, Option, Some, None, Result, Ok, Err, if◌then◌else◌}
use Rattle.std.specs.List.{find}
use Rattle.pe_core.specs.Bytes.{le, holds}
use Rattle.pe_core.specs.Options.{is_permissive}
use Rattle.pe_core.specs.Offsets.{bytes_in}
use Rattle.pe_core.specs.Refusals.{Refusal, Unmapped, DebugBounds, kind_of, ◌>>=◌}
use Rattle.pe_core.specs.Rows as Rows
use Rattle.pe_core.specs.SectionMap.{section_map}
use Rattle.pe_core.specs.TeImages.{reduced}
use Rattle.pe_core.specs.declared.byte_range.ByteRange.{ByteRange}
use Rattle.pe_core.specs.declared.data_directories.DataDirectory.{DataDirectory}
use Rattle.pe_core.specs.declared.error.Error.{Error}
use Rattle.pe_core.specs.declared.options.ParseMode.{ParseMode}
use Rattle.pe_core.specs.declared.options.ParseOptions.{ParseOptions}
use Rattle.pe_core.specs.declared.section_table.SectionTable.{SectionTable}
use Rattle.pe_records.specs.declared.debug.ImageDebugDirectory.{ImageDebugDirectory}
use Rattle.pe_records.specs.declared.debug.ImageDebugDirectoryIterator.{ImageDebugDirectoryIterator}

-- ---- the table

-- the range of a table of this size at a file offset; past the end of the file it is refused, or truncated at the end
abbrev pub range_at : List ℕ → ParseMode → ℕ → Option ℕ → Result ByteRange Refusal
range_at b mode size None = Err Unmapped
range_at b mode size (Some offset) =
    if holds b offset size then Ok (record { offset = offset; length = size })
    else (if is_permissive mode then Ok (record { offset = min offset (length b); length = length b - offset }) else Err DebugBounds)

-- the range of a directory's table in the file
unfoldable pub directory_range : ParseOptions → List ℕ → DataDirectory → List SectionTable → ℕ → Result ByteRange Refusal
directory_range o b d sections alignment = range_at b o.parse_mode d.size (section_map o sections alignment d.virtual_address)

-- the bytes of a directory's table
unfoldable pub directory_table : ParseOptions → List ℕ → DataDirectory → List SectionTable → ℕ → Result (List ℕ) Refusal
directory_table o b d sections alignment = directory_range o b d sections alignment >>= λ r. Ok (bytes_in b r)

-- ---- its entries

-- the entry of 28 bytes at offset p; the fixup is subtracted from its RVA and its file offset
unfoldable pub debug_entry_at : ℕ → List ℕ → ℕ → ImageDebugDirectory
debug_entry_at fixup b p = record {
  characteristics = le b p 4;
  time_date_stamp = le b (p + 4) 4;
  major_version = le b (p + 8) 2;
  minor_version = le b (p + 10) 2;
  data_type = le b (p + 12) 4;
  size_of_data = le b (p + 16) 4;
  address_of_raw_data = reduced fixup (le b (p + 20) 4);
  pointer_to_raw_data = reduced fixup (le b (p + 24) 4);
}

-- the whole entries of a table, one every 28 bytes
unfoldable pub whole_debug_entries : ℕ → List ℕ → List ImageDebugDirectory
whole_debug_entries fixup b = Rows.whole_entries (debug_entry_at fixup) 28 b

-- the whole entries of a table, and one `Short` for a truncated last entry
unfoldable pub debug_entries : ℕ → List ℕ → List (Result ImageDebugDirectory Refusal)
debug_entries fixup b = Rows.entry_items (debug_entry_at fixup) 28 b

-- how many entries that is; a truncated one counts
abbrev pub debug_entry_count : List ℕ → ℕ
debug_entry_count b = (length b + 27) / 28

-- the first whole entry of a type
abbrev pub first_of_type : ℕ → ℕ → List ℕ → Option ImageDebugDirectory
first_of_type fixup kind b = find (λ e. e.data_type == kind) (whole_debug_entries fixup b)

-- ---- the iterator

-- the bytes that an iterator has left, and its fixup
abbrev pub debug_bytes_left : ImageDebugDirectoryIterator → List ℕ
debug_bytes_left s = s.bytes.now

abbrev pub fixup_of : ImageDebugDirectoryIterator → ℕ
fixup_of s = s.rva_offset

-- an item, with its error as a refusal
abbrev pub debug_item : Result ImageDebugDirectory Error → Result ImageDebugDirectory Refusal
debug_item (Ok e) = Ok e
debug_item (Err e) = Err (kind_of e)

-- what one call of next returns, and the bytes that it leaves: the first of the entries, and those after it
abbrev pub ReturnsEntry : ℕ → List ℕ → Option (Result ImageDebugDirectory Error) → List ℕ → Type 0
ReturnsEntry fixup b None left = (debug_entries fixup b ≡ []) × (left ≡ b)
ReturnsEntry fixup b (Some item) left = debug_entries fixup b ≡ debug_item item ∷ debug_entries fixup left
