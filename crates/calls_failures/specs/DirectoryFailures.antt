-- Why the directories of an image are refused: by the refusal of the call that reads a directory, with the numbers by its bytes.
use Rattle.std.specs.Prelude.{ℕ, ◌+◌, ◌*◌, ◌-◌, ◌^◌, ◌==◌, ◌||◌, min, Bool, false, List, Option, Some, None, if◌then◌else◌}
use Rattle.pe_core.specs.Bytes.{holds, le}
use Rattle.pe_core.specs.Records.{export_directory}
use Rattle.pe_core.specs.Refusals.{Short, Unmapped, DebugBounds, ExceptionSize, ExceptionOffset, ExceptionBounds, ResourceBounds}
use Rattle.pe_core.specs.declared.export.ExportDirectoryTable.{ExportDirectoryTable}
use Rattle.pe_core.specs.declared.section_table.SectionTable.{SectionTable}
use Rattle.pe_directories.specs.DirectoryRefusals.{ClrHeaderSize}
use Rattle.calls_directories.specs.BoundImports.{bound_imports_at}
use Rattle.calls_directories.specs.Certificates.{certificate_step}
use Rattle.calls_directories.specs.Clr.{clr_header_at}
use Rattle.calls_headers.specs.Debug.{debug_entries_range}
use Rattle.calls_base.specs.Directories.{table_at, tls_at}
use Rattle.calls_base.specs.FailureNumbers.{directory_refused, needed_at, no_numbers, number_there, numbers, refused, refused_value}
use Rattle.calls_base.specs.DirectoryResults.{directory_number}
use Rattle.calls_directories.specs.Exports.{tables_at}
use Rattle.calls_base.specs.Ranges.{or_zero}
use Rattle.calls_base.specs.HandsOut.{result_number}
use Rattle.calls_failures.specs.ImageParts.{function_table}
use Rattle.calls_base.specs.Images.{directory, for_directory, map_by}
use Rattle.calls_directories.specs.Imports.{libraries_at}
use Rattle.calls_directories.specs.LoadConfigs.{load_config_at}
use Rattle.calls_directories.specs.ResourceLeaves.{leaves_start}
use Rattle.calls_failures.specs.StepFailures.{certificate_numbers}
use Rattle.calls_failures.specs.declared.directories.NeededPart.{NeededPart}
use Rattle.calls_base.specs.declared.numbers.ErrorNumbers.{ErrorNumbers}
use Rattle.calls_base.specs.declared.image.Image.{Image}
use Rattle.calls_base.specs.declared.ranges.Range.{Range}

-- the certificate table, as a walk at its start
abbrev pub certificate_table : Image → Range
certificate_table image = record { offset = (directory image 4).virtual_address; length = (directory image 4).size }

-- what refuses the directory with this index: the refusal of the call which reads it, of the certificate table that of the
-- first step. `may_map` gives the sections that may map an RVA
unfoldable pub directory_refusal : ℕ → List ℕ → Image → (ℕ → List SectionTable) → Option ℕ
directory_refusal i b image may_map =
    if i == 0 then refused (tables_at b image (map_by image may_map))
    else if i == 1 then refused (libraries_at image (map_by image may_map))
    else if i == 2 then refused (leaves_start b image (for_directory may_map image 2))
    else if i == 3 then refused (function_table b image (for_directory may_map image 3))
    else if i == 4 then refused ((certificate_step b (certificate_table image)).0)
    else if i == 5 then directory_refused (table_at 5 b image (for_directory may_map image 5))
    else if i == 6 then refused (debug_entries_range b image (for_directory may_map image 6) image.mode)
    else if i == 9 then directory_refused (tls_at b image (for_directory may_map image 9))
    else if i == 10 then directory_refused (load_config_at b image (for_directory may_map image 10))
    else if i == 11 then directory_refused (bound_imports_at b image)
    else if i == 13 then directory_refused (table_at 13 b image (for_directory may_map image 13))
    else if i == 14 then directory_refused (clr_header_at b image (for_directory may_map image 14))
    else None

-- ---- what a directory needs

-- where n bytes at an offset end, or the largest number that a failure has
abbrev pub end_of : ℕ → ℕ → ℕ
end_of p n = min (p + n) (2 ^ 64 - 1)

abbrev pub part : ℕ → ℕ → NeededPart
part rva size = record { rva = rva; size = size }

-- n bytes follow an offset, if there is one
abbrev pub holds_at : List ℕ → ℕ → Option ℕ → Bool
holds_at b n None = false
holds_at b n (Some p) = holds b p n

-- the part is there: its RVA is mapped, and its bytes are in the file; one without bytes is there, whatever its RVA
abbrev pub is_there : (ℕ → Option ℕ) → List ℕ → NeededPart → Bool
is_there offset b x = x.size == 0 || holds_at b x.size (offset x.rva)

-- of the three tables of exports, of RVAs, of names and of ordinals, the first that is not there, or else the last
abbrev pub missing_table : (ℕ → Option ℕ) → List ℕ → ExportDirectoryTable → NeededPart
missing_table offset b d =
    let addresses = part d.address_table_rva (4 * d.address_table_entries) in
    let names = part d.name_pointer_rva (4 * d.number_of_name_pointers) in
    let ordinals = part d.ordinal_table_rva (2 * d.number_of_name_pointers) in
    if is_there offset b addresses then (if is_there offset b names then ordinals else names) else addresses

-- of an export directory at this RVA what is not there: its 40 bytes, or a table
unfoldable pub missing_export : (ℕ → Option ℕ) → List ℕ → ℕ → NeededPart
missing_export offset b rva =
    if is_there offset b (part rva 40) then missing_table offset b (export_directory b (or_zero (offset rva))) else part rva 40

-- what the directory with this index needs: a part of exports; the first directory of resources, the TLS directory, the size of
-- the load configuration, the CLR header; of any other all of it
unfoldable pub needed_part : ℕ → List ℕ → Image → (ℕ → Option ℕ) → NeededPart
needed_part i b image offset =
    let d = directory image i in
    if i == 0 then missing_export offset b d.virtual_address
    else if i == 2 then part d.virtual_address 16
    else if i == 9 then part d.virtual_address (if image.width == 64 then 40 else 24)
    else if i == 10 then part d.virtual_address 4
    else if i == 14 then part d.virtual_address 72
    else part d.virtual_address d.size

-- where an RVA that it has is in the file, 0 where it is unmapped; those of bound imports are offsets
abbrev pub directory_offset : ℕ → (ℕ → Option ℕ) → ℕ → ℕ
directory_offset i offset rva = if i == 11 then rva else or_zero (offset rva)

-- the size of the entries after the first directory of resources, 8 bytes each: the sum of two counts, at most 65,535
abbrev pub entries_size : List ℕ → ℕ → ℕ
entries_size b p = if holds b p 16 then 8 * min (le b (p + 12) 2 + le b (p + 14) 2) 65535 else 0

-- where resources at an offset end: all n bytes of them, or where these are there the entries
abbrev pub resource_end : List ℕ → ℕ → ℕ → ℕ
resource_end b p n = if holds b p n then end_of p (16 + entries_size b p) else end_of p n

-- the numbers of the failure of the directory with this index; that of certificates is the failure of the first
unfoldable pub directory_numbers : ℕ → List ℕ → Image → (ℕ → Option ℕ) → ℕ → ErrorNumbers
directory_numbers i b image offset n =
    let d = directory image i in
    let p = directory_offset i offset d.virtual_address in
    let needed = needed_part i b image offset in
    if i == 4 then certificate_numbers b (certificate_table image) n
    else if n == result_number Short then needed_at (directory_offset i offset needed.rva) needed.size
    else if n == result_number Unmapped then refused_value needed.rva
    else if n == result_number ExceptionSize then refused_value d.size
    else if n == result_number ExceptionOffset then numbers p 0 0
    else if n == result_number DebugBounds || n == result_number ExceptionBounds then numbers (end_of p d.size) 0 0
    else if n == result_number ResourceBounds then numbers (resource_end b p d.size) 0 0
    else if n == directory_number ClrHeaderSize then refused_value (number_there b p 4)
    else no_numbers
