-- Why a step of a walk is refused, or an item that is read by its key: by the refusal of the call that reads it.
use Rattle.std.specs.Prelude.{ℕ, ◌+◌, ◌-◌, ◌*◌, ◌/◌, ◌%◌, ◌^◌, ◌==◌, ◌||◌, min, nat_lt, List, length, Option, if◌then◌else◌, Bool, Some, None}
use Rattle.pe_core.specs.Bytes.{holds}
use Rattle.pe_core.specs.Imports.{lookups_rva}
use Rattle.pe_core.specs.Records.{import_entry}
use Rattle.pe_core.specs.Refusals.{Short, ImportName, CertificateRevision, CertificateType, CertificateSize, CertificateTable, Unmapped, StringTable}
use Rattle.pe_directories.specs.DirectoryRefusals.{BlockSize, BlockTruncated, NoArgument, BoundImportName, DelayImportName, VaBelowBase}
use Rattle.calls_base.specs.FailureNumbers.{needed_at, needed_in, no_numbers, number_there, numbers, refused_value}
use Rattle.calls_base.specs.DirectoryResults.{directory_number}
use Rattle.calls_base.specs.Ranges.{or_zero, bytes_there}
use Rattle.calls_base.specs.HandsOut.{result_number}
use Rattle.calls_base.specs.declared.numbers.ErrorNumbers.{ErrorNumbers}
use Rattle.calls_directories.specs.declared.names.imports.Imports.{Imports}
use Rattle.calls_directories.specs.declared.names.imports.Libraries.{Libraries}
use Rattle.calls_base.specs.declared.ranges.Range.{Range}
use Rattle.calls_directories.specs.Imports.{hint_rva}
use Rattle.std.specs.Result.{result_ok}
use Rattle.pe_directories.specs.ImageParts.{size_of_va}
use Rattle.calls_directories.specs.DelayImports.{address_in, address_offset}
use Rattle.calls_directories.specs.declared.directories.delay_imports.DelayedFunctions.{DelayedFunctions}
use Rattle.calls_base.specs.declared.image.Image.{Image}

-- ---- the libraries of an import directory, and the imports of each; `offset` maps an RVA to its file offset, `w` is the size of an
-- entry of a list in bytes

-- an entry is needed after the last whole one of a list that no zero entry ends
abbrev pub end_of_list : ℕ → List ℕ → Option ℕ → ErrorNumbers
end_of_list w b list = needed_at (or_zero list + (length b - or_zero list) / w * w) w

-- of the library that a walk is at: its record, 20 bytes, or its list is truncated; or its name is refused
unfoldable pub library_numbers : (ℕ → Option ℕ) → ℕ → List ℕ → Libraries → ℕ → ErrorNumbers
library_numbers offset w b walk n =
    let e = import_entry b walk.next in
    if holds b walk.next 20
    then (if n == result_number Short then end_of_list w b (offset (lookups_rva e))
    else if n == result_number Unmapped || n == result_number ImportName then refused_value e.name_rva
    else no_numbers)
    else needed_at walk.next 20

-- of the import that a walk is at: its entry or its hint, 2 bytes, is truncated; or the RVA of the hint is refused
unfoldable pub import_numbers : (ℕ → Option ℕ) → ℕ → List ℕ → Imports → ℕ → ErrorNumbers
import_numbers offset w b walk n =
    let rva = hint_rva w b walk in
    if n == result_number Short
    then (if nat_lt walk.left.length w then needed_in b walk.left walk.left.offset w else needed_in b walk.left (or_zero (offset rva)) 2)
    else if n == result_number Unmapped || n == result_number ImportName then refused_value rva
    else no_numbers

-- ---- certificates

-- the header of a certificate, 8 bytes; none where they are not all there
abbrev pub header_there : List ℕ → Range → List ℕ
header_there b walk = bytes_there b (record { offset = walk.offset; length = 8 })

-- of the certificate that a walk is at: its header or the range, or its length, its revision, its type
unfoldable pub certificate_numbers : List ℕ → Range → ℕ → ErrorNumbers
certificate_numbers b walk n =
    let header = header_there b walk in
    if n == result_number Short then needed_at walk.offset 8
    else if n == result_number CertificateTable then numbers (min (walk.offset + walk.length) (2 ^ 64 - 1)) 0 0
    else if n == result_number CertificateSize then numbers 0 (number_there header 0 4) 0
    else if n == result_number CertificateRevision then refused_value (number_there header 4 2)
    else if n == result_number CertificateType then refused_value (number_there header 6 2)
    else no_numbers

-- ---- base relocations

-- of the block that a walk is at: its header has 8 bytes, the size is in the last 4
unfoldable pub block_numbers : List ℕ → Range → ℕ → ErrorNumbers
block_numbers b walk n =
    let size = number_there (bytes_there b walk) 4 4 in
    if n == result_number Short then needed_in b walk walk.offset 8
    else if n == directory_number BlockSize then refused_value size
    else if n == directory_number BlockTruncated then numbers 0 size walk.length
    else no_numbers

-- of the relocation that a walk is at, 2 bytes: a HIGHADJ without its argument, by its RVA
unfoldable pub relocation_numbers : List ℕ → ℕ → Range → ℕ → ErrorNumbers
relocation_numbers b page walk n =
    if n == result_number Short then needed_in b walk walk.offset 2
    else if n == directory_number NoArgument then refused_value (page + number_there (bytes_there b walk) 0 2 % 4096)
    else no_numbers

-- ---- why a bound DLL is refused: the numbers of the failure

-- how many bytes the entry at the start of a part of the directory needs: 8, and 8 for each of its forwarders, whose number is in
-- the last 2 of the first 8
abbrev pub size_needed : List ℕ → ℕ
size_needed left = 8 + 8 * number_there left 6 2

-- the bytes of the entry that a walk is at, with its forwarders; or, where they are there, those of the directory with the names
abbrev pub bound_short : List ℕ → Range → Range → ErrorNumbers
bound_short b table walk =
    let left = bytes_there b walk in
    if holds left 0 (size_needed left) then needed_at table.offset table.length
    else needed_in b walk walk.offset (size_needed left)

-- of the entry that a walk is at: the offset of its name in the directory is in the 2 bytes after its time stamp, which has 4
unfoldable pub bound_numbers : List ℕ → Range → Range → ℕ → ErrorNumbers
bound_numbers b table walk n =
    if n == result_number Short then bound_short b table walk
    else if n == directory_number BoundImportName then numbers (number_there (bytes_there b walk) 4 2) 0 0
    else no_numbers

-- ---- why the name of a symbol is refused: the numbers of the failure

-- the number in the last 4 of the 8 bytes of a name, which for a name in the string table is its offset there; an entry has 18
-- bytes, its name first
abbrev pub string_offset_at : List ℕ → Range → ℕ → ℕ
string_offset_at b table index = number_there (bytes_there b table) (18 * index + 4) 4

-- of the name of the symbol in an entry: the bytes of a table that is not there, first of the strings; that number where the name
-- is no text, also of a name in the 8 bytes
unfoldable pub symbol_name_numbers : List ℕ → Range → Range → ℕ → ℕ → ErrorNumbers
symbol_name_numbers b table strings index n =
    if n == result_number Short then needed_in b strings table.offset table.length
    else if n == result_number StringTable then numbers (string_offset_at b table index) 0 0
    else no_numbers

-- ---- why a DLL that is loaded late is refused, or what is imported of it: the numbers of the failure. `offset` maps an RVA to its
-- file
-- offset.

-- of an address that is refused, by the attributes of the DLL's entry: its RVA, which is not mapped, or the address, which is below
-- the image base
abbrev pub address_numbers : ℕ → ℕ → ℕ → ℕ → ErrorNumbers
address_numbers base attributes address n =
    if n == result_number Unmapped then refused_value (if attributes % 2 == 1 then address else address - base)
    else if n == directory_number VaBelowBase then refused_value address
    else no_numbers

-- ---- DLLs

-- the file offset of the name of an entry, if its address has one
abbrev pub name_offset : (ℕ → Option ℕ) → ℕ → List ℕ → Option ℕ
name_offset offset base entry = result_ok (address_offset offset base (number_there entry 0 4) (number_there entry 4 4))

-- the address of an entry that is refused: that of the name, or where this has an offset that of the table of what is imported
abbrev pub refused_address : List ℕ → Option ℕ → ℕ
refused_address entry None = number_there entry 4 4
refused_address entry (Some p) = number_there entry 16 4

-- of the entry that a walk is at, which has 32 bytes; of a name that is no text its file offset
unfoldable pub delay_import_numbers : (ℕ → Option ℕ) → List ℕ → Image → Range → ℕ → ErrorNumbers
delay_import_numbers offset b image walk n =
    let entry = bytes_there b walk in
    let name = name_offset offset image.base entry in
    if n == result_number Short then needed_in b walk walk.offset 32
    else if n == directory_number DelayImportName then numbers (or_zero name) 0 0
    else address_numbers image.base (number_there entry 0 4) (refused_address entry name) n

-- ---- what is imported of a DLL

-- the file offset of the hint to which a number of the table leads, 0 where it has none
abbrev pub hint_at : (ℕ → Option ℕ) → Image → ℕ → ℕ → ℕ
hint_at offset image attributes number =
    or_zero (result_ok (address_offset offset image.base attributes (address_in (image.width == 64) attributes number)))

-- the bytes of the number, which is as wide as virtual addresses; where these are there, the 2 of the hint at this offset
abbrev pub function_short : List ℕ → Bool → Range → ℕ → ErrorNumbers
function_short b is_64 left hint =
    if holds (bytes_there b left) 0 (size_of_va is_64) then needed_at hint 2
    else needed_in b left left.offset (size_of_va is_64)

-- of the number that a walk is at; of a name that is no text its file offset, after the hint
unfoldable pub delayed_function_numbers : (ℕ → Option ℕ) → List ℕ → Image → DelayedFunctions → ℕ → ErrorNumbers
delayed_function_numbers offset b image walk n =
    let is_64 = image.width == 64 in
    let number = number_there (bytes_there b walk.left) 0 (size_of_va is_64) in
    let hint = hint_at offset image walk.attributes number in
    if n == result_number Short then function_short b is_64 walk.left hint
    else if n == directory_number DelayImportName then numbers (min (hint + 2) (2 ^ 64 - 1)) 0 0
    else address_numbers image.base walk.attributes (address_in is_64 walk.attributes number) n
