-- The texts of results.
-- `tools/make_errors` writes the list of errors.
use Rattle.std.specs.Prelude.{ℕ, ◌-◌, nat_lt, List, [], ◌∷◌, slice_index_or, codes, if◌then◌else◌}
use Rattle.calls_base.specs.declared.results.TheConstants.{NOTHING}
use Rattle.calls_base.specs.declared.texts.TheConstants.{DIRECTORIES, DUMPS, EDITS, PDBS, SIGNATURES, SIGNING, TREES}

-- the texts of 0 and of the refusals, in the order of their numbers
abbrev pub texts : List (List ℕ)
texts =
    codes "done" ∷
    codes "out of memory" ∷
    codes "truncated" ∷
    codes "invalid magic number" ∷
    codes "PE header offset lies inside the DOS header" ∷
    codes "import name not NUL-terminated or not UTF-8" ∷
    codes "string table truncated, or string not NUL-terminated or not UTF-8" ∷
    codes "invalid certificate revision" ∷
    codes "invalid certificate type" ∷
    codes "certificate truncated" ∷
    codes "certificate table ends past the end of the file" ∷
    codes "RVA maps to no file offset" ∷
    codes "debug directory ends past the end of the file" ∷
    codes "debug record too small" ∷
    codes "debug record truncated" ∷
    codes "POGO record has no entries" ∷
    codes "POGO entry truncated" ∷
    codes "exception directory size is not a multiple of the entry size" ∷
    codes "exception directory is not aligned to 4 bytes" ∷
    codes "exception directory ends past the end of the file" ∷
    codes "function index out of range" ∷
    codes "link leads to no function entry" ∷
    codes "loop in unwind links or chained records" ∷
    codes "unknown unwind record version" ∷
    codes "invalid unwind code" ∷
    codes "unknown ARM64 unwind record version" ∷
    codes "invalid ARM64 unwind code stream" ∷
    codes "ARM64 unwind code truncated" ∷
    codes "resource data ends past the bytes that hold it" ∷
    codes "loop in the resource tree" ∷
    codes "version string value missing, or its length above 32,767" ∷
    codes "stripped size smaller than the TE header" ∷
    codes "image has no optional header" ∷
    codes "alignment cannot be written" ∷
    codes "images with COFF symbols cannot be written" ∷
    codes "sections overlap in the file" ∷
    codes "section data is not in the source bytes" ∷
    codes "write does not fit the buffer" ∷
    codes "image has more imports than the limit" ∷
    []

-- the text of 0 or of the number of a refusal
unfoldable pub refusal_text : ℕ → List ℕ
refusal_text n = slice_index_or texts n (codes "unknown result")

-- the texts of the results from 100 on, which are no refusals of bytes
abbrev pub other_texts : List (List ℕ)
other_texts =
    codes "there is nothing of the kind" ∷
    codes "the array is too small" ∷
    codes "memory is missing" ∷
    codes "address and the offset of an unwind code do not fit 64 bits" ∷
    codes "unwind operation cannot be undone" ∷
    codes "stack pointer of the caller is not above that of the function" ∷
    codes "more than 32 unwind records are chained" ∷
    codes "pieces of memory overlap or do not ascend" ∷
    []

unfoldable pub other_text : ℕ → List ℕ
other_text n = slice_index_or other_texts (n - NOTHING) (codes "unknown result")

-- the texts of the refusals of signing, in the order of their numbers
abbrev pub sign_texts : List (List ℕ)
sign_texts =
    codes "image has no certificate directory" ∷
    codes "certificate table ends before the end of the file" ∷
    codes "headers end after the start of the certificates or the end of the file" ∷
    codes "section data ends after the start of the certificates or the end of the file" ∷
    codes "certificate table is not aligned to 8 bytes" ∷
    codes "image with the certificate has 2^32 bytes or more" ∷
    []

-- the text of a refusal of signing, by its number from 201 on
unfoldable pub sign_text : ℕ → List ℕ
sign_text n = slice_index_or sign_texts n (codes "unknown result")

-- the texts of the refusals of directories, in the order of their numbers
abbrev pub directory_texts : List (List ℕ)
directory_texts =
    codes "base relocation block size below 8 or odd" ∷
    codes "base relocation block truncated" ∷
    codes "base relocation has no argument" ∷
    codes "virtual address below the image base" ∷
    codes "CLR header smaller than 72 bytes" ∷
    codes "name of a metadata stream not NUL-terminated" ∷
    codes "name of a delay import not NUL-terminated or not UTF-8" ∷
    codes "name of a bound import not NUL-terminated or not UTF-8" ∷
    codes "base relocation of a type that is not applied" ∷
    codes "base relocation outside of the image" ∷
    []

-- the text of a refusal of a directory, by its number from 301 on
unfoldable pub directory_text : ℕ → List ℕ
directory_text n = slice_index_or directory_texts n (codes "unknown result")

-- the texts of the refusals of resource trees, in the order of their numbers
abbrev pub tree_texts : List (List ℕ)
tree_texts =
    codes "resource data entry above the level of languages" ∷
    codes "resource directory below the level of languages" ∷
    codes "resource directory of names or languages has no entries" ∷
    []

-- the text of a refusal of a resource tree, by its number from 401 on
unfoldable pub tree_text : ℕ → List ℕ
tree_text n = slice_index_or tree_texts n (codes "unknown result")

-- the texts of the refusals of resources that are written, in the order of their numbers
abbrev pub edit_texts : List (List ℕ)
edit_texts =
    codes "more than 65,535 resources" ∷
    codes "type or name of a resource has an odd number of bytes or is too long" ∷
    codes "resource is not sorted after the one before it" ∷
    codes "directories and names of the resources have 2^31 bytes or more" ∷
    codes "resource section ends at the RVA 2^32 or after it" ∷
    codes "image has no resource directory" ∷
    codes "image has certificates, which have to be detached first" ∷
    codes "data directories end after the section table starts" ∷
    codes "alignment of sections or of their data is too small or no power of two" ∷
    codes "no section starts at the RVA of the resource directory" ∷
    codes "data of the sections are in the headers, truncated or not aligned" ∷
    codes "the entry point, a directory or a base relocation leads where the resources go" ∷
    codes "COFF symbols lie in the data of the resource section or at its end" ∷
    codes "section shares bytes or pages with the resource section or headers, or is after it" ∷
    codes "resources do not fit into the data of their section or into the image in memory" ∷
    codes "resource has a range outside of the array, or an id or language above 65,535" ∷
    codes "names of the resources have more than 16 MiB" ∷
    codes "key of a version block has an odd number of bytes, or a code unit of zero" ∷
    codes "text of a version block has an odd number of bytes" ∷
    codes "version block has more than 65,535 bytes" ∷
    codes "headers have no room for another section header" ∷
    codes "image with the resources ends after 4 GB" ∷
    codes "debug entries or their data lie where the resources go" ∷
    codes "contents of the resources, which share bytes, are too large for their array" ∷
    []

-- the text of a refusal of resources that are written, by its number from 451 on
unfoldable pub edit_text : ℕ → List ℕ
edit_text n = slice_index_or edit_texts n (codes "unknown result")

-- the texts of the refusals of signatures, in the order of their numbers
abbrev pub signature_texts : List (List ℕ)
signature_texts =
    codes "element of a signature truncated before its content" ∷
    codes "element of a signature has a tag number above 30" ∷
    codes "element of a signature has an indefinite length" ∷
    codes "length of an element of a signature has more than 4 octets after its first" ∷
    codes "length of an element of a signature is not in its shortest form" ∷
    codes "element of a signature ends after its parent" ∷
    codes "element of a signature is missing" ∷
    codes "element of a signature has another tag" ∷
    codes "bytes follow the last field of an element of a signature" ∷
    codes "content of a signature has another type" ∷
    codes "time of a signature is not in the form of RFC 5280" ∷
    codes "element of a signature is an end of contents, which DER does not have" ∷
    codes "element of a signature has no content, which its type does not allow" ∷
    []

-- the text of a refusal of a signature, by its number from 501 on
unfoldable pub signature_text : ℕ → List ℕ
signature_text n = slice_index_or signature_texts n (codes "unknown result")

-- the texts of the refusals of minidumps, in the order of their numbers
abbrev pub dump_texts : List (List ℕ)
dump_texts =
    codes "invalid signature of a minidump" ∷
    codes "invalid version of a minidump" ∷
    codes "directory of the streams ends past the end of the file" ∷
    codes "location in a minidump ends past the end of the file" ∷
    codes "number of entries of a list and the size of its stream do not agree" ∷
    codes "entries of a list smaller than their fields" ∷
    codes "string has an odd number of bytes" ∷
    codes "context smaller than its fields" ∷
    codes "context without control or integer registers" ∷
    codes "context of another machine" ∷
    []

-- the text of a refusal of a minidump, by its number from 551 on
unfoldable pub dump_text : ℕ → List ℕ
dump_text n = slice_index_or dump_texts n (codes "unknown result")

-- the texts of the refusals of program databases, in the order of their numbers
abbrev pub pdb_texts : List (List ℕ)
pdb_texts =
    codes "a PDB 2.0, which has another layout" ∷
    codes "a portable PDB of .NET, which has another layout" ∷
    codes "not a PDB 7.0" ∷
    codes "invalid block size of a PDB" ∷
    codes "blocks of a PDB end past the end of the file" ∷
    codes "directory of a PDB larger than the file, or than its superblock can list" ∷
    codes "block of a PDB lies outside of the file" ∷
    codes "directory of a PDB too short for its streams" ∷
    codes "PDB has no stream with this number" ∷
    codes "stream of a PDB has more blocks than the file" ∷
    codes "read past the end of a stream of a PDB" ∷
    codes "unknown version of the info stream of a PDB" ∷
    codes "DBI stream of a PDB does not start with -1" ∷
    codes "unknown version of the DBI stream of a PDB" ∷
    codes "parts of the DBI stream of a PDB end past its end" ∷
    codes "section headers of a PDB are not a multiple of 40 bytes" ∷
    codes "record of a symbol smaller than its kind" ∷
    codes "record of a PDB ends past the end of its bytes" ∷
    codes "name in a PDB not NUL-terminated or not UTF-8" ∷
    codes "symbols of a module end past the end of its stream" ∷
    codes "stream of a module does not start with 4" ∷
    codes "records of a PDB have 4 GB or more" ∷
    codes "names of the source files of a PDB do not start with 0xEFFEEFFE" ∷
    codes "unknown version of the section contributions of a PDB" ∷
    codes "section contributions of a PDB are not a multiple of their size" ∷
    codes "annotation of an inlined function truncated or not known" ∷
    codes "more than 64 inlined functions at one offset of a procedure" ∷
    []

-- the text of a refusal of a program database, by its number from 601 on
unfoldable pub pdb_text : ℕ → List ℕ
pdb_text n = slice_index_or pdb_texts n (codes "unknown result")

-- the text of the number of a result
unfoldable pub result_text : ℕ → List ℕ
result_text n =
    if nat_lt n NOTHING then refusal_text n
    else (if nat_lt n SIGNING then other_text n
    else (if nat_lt n DIRECTORIES then sign_text (n - SIGNING)
    else (if nat_lt n TREES then directory_text (n - DIRECTORIES)
    else (if nat_lt n EDITS then tree_text (n - TREES)
    else (if nat_lt n SIGNATURES then edit_text (n - EDITS)
    else (if nat_lt n DUMPS then signature_text (n - SIGNATURES)
    else (if nat_lt n PDBS then dump_text (n - DUMPS) else pdb_text (n - PDBS))))))))
