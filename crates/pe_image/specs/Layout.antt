-- What the headers say about the whole image: PE32 or PE32+, DLL or not, and where its directories are. (PE format:
-- COFF file header, optional header.)
use Rattle.std.specs.Prelude.{ℕ, ◌/◌, ◌%◌, ◌==◌, Bool, false, Option, Some, None}
use Rattle.pe_core.specs.Directories.{present}
use Rattle.pe_core.specs.Header.{HeaderView, OptionalHeaderView}
use Rattle.pe_core.specs.declared.data_directories.DataDirectory.{DataDirectory}
use Rattle.pe_core.specs.declared.header.TheConstants.{IMAGE_FILE_DLL}
use Rattle.pe_core.specs.declared.optional_header.TheConstants.{MAGIC_64}

-- the directory with this number, if the image has it; without an optional header it has none
abbrev pub directory : ℕ → Option OptionalHeaderView → Option DataDirectory
directory number None = None
directory number (Some o) = present o.data_directories number

-- the file alignment; 0 without an optional header, and then nothing is read with it
abbrev pub alignment : Option OptionalHeaderView → ℕ
alignment None = 0
alignment (Some o) = o.windows_fields.file_alignment

-- the optional header is that of PE32+
abbrev pub is_64 : Option OptionalHeaderView → Bool
is_64 None = false
is_64 (Some o) = o.standard_fields.magic == MAGIC_64

-- the RVA of the entry point; 0 without an optional header
abbrev pub entry_point : Option OptionalHeaderView → ℕ
entry_point None = 0
entry_point (Some o) = o.standard_fields.address_of_entry_point

-- the preferred virtual address of the image; 0 without an optional header
abbrev pub image_base : Option OptionalHeaderView → ℕ
image_base None = 0
image_base (Some o) = o.windows_fields.image_base

-- the image is a DLL: bit 13 of the characteristics
abbrev pub is_library : HeaderView → Bool
is_library h = h.coff_header.characteristics / IMAGE_FILE_DLL % 2 == 1
