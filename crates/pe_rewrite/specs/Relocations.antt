-- Whether the base relocations of an image change what is between two RVAs. (PE format: .reloc section, base relocation types.)
use Rattle.std.specs.Prelude.{ℕ, ◌+◌, ◌*◌, ◌/◌, ◌==◌, ◌||◌, Bool, List, [], Option, Some, None, Result, Ok, Err, nat_le, nat_lt, if◌then◌else◌}
use Rattle.std.specs.List.{list_all}
use Rattle.pe_core.specs.Bytes.{range}
use Rattle.pe_core.specs.declared.data_directories.DataDirectory.{DataDirectory}
use Rattle.pe_directories.specs.BaseRelocations.{Block, first_block, first_relocation}
use Rattle.pe_directories.specs.DirectoryRefusals.{DirectoryRefusal}
use Rattle.pe_directories.specs.Walks.{all_items}
use Rattle.pe_directories.specs.declared.base_relocation.BaseRelocation.{BaseRelocation}
use Rattle.pe_directories.specs.declared.base_relocation.TheConstants.{IMAGE_REL_BASED_ABSOLUTE, IMAGE_REL_BASED_DIR64, IMAGE_REL_BASED_HIGHADJ, IMAGE_REL_BASED_HIGHLOW, IMAGE_REL_BASED_LOW}
use Rattle.pe_rewrite.specs.declared.relocation.Rvas.{Rvas}

-- how many bytes a relocation of a type changes at most, by the PE format's base relocation types and winnt.h: HIGH, LOW and HIGHADJ a
-- number of 2 bytes, HIGHLOW one of 4, DIR64 one of 8. What another changes depends on the machine: an instruction of 4 bytes
-- (MIPS_JMPADDR, MIPS_JMPADDR16, RISCV_HIGH20, RISCV_LOW12I, RISCV_LOW12S), two of 4 bytes (ARM_MOV32, THUMB_MOV32,
-- LOONGARCH32_MARK_LA), four (LOONGARCH64_MARK_LA), or a bundle of 16 bytes (IA64_IMM64)
abbrev pub most_changed : ℕ → ℕ
most_changed kind =
    if nat_le kind IMAGE_REL_BASED_LOW || kind == IMAGE_REL_BASED_HIGHADJ then 2
    else if kind == IMAGE_REL_BASED_HIGHLOW then 4
    else if kind == IMAGE_REL_BASED_DIR64 then 8
    else 16

-- the first of them: type 9 is IA64_IMM64, whose RVA lies in the bundle, which starts at a multiple of 16
abbrev pub first_changed : BaseRelocation → ℕ
first_changed r = if r.kind == 9 then r.rva / 16 * 16 else r.rva

-- a relocation is none, of type ABSOLUTE, or changes no byte there; or it is not read, and that counts as none
abbrev pub is_beside : Rvas → Result BaseRelocation DirectoryRefusal → Bool
is_beside v (Ok r) = r.kind == IMAGE_REL_BASED_ABSOLUTE || (nat_le (r.rva + most_changed r.kind) v.start || nat_le v.end (first_changed r))
is_beside v (Err e) = v.skips_unread

-- the same of all relocations of a block
abbrev pub block_beside : Rvas → Block → Bool
block_beside v k = list_all (is_beside v) (all_items (first_relocation k.page_rva) (Some k.entries))

abbrev pub item_beside : Rvas → Result Block DirectoryRefusal → Bool
item_beside v (Ok k) = block_beside v k
item_beside v (Err e) = v.skips_unread

-- of all blocks of a table
abbrev pub table_beside : Rvas → List ℕ → Bool
table_beside v table = list_all (item_beside v) (all_items first_block (Some table))

-- the table of a directory that the section map leads to this offset, as much of it as is in the file; if to none, it is in the
-- headers, of n bytes, or nowhere
abbrev pub table_at : List ℕ → DataDirectory → ℕ → Option ℕ → List ℕ
table_at b d n None = if nat_lt d.virtual_address n then range b d.virtual_address d.size else []
table_at b d n (Some p) = range b p d.size
