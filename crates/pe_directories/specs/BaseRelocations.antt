-- Base relocations. (PE format: .reloc section, base relocation block, base relocation types. Which sizes of blocks are
-- refused is this project's profile.)
use Rattle.std.specs.Prelude.{ℕ, ◌+◌, ◌-◌, ◌/◌, ◌%◌, ◌==◌, ◌&&◌, ◌||◌, List, [], ◌∷◌, length, drop, Bool, Option, Some, None, nat_le, if◌then◌else◌}
use Rattle.std.specs.Option.{option_map}
use Rattle.pe_core.specs.Bytes.{le, range, holds}
use Rattle.pe_core.specs.Refusals.{Short, outcome}
use Rattle.pe_directories.specs.DirectoryRefusals.{Image, BlockSize, BlockTruncated, NoArgument}
use Rattle.pe_directories.specs.Walks.{First}
use Rattle.pe_directories.specs.declared.base_relocation.RelocationBlock.{RelocationBlock}
use Rattle.pe_directories.specs.declared.base_relocation.RelocationBlocks.{RelocationBlocks}
use Rattle.pe_directories.specs.declared.base_relocation.BaseRelocation.{BaseRelocation}
use Rattle.pe_directories.specs.declared.base_relocation.BaseRelocations.{BaseRelocations}

-- what callers see of a block: the RVA of its page, and the bytes of its entries
pub record Block : Type 0 where
  pub page_rva : ℕ
  pub entries : List ℕ

-- this block as callers see it
abbrev pub block_view : RelocationBlock → Block
block_view k = record { page_rva = k.page_rva; entries = k.entries.now }

-- a block has the 8 bytes of its header at least, and whole entries
abbrev pub is_block_size : ℕ → Bool
is_block_size size = nat_le 8 size && size % 2 == 0

-- the block at the start of some bytes
unfoldable pub block_of : List ℕ → Block
block_of b = record { page_rva = le b 0 4; entries = range b 8 (le b 4 4 - 8) }

-- a list of blocks ends with its bytes, or with a block whose page and size are 0
abbrev pub blocks_end : List ℕ → Bool
blocks_end b = length b == 0 || (holds b 0 8 && (le b 0 4 == 0 && le b 4 4 == 0))

-- the block that stands first in some bytes: two numbers of 4 bytes, its page and its size, and its entries
unfoldable pub first_block : List ℕ → First Block (List ℕ)
first_block b =
    if blocks_end b then None
    else Some (outcome (
    (holds b 0 8, Image Short) ∷ (is_block_size (le b 4 4), BlockSize) ∷ (holds b 0 (le b 4 4), BlockTruncated) ∷ []
    ) (block_of b, drop (le b 4 4) b))

-- the type of an entry, in its high 4 bits
abbrev pub type_of : ℕ → ℕ
type_of entry = entry / 4096

-- the size of a relocation: that of a HIGHADJ (4) has an argument, the entry after it
abbrev pub relocation_size : ℕ → ℕ
relocation_size kind = if kind == 4 then 4 else 2

-- the relocation at the start of the entries of a page
unfoldable pub relocation_of : ℕ → List ℕ → BaseRelocation
relocation_of page b = record {
  kind = type_of (le b 0 2);
  rva = page + le b 0 2 % 4096;
  argument = if type_of (le b 0 2) == 4 then Some (le b 2 2) else None;
}

-- the relocation that stands first in the entries of a page
unfoldable pub first_relocation : ℕ → List ℕ → First BaseRelocation (List ℕ)
first_relocation page b =
    if length b == 0 then None
    else Some (outcome (
    (holds b 0 2, Image Short) ∷ (holds b 0 (relocation_size (type_of (le b 0 2))), NoArgument) ∷ []
    ) (relocation_of page b, drop (relocation_size (type_of (le b 0 2))) b))

-- the bytes that a walk has left, and the page that its relocations count from
abbrev pub blocks_left : RelocationBlocks → Option (List ℕ)
blocks_left s = option_map (λ b. b.now) s.left

abbrev pub relocations_left : BaseRelocations → Option (List ℕ)
relocations_left s = option_map (λ b. b.now) s.left

abbrev pub page_of : BaseRelocations → ℕ
page_of s = s.page_rva
