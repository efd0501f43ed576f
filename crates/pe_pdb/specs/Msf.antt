-- A file of streams (MSF 7.0): a superblock, and blocks of one size. Each stream is scattered over blocks; the directory lists how
-- long each stream is and which blocks it has.
use Rattle.std.specs.Prelude.{ℕ, ◌+◌, ◌*◌, ◌/◌, ◌==◌, ◌&&◌, ◌||◌, not, List, [], ◌∷◌, Bool, length, nat_le, nat_lt, Result}
use Rattle.std.specs.Int.{div_ceil}
use Rattle.pe_core.specs.Bytes.{le, holds}
use Rattle.pe_core.specs.Refusals.{outcome, ◌>>=◌}
use Rattle.pe_pdb.specs.Places.{all_below, directory_block, directory_word, map_block}
use Rattle.pe_pdb.specs.Refusals.{PdbRefusal, Short, Pdb20, PortablePdb, Magic, BlockSize, FileSize, BlockMap, Block, Directory}
use Rattle.pe_pdb.specs.declared.file.Msf.{Msf}
use Rattle.pe_pdb.specs.declared.msf.SuperBlock.{SuperBlock}
use Rattle.pe_pdb.specs.declared.msf.TheConstants.{MICROSOF, T_C_CPP, MSF_7_00, SUFFIX, PROGRAM, DATABASE, BSJB}

-- the superblock, whose first 32 bytes are a text
unfoldable pub superblock : List ℕ → SuperBlock
superblock b = record {
  block_size = le b 32 4;
  free_block_map = le b 36 4;
  number_of_blocks = le b 40 4;
  directory_size = le b 44 4;
}

-- the text, as four numbers of 8 bytes
abbrev pub is_magic : List ℕ → Bool
is_magic b = le b 0 8 == MICROSOF && le b 8 8 == T_C_CPP && le b 16 8 == MSF_7_00 && le b 24 8 == SUFFIX

-- the text of a PDB 2.0, as far as it says so
abbrev pub is_pdb20 : List ℕ → Bool
is_pdb20 b = le b 0 8 == MICROSOF && le b 8 8 == T_C_CPP && le b 16 8 == PROGRAM && le b 24 8 == DATABASE

-- the sizes that blocks have
abbrev pub is_block_size : ℕ → Bool
is_block_size n = n == 512 || n == 1024 || n == 2048 || n == 4096 || n == 8192 || n == 16384 || n == 32768

-- what callers see of a file: its bytes, how many blocks it has, how many words a block has, and how many the directory has
pub record MsfView : Type 0 where
  pub bytes : List ℕ
  pub blocks : ℕ
  pub words : ℕ
  pub directory_words : ℕ

abbrev pub msf_view : Msf → MsfView
msf_view m = record { bytes = m.map.file.now; blocks = m.map.blocks; words = m.map.words; directory_words = m.directory_words }

-- how many blocks so many words take
abbrev pub blocks_for : ℕ → ℕ → ℕ
blocks_for words n = div_ceil n words

-- the file that has this superblock
abbrev pub view_of : List ℕ → SuperBlock → MsfView
view_of b s = record {
  bytes = b;
  blocks = s.number_of_blocks;
  words = s.block_size / 4;
  directory_words = s.directory_size / 4;
}

-- a word of the directory
abbrev pub word_of : MsfView → ℕ → ℕ
word_of m i = directory_word m.bytes m.words i

-- the directory has no more blocks than the file, which has one, and the blocks that the superblock lists fit in it
abbrev pub lists_map : MsfView → Bool
lists_map m =
    nat_lt 0 m.blocks && nat_le (blocks_for m.words m.directory_words) m.blocks
    && nat_le (52 + 4 * blocks_for m.words (blocks_for m.words m.directory_words)) (4 * m.words)

-- every block of the directory, and of the list of its blocks, is one of the file
abbrev pub has_directory : MsfView → Bool
has_directory m =
    all_below m.blocks (map_block m.bytes) (blocks_for m.words (blocks_for m.words m.directory_words))
    && all_below m.blocks (directory_block m.bytes m.words) (blocks_for m.words m.directory_words)

-- the directory has the number of streams, and their sizes
abbrev pub lists_sizes : MsfView → Bool
lists_sizes m = nat_lt 0 m.directory_words && nat_lt (word_of m 0) m.directory_words

-- the tests of what stands before the directory, in order
abbrev pub superblock_of : List ℕ → Result SuperBlock PdbRefusal
superblock_of b =
    outcome (
    (holds b 0 56, Short)
    ∷ (not (is_pdb20 b), Pdb20)
    ∷ (not (le b 0 4 == BSJB), PortablePdb)
    ∷ (is_magic b, Magic)
    ∷ (is_block_size (le b 32 4), BlockSize)
    ∷ (nat_le (le b 40 4 * le b 32 4) (length b), FileSize) ∷ []
    ) (superblock b)

-- those of the directory
unfoldable pub directory_of : MsfView → Result MsfView PdbRefusal
directory_of m =
    outcome ((lists_map m, BlockMap) ∷ (has_directory m, Block) ∷ (lists_sizes m, Directory) ∷ []) m

-- the file
abbrev pub msf_of : List ℕ → Result MsfView PdbRefusal
msf_of b = superblock_of b >>= λ s. directory_of (view_of b s)
