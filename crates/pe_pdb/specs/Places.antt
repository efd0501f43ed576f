-- Where the numbers of the directory stand, which are words of 4 bytes. The directory is scattered over blocks; so is the list of
-- its blocks, and the superblock lists the blocks of that list. A block has so many words.
use Rattle.std.specs.Prelude.{ℕ, zero, suc, ◌+◌, ◌*◌, ◌/◌, ◌%◌, ◌&&◌, Bool, true, List, nat_lt}
use Rattle.pe_core.specs.Bytes.{le}

-- where a word stands in the file, by its index in what is scattered over these blocks
abbrev pub place : ℕ → (ℕ → ℕ) → ℕ → ℕ
place words block_of i = 4 * words * block_of (i / words) + 4 * (i % words)

-- the blocks that the superblock lists
abbrev pub map_block : List ℕ → ℕ → ℕ
map_block b k = le b (52 + 4 * k) 4

-- the blocks of the directory
unfoldable pub directory_block : List ℕ → ℕ → ℕ → ℕ
directory_block b words j = le b (place words (map_block b) j) 4

-- the words of the directory
unfoldable pub directory_word : List ℕ → ℕ → ℕ → ℕ
directory_word b words i = le b (place words (directory_block b words) i) 4

-- each of the first n blocks is below a limit
unfoldable pub all_below : ℕ → (ℕ → ℕ) → ℕ → Bool
all_below limit block_of zero = true
all_below limit block_of (suc n) = all_below limit block_of n && nat_lt (block_of n) limit
