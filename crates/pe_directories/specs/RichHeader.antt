-- The Rich header, which Microsoft's linker writes between the DOS stub and the PE header, and Microsoft does not document: the
-- word DanS, three words of zeros, entries of 8 bytes, all XORed with a key, then the word Rich and the key.
use Rattle.std.specs.Prelude.{ℕ, zero, suc, ◌+◌, ◌-◌, ◌*◌, ◌/◌, ◌%◌, ◌==◌, ◌&&◌, Bool, bit_xor, List, length, take, Option, Some, None, nat_le, nat_lt, slice_index, if◌then◌else◌}
use Rattle.std.specs.Int.{rotate_left, w32}
use Rattle.std.specs.List.{fold}
use Rattle.std.specs.Option.{option_or}
use Rattle.pe_core.specs.Bytes.{le, range}
use Rattle.pe_core.specs.Rows.{each}
use Rattle.pe_directories.specs.declared.rich_header.RichEntry.{RichEntry}
use Rattle.pe_directories.specs.declared.rich_header.RichHeader.{RichHeader}
use Rattle.pe_directories.specs.declared.rich_header.TheConstants.{DANS, RICH}

-- the word of 4 bytes with an index
abbrev pub word : List ℕ → ℕ → ℕ
word b k = le b (4 * k) 4

-- the index of the first word Rich among the n words from index k on
unfoldable pub next_rich : List ℕ → ℕ → ℕ → Option ℕ
next_rich b k zero = None
next_rich b k (suc n) = if word b k == RICH then Some k else next_rich b (suc k) n

-- what callers see of the header: also the bytes before it, and its entries as they are in the file
pub record Rich : Type 0 where
  pub key : ℕ
  pub before : List ℕ
  pub entries : List ℕ

-- this header as callers see it
abbrev pub rich_view : RichHeader → Rich
rich_view h = record { key = h.key; before = h.before.now; entries = h.entry_bytes.now }

-- the words from index start on are DanS and three zeros, XORed with the key
abbrev pub starts_with : List ℕ → ℕ → ℕ → Bool
starts_with b key start =
    word b start == bit_xor DANS key && word b (start + 1) == key && word b (start + 2) == key && word b (start + 3) == key

-- a header starts at the word with index start and has its word Rich at index end: whole entries are between
abbrev pub is_rich : List ℕ → ℕ → ℕ → Bool
is_rich b start end = nat_le (start + 4) end && (end - start) % 2 == 0 && starts_with b (word b (end + 1)) start

-- the header from the word with index start to the word Rich with index end
abbrev pub rich_between : List ℕ → ℕ → ℕ → Rich
rich_between b start end = record {
  key = word b (end + 1);
  before = take (4 * start) b;
  entries = range b (4 * start + 16) (4 * (end - start - 4));
}

-- the header that starts at the word with index start, if one does: the next word Rich after it ends it
unfoldable pub rich_from : List ℕ → ℕ → Option ℕ → Option Rich
rich_from b start None = None
rich_from b start (Some end) = if is_rich b start end then Some (rich_between b start end) else None

-- the last of the headers that start at one of the first k of n words
unfoldable pub last_rich : List ℕ → ℕ → ℕ → Option Rich
last_rich b n zero = None
last_rich b n (suc k) = option_or (rich_from b k (next_rich b k (n - k))) (last_rich b n k)

-- the header in the bytes before a PE header, the last if there are several: the key after its word Rich is there too
unfoldable pub rich_header : List ℕ → Option Rich
rich_header b = last_rich b (length b / 4 - 1) (length b / 4 - 1)

-- the entry with an index: a build, a product, and how many objects they made
unfoldable pub rich_entry : Rich → ℕ → RichEntry
rich_entry h k =
    let id = bit_xor (le h.entries (8 * k) 4) h.key in record {
      build = id % 65536;
      product = id / 65536;
      count = bit_xor (le h.entries (8 * k + 4) 4) h.key;
    }

abbrev pub rich_entry_at : Rich → ℕ → Option RichEntry
rich_entry_at h k = if nat_lt k (length h.entries / 8) then Some (rich_entry h k) else None

-- what a byte before the header adds to the checksum: itself, rotated by its offset; the PE pointer counts as zeros
abbrev pub stub_share : List ℕ → ℕ → ℕ
stub_share b p = if nat_le 60 p && nat_lt p 64 then 0 else rotate_left w32 (slice_index b p) (p % 32)

-- the sum of 32 bits
abbrev pub plus : ℕ → ℕ → ℕ
plus sum share = (sum + share) % 4294967296

-- the offset of the header, and the shares of all bytes before it
unfoldable pub stub_sum : List ℕ → ℕ
stub_sum b = fold plus (length b % 4294967296) (each (stub_share b) (length b))

-- what an entry adds to the checksum: its first word, rotated by its count
unfoldable pub entry_share : Rich → ℕ → ℕ
entry_share h k =
    rotate_left w32 (bit_xor (le h.entries (8 * k) 4) h.key) (bit_xor (le h.entries (8 * k + 4) 4) h.key)

-- the checksum: the offset of the header, the shares of all bytes before it, and those of its entries
unfoldable pub rich_checksum : Rich → ℕ
rich_checksum h = fold plus (stub_sum h.before) (each (entry_share h) (length h.entries / 8))
