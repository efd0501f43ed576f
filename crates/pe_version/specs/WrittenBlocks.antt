-- The bytes of a block of version information. (Microsoft: VS_VERSIONINFO, StringFileInfo, StringTable, String, VarFileInfo,
-- Var. That the last block of a parent is padded too is this project's choice; windres does the same.)
use Rattle.std.specs.Prelude.{◌≡◌, ℕ, ◌+◌, ◌-◌, ◌/◌, ◌%◌, ◌<◌, ◌≢◌, Bool, true, List, [], ◌∷◌, ◌++◌, length, replicate, if◌then◌else◌}
use Rattle.pe_core.specs.Bytes.{bytes_of}
use Rattle.pe_resource.specs.VersionBlocks.{Block}
use Rattle.pe_resource.specs.VersionStrings.{units, up_to_four}

-- a block: its key as code units of two bytes each, whether its value is a text, the value, and the bytes of the blocks in it
pub record BlockValue : Type 0 where
  pub key : List ℕ
  pub is_text : Bool
  pub value : List ℕ
  pub children : List ℕ

-- where its value starts: after its head, its key and the key's zero code unit, at a multiple of four
abbrev pub value_start : BlockValue → ℕ
value_start k = up_to_four (8 + length k.key)

-- how long n bytes are, with zeros up to a multiple of four if others follow
abbrev pub before_others : ℕ → List ℕ → ℕ
before_others n [] = n
before_others n (x ∷ xs) = up_to_four n

-- where its blocks start, and where it ends
abbrev pub children_start : BlockValue → ℕ
children_start k = value_start k + before_others (length k.value) k.children

abbrev pub block_length : BlockValue → ℕ
block_length k = children_start k + length k.children

-- the length of its value: in code units of a text, else in bytes; and the number of its type
abbrev pub value_length : BlockValue → ℕ
value_length k = if k.is_text then length k.value / 2 else length k.value

abbrev pub type_number : Bool → ℕ
type_number is_text = if is_text then 1 else 0

-- its bytes: the head, the key, zeros, the value, zeros, the blocks
unfoldable pub block_bytes : BlockValue → List ℕ
block_bytes k =
    bytes_of 2 (block_length k) ++ (bytes_of 2 (value_length k) ++ (bytes_of 2 (type_number k.is_text)
    ++ (k.key ++ (replicate (value_start k - (6 + length k.key)) 0
    ++ (k.value ++ (replicate (before_others (length k.value) k.children - length k.value) 0 ++ k.children))))))

-- the same with zeros up to a multiple of four, where the next block starts
abbrev pub padded_length : BlockValue → ℕ
padded_length k = up_to_four (block_length k)

unfoldable pub padded_block : BlockValue → List ℕ
padded_block k = block_bytes k ++ replicate (padded_length k - block_length k) 0

-- blocks one after the other
unfoldable pub blocks_bytes : List BlockValue → List ℕ
blocks_bytes [] = []
blocks_bytes (k ∷ ks) = padded_block k ++ blocks_bytes ks

-- what is read of it
abbrev pub read_block : BlockValue → Block
read_block k = record {
  length = block_length k;
  value_length = value_length k;
  value_type = type_number k.is_text;
  key = k.key;
  value = k.value;
  children = k.children;
}

-- no number is zero
abbrev pub NoZero : List ℕ → Type 0
NoZero [] = Unit {0}
NoZero (u ∷ us) = (u ≢ 0) × NoZero us

-- the key and a text are whole code units, no code unit of the key is zero, and the length fits its field
pub record Fits (k : BlockValue) : Type 0 where
  pub key_even : length k.key % 2 ≡ 0
  pub key_plain : NoZero (units k.key)
  pub even : k.is_text ≡ true → length k.value % 2 ≡ 0
  pub short : block_length k < 65536

abbrev pub AllFit : List BlockValue → Type 0
AllFit [] = Unit {0}
AllFit (k ∷ ks) = Fits k × AllFit ks
