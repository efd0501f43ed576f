-- Version information as the tree of blocks that it is: each block inside the length of the one that it belongs to.
-- (Microsoft: VS_VERSIONINFO, StringFileInfo, StringTable, String, VarFileInfo, Var. What a wrong length costs is this
-- project's profile.)
use Rattle.std.specs.Prelude.{◌≡◌, ℕ, zero, suc, ◌+◌, ◌/◌, ◌%◌, ◌^◌, ◌==◌, ◌&&◌, ◌||◌, List, [], ◌∷◌, length, take, drop, Bool, true, false, Option, Some, None, Result, Ok, Err, codes, nat_le, if◌then◌else◌}
use Rattle.std.specs.Option.{option_map}
use Rattle.std.specs.Str.{bytes_eq}
use Rattle.pe_core.specs.Bytes.{le, range, holds}
use Rattle.pe_core.specs.HexDigits.{number_after}
use Rattle.pe_core.specs.Refusals.{Refusal, Short, outcome, kind_of, ◌>>=◌}
use Rattle.pe_resource.specs.Leaves.{content_of_type}
use Rattle.pe_resource.specs.VersionFields.{fixed_info_at}
use Rattle.pe_resource.specs.VersionStrings.{units, key_length, value_offset, value_bytes, up_to_four}
use Rattle.pe_resource.specs.declared.leaves.ResourceLeaf.{ResourceLeaf}
use Rattle.pe_resource.specs.declared.version.VsFixedFileInfo.{VsFixedFileInfo}
use Rattle.pe_resource.specs.declared.version_block.Translation.{Translation}
use Rattle.pe_resource.specs.declared.version_block.VersionBlock.{VersionBlock}
use Rattle.pe_resource.specs.declared.version_block.VersionBlocks.{VersionBlocks}
use Rattle.pe_resource.specs.declared.version_block_error.VersionBlockError.{VersionBlockError}
use Rattle.pe_resource.specs.declared.version_block_error.VersionBlockError.TheVariants as errors

-- ---- errors

-- the kinds of errors
pub data BlockRefusal : Type 0 where
  Image : Refusal → BlockRefusal
  BelowHead : BlockRefusal
  PastEnd : BlockRefusal
  KeyEnd : BlockRefusal

-- the kind of an error
abbrev pub block_kind_of : VersionBlockError → BlockRefusal
block_kind_of (errors.Image error) = Image (kind_of error)
block_kind_of (errors.BelowHead length) = BelowHead
block_kind_of (errors.PastEnd length left) = PastEnd
block_kind_of (errors.KeyEnd length) = KeyEnd

-- the result of a call: its value seen by view, or the kind of its error
abbrev pub block_answer : {X Y : Type 0} → (X → Y) → Result X VersionBlockError → Result Y BlockRefusal
block_answer view (Ok x) = Ok (view x)
block_answer view (Err e) = Err (block_kind_of e)

-- the call returned the defined value, seen by view, or an error of the defined kind
abbrev pub BlockReturns : {X Y : Type 0} → (X → Y) → Result X VersionBlockError → Result Y BlockRefusal → Type 0
BlockReturns view (Ok x) defined = defined ≡ Ok (view x)
BlockReturns view (Err e) defined = defined ≡ Err (block_kind_of e)

-- the result of a definition of another error
abbrev pub of_image : {X : Type 0} → Result X Refusal → Result X BlockRefusal
of_image (Ok x) = Ok x
of_image (Err r) = Err (Image r)

-- ---- one block

-- a block, independent of where its parts lie in memory: the three numbers of its head, the code units of its key without the
-- zero one, its value, and the bytes of the blocks that it contains
pub record Block : Type 0 where
  pub length : ℕ
  pub value_length : ℕ
  pub value_type : ℕ
  pub key : List ℕ
  pub value : List ℕ
  pub children : List ℕ

-- the view of a block
abbrev pub block_view : VersionBlock → Block
block_view k = record {
  length = k.length;
  value_length = k.value_length;
  value_type = k.value_type;
  key = k.key.now;
  value = k.value.now;
  children = k.child_bytes.now;
}

-- the bytes of a block after its key, from the next multiple of four on
abbrev pub after_key : List ℕ → List ℕ
after_key x = drop (value_offset x 0) x

-- the block of these bytes, which are its own: a value that passes its end is truncated there
unfoldable pub block_of : List ℕ → Block
block_of x = record {
  length = le x 0 2;
  value_length = le x 2 2;
  value_type = le x 4 2;
  key = range x 6 (key_length x 6);
  value = take (value_bytes x 0) (after_key x);
  children = drop (up_to_four (value_bytes x 0)) (after_key x);
}

-- the block of these bytes, which are its own; refused if its key has no zero code unit in them
unfoldable pub whole_block : List ℕ → Result Block BlockRefusal
whole_block x = outcome ((holds x (6 + key_length x 6) 2, KeyEnd) ∷ []) (block_of x)

-- the bytes of the block at the start of others, as many as its length says
unfoldable pub own_bytes : List ℕ → Result (List ℕ) BlockRefusal
own_bytes b =
    outcome ((holds b 0 6, Image Short) ∷ (nat_le 6 (le b 0 2), BelowHead) ∷ (holds b 0 (le b 0 2), PastEnd) ∷ []) (range b 0 (le b 0 2))

-- ---- blocks, one after the other

-- blocks end with their bytes, or at a length of 0, which pads them
abbrev pub blocks_end : List ℕ → Bool
blocks_end b = length b == 0 || (holds b 0 2 && le b 0 2 == 0)

-- a block, and the bytes of the blocks after it: from a multiple of four on, or none where its length is wrong
abbrev pub block_and_rest : List ℕ → Result (List ℕ) BlockRefusal → Result Block BlockRefusal × List ℕ
block_and_rest b (Ok x) = (whole_block x, drop (up_to_four (length x)) b)
block_and_rest b (Err r) = (Err r, [])

-- the block that stands first in some bytes, or why it is not read, and the bytes of the blocks after it
unfoldable pub first_block : List ℕ → Option (Result Block BlockRefusal × List ℕ)
first_block b = if blocks_end b then None else Some (block_and_rest b (own_bytes b))

-- the list with this first item, if there is one, and the blocks of the bytes after it
abbrev pub then_blocks : (List ℕ → List (Result Block BlockRefusal)) → Option (Result Block BlockRefusal × List ℕ) → List (Result Block BlockRefusal)
then_blocks rest None = []
then_blocks rest (Some x) = x.0 ∷ rest x.1

-- the first n blocks of some bytes
abbrev pub blocks_up_to : ℕ → List ℕ → List (Result Block BlockRefusal)
blocks_up_to zero b = []
blocks_up_to (suc n) b = then_blocks (blocks_up_to n) (first_block b)

-- the blocks of some bytes: no more than there are bytes
unfoldable pub blocks : List ℕ → List (Result Block BlockRefusal)
blocks b = blocks_up_to (length b) b

-- the bytes that an iterator has left
abbrev pub rest_of : VersionBlocks → List ℕ
rest_of s = s.left.now

-- the result of one call of `next`, and the bytes that it leaves
abbrev pub ReturnsBlock : List ℕ → Option (Result VersionBlock VersionBlockError) → List ℕ → Type 0
ReturnsBlock b None left = (first_block b ≡ None) × (left ≡ [])
ReturnsBlock b (Some r) left = first_block b ≡ Some (block_answer block_view r, left)

-- a block with this error is the last: its length is wrong, so no other is found after it
abbrev pub ends_blocks : BlockRefusal → Bool
ends_blocks KeyEnd = false
ends_blocks other = true

-- ---- blocks by their keys

-- the code units of the key are these characters
abbrev pub has_key : List ℕ → Block → Bool
has_key name k = bytes_eq (units k.key) name

-- a block that is found, else the refusal of one before it
abbrev pub found_or : BlockRefusal → Result (Option Block) BlockRefusal → Result (Option Block) BlockRefusal
found_or r (Ok (Some k)) = Ok (Some k)
found_or r (Ok None) = Err r
found_or r (Err s) = Err r

-- the first block with this key; without one, the first refusal, if there is one
abbrev pub block_with_key : List ℕ → List (Result Block BlockRefusal) → Result (Option Block) BlockRefusal
block_with_key name [] = Ok None
block_with_key name (Ok k ∷ more) = if has_key name k then Ok (Some k) else block_with_key name more
block_with_key name (Err r ∷ more) = found_or r (block_with_key name more)

-- the bytes of what a block contains, and of its value; none without a block
abbrev pub children_of : Option Block → List ℕ
children_of None = []
children_of (Some k) = k.children

abbrev pub value_of : Option Block → List ℕ
value_of None = []
value_of (Some k) = k.value

-- ---- version information

-- the block that version information is: the first one of its bytes
abbrev pub root_of : Option (Result Block BlockRefusal × List ℕ) → Result (Option Block) BlockRefusal
root_of None = Ok None
root_of (Some (Ok k, rest)) = Ok (Some k)
root_of (Some (Err r, rest)) = Err r

abbrev pub version_block : List ℕ → Result (Option Block) BlockRefusal
version_block b = root_of (first_block b)

-- the fixed file information in a block: its value, if its key is VS_VERSION_INFO and its value has 52 bytes
abbrev pub fixed_info_of_block : Block → Option VsFixedFileInfo
fixed_info_of_block k = if has_key (codes "VS_VERSION_INFO") k && nat_le 52 (length k.value) then Some (fixed_info_at k.value 0) else None

-- the bytes of what the first child with this key contains
unfoldable pub children_with_key : List ℕ → Block → Result (List ℕ) BlockRefusal
children_with_key name k = block_with_key name (blocks k.children) >>= λ child. Ok (children_of child)

-- the bytes of the string tables of version information
abbrev pub string_tables : Block → Result (List ℕ) BlockRefusal
string_tables k = children_with_key (codes "StringFileInfo") k

-- the value of the first of some blocks with this key
unfoldable pub value_with_key : List ℕ → List ℕ → Result (List ℕ) BlockRefusal
value_with_key name b = block_with_key name (blocks b) >>= λ k. Ok (value_of k)

-- the value of the first block with a key in what the first child with another key contains
abbrev pub value_below : List ℕ → List ℕ → Block → Result (List ℕ) BlockRefusal
value_below outer inner k = children_with_key outer k >>= λ b. value_with_key inner b

-- the bytes of the languages and code pages of version information: the value of `Translation`
abbrev pub translations : Block → Result (List ℕ) BlockRefusal
translations k = value_below (codes "VarFileInfo") (codes "Translation") k

-- a language and a code page, 4 bytes
abbrev pub translation_at : List ℕ → ℕ → Translation
translation_at b p = record { language = le b p 2; code_page = le b (p + 2) 2 }

-- ---- the language and the code page of a string table

-- the language and the code page of a key of eight digits, four for each
unfoldable pub translation_of_key : List ℕ → Option Translation
translation_of_key key =
    if length key == 16 then option_map (λ n. record { language = n / 2 ^ 16; code_page = n % 2 ^ 16 }) (number_after 0 (units key)) else None

-- ---- the version information of a leaf

-- the block of a content, if there is one
abbrev pub block_of_content : Option (List ℕ) → Result (Option Block) BlockRefusal
block_of_content None = Ok None
block_of_content (Some c) = version_block c

-- the block of a leaf of the type RT_VERSION
abbrev pub leaf_block : (ℕ → Option ℕ) → List ℕ → ResourceLeaf → Result (Option Block) BlockRefusal
leaf_block map_rva f x = of_image (content_of_type map_rva f 16 x) >>= block_of_content
