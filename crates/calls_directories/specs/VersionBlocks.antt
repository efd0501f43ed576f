-- What calls return of version information as a tree of blocks.
use Rattle.std.specs.Prelude.{◌≡◌, ℕ, ◌+◌, ◌-◌, List, [], ◌∷◌, length, min, Option, Some, None, Result, Ok, Err}
use Rattle.std.specs.Option.{option_map}
use Rattle.pe_core.specs.Refusals.{Refusal, Short, ResourceString, ◌>>=◌}
use Rattle.pe_core.specs.declared.byte_range.ByteRange.{ByteRange}
use Rattle.pe_core.specs.declared.section_table.SectionTable.{SectionTable}
use Rattle.pe_resource.specs.VersionBlocks.{Block, BlockRefusal, first_block, translation_of_key}
use Rattle.pe_resource.specs.VersionBlocks as blocks
use Rattle.pe_resource.specs.VersionStrings.{up_to_four}
use Rattle.pe_resource.specs.declared.version_block.Translation.{Translation}
use Rattle.calls_base.specs.Directories.{range_left}
use Rattle.calls_base.specs.HandsOut.{HandsOutIf}
use Rattle.calls_base.specs.Ranges.{bytes_at, no_bytes, range_of, IsRange}
use Rattle.calls_directories.specs.Versions.{IsContentOf}
use Rattle.calls_base.specs.declared.image.Image.{Image}
use Rattle.calls_base.specs.declared.ranges.Range.{Range}
use Rattle.calls_directories.specs.declared.resources.version_blocks.VersionBlock.{VersionBlock}

-- the refusal of a block as calls return it
abbrev pub refusal_of : BlockRefusal → Refusal
refusal_of (blocks.Image refusal) = refusal
refusal_of blocks.BelowHead = ResourceString
refusal_of blocks.PastEnd = Short
refusal_of blocks.KeyEnd = ResourceString

-- what a call for the blocks of an image returns: the range of the content of the resource with the id 16
abbrev pub HandsOutBlocks : List ℕ → Image → (ℕ → List SectionTable) → ℕ → ℕ → Range → Range → Type 0
HandsOutBlocks b image may_map mode number old new =
    (c : Result (Option ByteRange) Refusal) × IsContentOf b image may_map mode 16 c
    × HandsOutIf number old new (c >>= λ c. Ok (option_map range_of c))

-- where the value of a block starts, from the start of the block: after its head, its key and the zero code unit, at a
-- multiple of four, but not past the end of the block
abbrev pub value_offset_of : Block → ℕ
value_offset_of k = min (up_to_four (8 + length k.key)) k.length

-- a block at the start of a range as callers get it, without the language of its key
abbrev pub parts_reported : Range → Block → VersionBlock
parts_reported r k = record {
  key = record { offset = r.offset + 6; length = length k.key };
  value = record { offset = r.offset + value_offset_of k; length = length k.value };
  children = record { offset = r.offset + (k.length - length k.children); length = length k.children };
  value_type = k.value_type;
  has_language = 0;
  language = 0;
  code_page = 0;
}

-- the same with a language and a code page, if there are
abbrev pub with_language : VersionBlock → Option Translation → VersionBlock
with_language x None = x
with_language x (Some t) = record x { has_language = 1; language = t.language; code_page = t.code_page }

abbrev pub reported : Range → Block → VersionBlock
reported r k = with_language (parts_reported r k) (translation_of_key k.key)

-- what a step of a walk returns, by what stands first in its bytes
abbrev pub item_of : Range → Option (Result Block BlockRefusal × List ℕ) → Result (Option VersionBlock) Refusal
item_of r None = Ok None
item_of r (Some (Ok k, rest)) = Ok (Some (reported r k))
item_of r (Some (Err refusal, rest)) = Err (refusal_of refusal)

abbrev pub block_step : List ℕ → Range → Result (Option VersionBlock) Refusal
block_step b r = bytes_at b r >>= λ left. item_of r (first_block left)

-- the walk after a step: the bytes of the blocks after this one, which stay where there is none
abbrev pub left_by : Range → Option (Result Block BlockRefusal × List ℕ) → Range
left_by r None = r
left_by r (Some x) = range_left r (length x.1)

abbrev pub walk_by : Range → Result (List ℕ) Refusal → Range
walk_by r (Ok left) = left_by r (first_block left)
walk_by r (Err refusal) = no_bytes

abbrev pub block_walk : List ℕ → Range → Range
block_walk b r = walk_by r (bytes_at b r)

-- the ranges of a block as callers get it are its parts
pub record ArePartsOf (b : List ℕ) (x : VersionBlock) (k : Block) : Type 0 where
  pub key : IsRange b x.key k.key
  pub value : IsRange b x.value k.value
  pub children : IsRange b x.children k.children

-- what a call returned is this block, or its refusal
abbrev pub ReportsBlock : List ℕ → Result VersionBlock Refusal → Result Block BlockRefusal → Type 0
ReportsBlock b (Ok x) (Ok k) = (w : Range) × (x ≡ reported w k) × ArePartsOf b x k
ReportsBlock b (Ok x) (Err r) = ⊥
ReportsBlock b (Err e) (Ok k) = ⊥
ReportsBlock b (Err e) (Err r) = e ≡ refusal_of r

-- these are what calls return one after the other, before one that returns nothing, which leaves the walk as it is
abbrev pub StepsThrough : List ℕ → Range → List (Result VersionBlock Refusal) → Type 0
StepsThrough b w [] = (block_step b w ≡ Ok None) × (block_walk b w ≡ w)
StepsThrough b w (Ok x ∷ more) = (block_step b w ≡ Ok (Some x)) × StepsThrough b (block_walk b w) more
StepsThrough b w (Err e ∷ more) = (block_step b w ≡ Err e) × StepsThrough b (block_walk b w) more

-- a step over blocks of version information
abbrev pub StepsVersionBlocks : List ℕ → Range → Result (Option VersionBlock) Refusal → Range → Type 0
StepsVersionBlocks b old answer new = (answer ≡ block_step b old) × (new ≡ block_walk b old)
