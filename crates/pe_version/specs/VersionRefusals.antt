-- What an error of written version information is, without its numbers and its text, and when each is returned.
use Rattle.std.specs.Prelude.{◌≡◌, ℕ, ◌%◌, ◌==◌, ◌&&◌, ◌||◌, not, Bool, List, [], ◌∷◌, Result, Ok, Err, length, nat_le, nat_lt}
use Rattle.std.specs.List.{list_all}
use Rattle.pe_core.specs.Bytes.{splice}
use Rattle.pe_core.specs.Refusals.{Refusal, WriteFit, kind_of, outcome, ◌>>=◌}
use Rattle.pe_resource.specs.VersionStrings.{units}
use Rattle.pe_version.specs.declared.block.NewBlock.{NewBlock}
use Rattle.pe_version.specs.declared.block.Parts.{Parts}
use Rattle.pe_version.specs.declared.error.VersionError.{VersionError}
use Rattle.pe_version.specs.declared.error.VersionError.TheVariants as errors
use Rattle.pe_version.specs.WrittenBlocks.{BlockValue, block_length, children_start, padded_block, value_start}

-- the kinds of errors
pub data VersionRefusal : Type 0 where
  Image : Refusal → VersionRefusal
  Key : VersionRefusal
  Text : VersionRefusal
  TooLong : VersionRefusal

-- the kind of an error
abbrev pub version_kind_of : VersionError → VersionRefusal
version_kind_of (errors.Image error) = Image (kind_of error)
version_kind_of errors.Key = Key
version_kind_of errors.Text = Text
version_kind_of (errors.TooLong size) = TooLong

-- the call returned the defined value, or an error of the defined kind
abbrev pub VersionReturns : {X : Type 0} → Result X VersionError → Result X VersionRefusal → Type 0
VersionReturns (Ok x) defined = defined ≡ Ok x
VersionReturns (Err e) defined = defined ≡ Err (version_kind_of e)

-- a block, independent of where its bytes lie in memory
abbrev pub block_view : NewBlock → BlockValue
block_view k = record { key = k.key.now; is_text = k.is_text; value = k.value.now; children = k.children.now }

-- a key of whole code units, of which none is zero
abbrev pub key_fits : List ℕ → Bool
key_fits key = length key % 2 == 0 && list_all (λ u. not (u == 0)) (units key)

abbrev pub block_tests : BlockValue → List (Bool × VersionRefusal)
block_tests k =
    (key_fits k.key, Key)
    ∷ (not k.is_text || length k.value % 2 == 0, Text)
    ∷ (nat_lt (block_length k) 65536, TooLong) ∷ []

-- the bytes of the block with zeros up to a multiple of four, where the next one starts
abbrev pub block_of : BlockValue → Result (List ℕ) VersionRefusal
block_of k = outcome (block_tests k) (padded_block k)

-- their number, and a buffer with them at its start
abbrev pub length_of : Result (List ℕ) VersionRefusal → Result ℕ VersionRefusal
length_of made = made >>= λ s. Ok (length s)

abbrev pub written : Result (List ℕ) VersionRefusal → List ℕ → Result (ℕ × List ℕ) VersionRefusal
written made old = made >>= λ s. outcome ((nat_le (length s) (length old), Image WriteFit) ∷ []) (length s, splice old 0 s)

-- the number returned and the bytes left are the defined ones; a refusal is the defined one, and changes nothing
abbrev pub VersionReturnsWritten : Result ℕ VersionError → Result (ℕ × List ℕ) VersionRefusal → List ℕ → List ℕ → Type 0
VersionReturnsWritten (Ok n) defined old new = defined ≡ Ok (n, new)
VersionReturnsWritten (Err e) defined old new = (defined ≡ Err (version_kind_of e)) × (new ≡ old)

-- the parts of a block
abbrev pub parts_of : BlockValue → Parts
parts_of k = record { value = value_start k; children = children_start k; end = block_length k }
