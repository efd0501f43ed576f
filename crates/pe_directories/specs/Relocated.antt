-- Base relocations applied to an image as loaded. (PE format: base relocation types. A type that depends on the machine is refused;
-- so is HIGHADJ, which no machine of today has.)
use Rattle.std.specs.Prelude.{◌≡◌, ℕ, ◌+◌, ◌/◌, ◌%◌, ◌^◌, ◌==◌, ◌||◌, ◌&&◌, Bool, true, List, [], ◌∷◌, length, Option, Some, None, Result, Ok, Err, nat_le, nat_lt, if◌then◌else◌}
use Rattle.std.specs.List.{AllByRecursion}
use Rattle.pe_core.specs.Bytes.{bytes_of, le, splice}
use Rattle.pe_core.specs.Refusals.{◌>>=◌}
use Rattle.pe_directories.specs.BaseRelocations.{Block, first_block, first_relocation}
use Rattle.pe_directories.specs.DirectoryRefusals.{DirectoryRefusal, RelocationKind, RelocationOutside, directory_kind_of}
use Rattle.pe_directories.specs.Walks.{all_items, each_read}
use Rattle.pe_directories.specs.declared.base_relocation.BaseRelocation.{BaseRelocation}
use Rattle.pe_directories.specs.declared.error.DirectoryError.{DirectoryError}
use Rattle.pe_directories.specs.declared.relocating.Word.{Word}
use Rattle.pe_directories.specs.declared.base_relocation.TheConstants.{IMAGE_REL_BASED_ABSOLUTE, IMAGE_REL_BASED_DIR64, IMAGE_REL_BASED_HIGH, IMAGE_REL_BASED_HIGHLOW, IMAGE_REL_BASED_LOW}

-- how many bytes a relocation of a type changes, if that is the same on all machines
abbrev pub width_of : ℕ → Option ℕ
width_of kind =
    if kind == IMAGE_REL_BASED_ABSOLUTE then Some 0
    else if kind == IMAGE_REL_BASED_HIGH || kind == IMAGE_REL_BASED_LOW then Some 2
    else if kind == IMAGE_REL_BASED_HIGHLOW then Some 4
    else if kind == IMAGE_REL_BASED_DIR64 then Some 8
    else None

-- the word of a relocation in an image of so many bytes; one of no bytes is anywhere
abbrev pub word_in : ℕ → BaseRelocation → Option ℕ → Result Word DirectoryRefusal
word_in size r None = Err RelocationKind
word_in size r (Some width) =
    if width == 0 || nat_le (r.rva + width) size then Ok (record { rva = r.rva; width = width; is_high = r.kind == IMAGE_REL_BASED_HIGH })
    else Err RelocationOutside

abbrev pub word_of : ℕ → BaseRelocation → Result Word DirectoryRefusal
word_of size r = word_in size r (width_of r.kind)

-- the words of a block, and of all blocks of a table, in their order; or the first refusal
abbrev pub block_words : ℕ → Block → Result (List Word) DirectoryRefusal
block_words size k = each_read (word_of size) (all_items (first_relocation k.page_rva) (Some k.entries))

abbrev pub table_words : ℕ → List ℕ → Result (List (List Word)) DirectoryRefusal
table_words size table = each_read (block_words size) (all_items first_block (Some table))

-- a word of no bytes, or one of 2, 4 or 8 bytes that stands in an image of so many
abbrev pub stands_in : ℕ → Word → Bool
stands_in size w = w.width == 0 || ((w.width == 2 || (w.width == 4 || w.width == 8)) && nat_le (w.rva + w.width) size)

-- what is added to a word: the difference, or its high 16 bits
abbrev pub added_to : Word → ℕ → ℕ
added_to w difference = if w.is_high then difference / 2 ^ 16 else difference

-- the number with that added, modulo 256 ^ width
abbrev pub moved_number : ℕ → Word → ℕ → ℕ
moved_number difference w n = (n + added_to w difference % 256 ^ w.width) % 256 ^ w.width

-- the image with that number in place of a word
unfoldable pub moved : ℕ → Word → List ℕ → List ℕ
moved difference w b = splice b w.rva (bytes_of w.width (moved_number difference w (le b w.rva w.width)))

-- the same of each word in turn
abbrev pub all_moved : ℕ → List Word → List ℕ → List ℕ
all_moved difference [] b = b
all_moved difference (w ∷ ws) b = all_moved difference ws (moved difference w b)

-- the same of the words of each block
abbrev pub blocks_moved : ℕ → List (List Word) → List ℕ → List ℕ
blocks_moved difference [] b = b
blocks_moved difference (ws ∷ more) b = blocks_moved difference more (all_moved difference ws b)

-- the word of the header's image base, which changes with the image; none where a caller names none
abbrev pub base_words : ℕ → Option BaseRelocation → Result (List Word) DirectoryRefusal
base_words size None = Ok []
base_words size (Some r) = word_of size r >>= λ w. Ok (w ∷ [])

-- the words that change, in their order
abbrev pub words_of : ℕ → Option BaseRelocation → List ℕ → Result (List (List Word)) DirectoryRefusal
words_of size base table = base_words size base >>= λ ws. table_words size table >>= λ blocks. Ok (ws ∷ blocks)

-- the image with these words changed
abbrev pub relocated : ℕ → Option BaseRelocation → List ℕ → List ℕ → Result (List ℕ) DirectoryRefusal
relocated difference base table b = words_of (length b) base table >>= λ blocks. Ok (blocks_moved difference blocks b)

-- a call changed the image to what is defined; or it returned the refusal, and the image is unchanged
abbrev pub ChangesTo : {U : Type 0} → Result U DirectoryError → Result (List ℕ) DirectoryRefusal → List ℕ → List ℕ → Type 0
ChangesTo (Ok u) defined old new = defined ≡ Ok new
ChangesTo (Err e) defined old new = (defined ≡ Err (directory_kind_of e)) × (new ≡ old)

-- a call tested whether what is defined is there; or it returned the refusal
abbrev pub Tested : {U Y : Type 0} → Result U DirectoryError → Result Y DirectoryRefusal → Type 0
Tested {U} {Y} (Ok u) defined = (y : Y) × (defined ≡ Ok y)
Tested (Err e) defined = defined ≡ Err (directory_kind_of e)

-- ---- what laws say

-- the words stand in an image of so many bytes
abbrev pub AllStand : ℕ → List Word → Type 0
AllStand size [] = Unit {0}
AllStand size (w ∷ ws) = (stands_in size w ≡ true) × AllStand size ws

-- the byte at an offset is none of the word's
abbrev pub passes_by : ℕ → Word → Bool
passes_by p w = nat_lt p w.rva || nat_le (w.rva + w.width) p

-- the same, and the byte is none of theirs
abbrev pub AllPassBy : ℕ → ℕ → List Word → Type 0
AllPassBy size p [] = Unit {0}
AllPassBy size p (w ∷ ws) = (stands_in size w ≡ true) × (passes_by p w ≡ true) × AllPassBy size p ws

-- the byte at an offset is none of the words of these blocks
abbrev pub IsOutside : ℕ → List (List Word) → Type 0
IsOutside p blocks = AllByRecursion (λ ws. AllByRecursion (λ w. passes_by p w ≡ true) ws) blocks
