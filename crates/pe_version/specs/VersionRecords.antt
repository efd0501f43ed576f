-- Version information as records of numbers over one array of bytes d, and what is written of it.
use Rattle.std.specs.Prelude.{◌≡◌, ℕ, ◌+◌, ◌-◌, ◌%◌, ◌&&◌, Bool, List, [], ◌∷◌, ◌++◌, Result, Ok, length, map, drop, take, replicate, nat_le, nat_lt, if◌then◌else◌}
use Rattle.std.specs.List.{flat_map, list_all}
use Rattle.pe_core.specs.Bytes.{bytes_of, holds}
use Rattle.pe_core.specs.Refusals.{Short, outcome, ◌>>=◌}
use Rattle.pe_edit.specs.Views.{part_of}
use Rattle.pe_edit.specs.Written.{total}
use Rattle.pe_resource.specs.VersionStrings.{up_to_four}
use Rattle.pe_resource.specs.declared.version.VsFixedFileInfo.{VsFixedFileInfo}
use Rattle.pe_resource.specs.declared.version_block.Translation.{Translation}
use Rattle.pe_version.specs.VersionRefusals.{VersionRefusal, Image, TooLong, block_tests}
use Rattle.pe_version.specs.VersionValues.{TableValue, TextValue, Value, blocks_of_table, table_block, table_blocks, text_block, text_blocks, translation_block, variables_block, version_of}
use Rattle.pe_version.specs.WrittenBlocks.{BlockValue, padded_block, type_number}
use Rattle.pe_version.specs.declared.record.LanguageRecord.{LanguageRecord}
use Rattle.pe_version.specs.declared.record.StringRecord.{StringRecord}
use Rattle.pe_version.specs.declared.record.TableRecord.{TableRecord}
use Rattle.pe_version.specs.declared.record.VersionRecords.{VersionRecords}

-- ---- the value that the records are

abbrev pub pair_of : LanguageRecord → Translation
pair_of p = record { language = p.language; code_page = p.code_page }

abbrev pub text_of : List ℕ → StringRecord → TextValue
text_of d r = record { name = part_of d r.name; text = part_of d r.text }

-- the strings of a table, none where they are not all there
abbrev pub strings_of : List StringRecord → TableRecord → List StringRecord
strings_of rs t = if nat_le (t.first + t.count) (length rs) then take t.count (drop t.first rs) else []

abbrev pub table_of : List ℕ → List StringRecord → TableRecord → TableValue
table_of d rs t = record { translation = pair_of t.language; strings = map (text_of d) (strings_of rs t) }

abbrev pub value_at : VsFixedFileInfo → List TableRecord → List StringRecord → List LanguageRecord → List ℕ → Value
value_at fixed ts rs ps d = record { fixed = fixed; tables = map (table_of d rs) ts; translations = map pair_of ps }

abbrev pub value_of : VersionRecords → Value
value_of v = value_at v.fixed.now v.tables.now v.strings.now v.translations.now v.texts.now

-- ---- the ranges lie in their arrays

abbrev pub string_fits : List ℕ → StringRecord → Bool
string_fits d r = holds d r.name.offset r.name.length && holds d r.text.offset r.text.length

abbrev pub table_fits : ℕ → TableRecord → Bool
table_fits n t = nat_le (t.first + t.count) n

-- the least bytes of the block of a string, with its name and its text; and of a table, with its key and its strings
abbrev pub least_of_string : StringRecord → ℕ
least_of_string r = 8 + (r.name.length + r.text.length)

abbrev pub least_of_table : List StringRecord → TableRecord → ℕ
least_of_table rs t = 24 + total least_of_string (strings_of rs t)

-- all ranges lie in their arrays; and the block of the tables is not too long by its least bytes, so that what is read is bounded
abbrev pub tests_at : List TableRecord → List StringRecord → List ℕ → List (Bool × VersionRefusal)
tests_at ts rs d =
    (list_all (string_fits d) rs, Image Short)
    ∷ (list_all (table_fits (length rs)) ts, Image Short)
    ∷ (nat_le (total (least_of_table rs) ts) 65535, TooLong) ∷ []

abbrev pub record_tests : VersionRecords → List (Bool × VersionRefusal)
record_tests v = tests_at v.tables.now v.strings.now v.texts.now

-- what is written of them
abbrev pub version_at : VsFixedFileInfo → List TableRecord → List StringRecord → List LanguageRecord → List ℕ → Result (List ℕ) VersionRefusal
version_at fixed ts rs ps d = outcome {Y = Unit {0}} (tests_at ts rs d) tt >>= λ u. version_of (value_at fixed ts rs ps d)

abbrev pub records_version : VersionRecords → Result (List ℕ) VersionRefusal
records_version v = version_at v.fixed.now v.tables.now v.strings.now v.translations.now v.texts.now

-- ---- what is written of the parts of a value, or the first refusal

-- of each element, one after the other
abbrev pub each_made : {X : Type 0} → (X → List (Bool × VersionRefusal)) → (X → List ℕ) → List X → Result (List ℕ) VersionRefusal
each_made tests bytes xs = outcome (flat_map tests xs) (flat_map bytes xs)

abbrev pub texts_made : List TextValue → Result (List ℕ) VersionRefusal
texts_made ss = outcome (flat_map block_tests (map text_block ss)) (text_blocks ss)

abbrev pub table_made : TableValue → Result (List ℕ) VersionRefusal
table_made t = outcome (flat_map block_tests (blocks_of_table t)) (padded_block (table_block t))

abbrev pub tables_made : List TableValue → Result (List ℕ) VersionRefusal
tables_made ts = outcome (flat_map block_tests (flat_map blocks_of_table ts)) (table_blocks ts)

abbrev pub variables_made : List Translation → Result (List ℕ) VersionRefusal
variables_made ps = outcome (flat_map block_tests (translation_block ps ∷ variables_block ps ∷ [])) (padded_block (variables_block ps))

-- a number of bytes, or 65,536 of more
abbrev pub capped : ℕ → ℕ
capped n = if nat_lt n 65536 then n else 65536

abbrev pub capped_length_of : Result (List ℕ) VersionRefusal → Result ℕ VersionRefusal
capped_length_of made = made >>= λ s. Ok (capped (length s))

-- a block with a key whose value has so many bytes, a multiple of four, and the blocks in it so many
pub record Measured (k : BlockValue) (key : List ℕ) (value children : ℕ) : Type 0 where
  pub key_is : k.key ≡ key
  pub value_is : length k.value ≡ value
  pub four : value % 4 ≡ 0
  pub children_are : children ≡ capped (length k.children)

-- what stands before the value of a block: its length, that of its value, its type, its key and zeros
unfoldable pub head_bytes : ℕ → ℕ → Bool → List ℕ → List ℕ
head_bytes size value is_text key =
    bytes_of 2 size ++ (bytes_of 2 value ++ (bytes_of 2 (type_number is_text)
    ++ (key ++ replicate (up_to_four (8 + length key) - (6 + length key)) 0)))
