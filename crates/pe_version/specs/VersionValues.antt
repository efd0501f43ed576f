-- Version information as a value: the fixed file information, string tables by language and code page, and translations; the
-- blocks that it is written as, and what pe_resource's walks read of it. (Microsoft: VS_VERSIONINFO, StringFileInfo,
-- StringTable, String, VarFileInfo, Var.)
use Rattle.std.specs.Prelude.{ℕ, ◌+◌, ◌/◌, ◌%◌, ◌^◌, ◌<◌, true, false, List, [], ◌∷◌, ◌++◌, codes, map, Option, Some, None, Result, Ok, Err, nat_lt, if◌then◌else◌}
use Rattle.std.specs.List.{flat_map}
use Rattle.pe_core.specs.Bytes.{bytes_of}
use Rattle.pe_core.specs.Refusals.{outcome, ◌>>=◌}
use Rattle.pe_core.specs.Rows.{whole_entries}
use Rattle.pe_resource.specs.VersionBlocks.{Block, BlockRefusal, blocks, fixed_info_of_block, string_tables, translation_at, translation_of_key, translations, version_block}
use Rattle.pe_resource.specs.declared.version.VsFixedFileInfo.{VsFixedFileInfo}
use Rattle.pe_resource.specs.declared.version_block.Translation.{Translation}
use Rattle.pe_version.specs.VersionRefusals.{VersionRefusal, block_tests}
use Rattle.pe_version.specs.WrittenBlocks.{BlockValue, blocks_bytes, padded_block}

-- a string: its name without a final zero code unit, and its text with one
pub record TextValue : Type 0 where
  pub name : List ℕ
  pub text : List ℕ

-- the strings of a language and a code page
pub record TableValue : Type 0 where
  pub translation : Translation
  pub strings : List TextValue

pub record Value : Type 0 where
  pub fixed : VsFixedFileInfo
  pub tables : List TableValue
  pub translations : List Translation

-- ---- how it is written

-- ASCII characters in UTF-16
abbrev pub utf16 : List ℕ → List ℕ
utf16 [] = []
utf16 (c ∷ cs) = c ∷ 0 ∷ utf16 cs

-- a hexadecimal digit, in upper case: 48 is `0`, 65 is `A`
abbrev pub hex_digit : ℕ → ℕ
hex_digit d = if nat_lt d 10 then 48 + d else 55 + d

-- a number of 16 bits in four digits
abbrev pub four_digits : ℕ → List ℕ
four_digits n = hex_digit (n / 4096) ∷ hex_digit (n / 256 % 16) ∷ hex_digit (n / 16 % 16) ∷ hex_digit (n % 16) ∷ []

-- the key of a string table: the language, then the code page
abbrev pub key_of : Translation → List ℕ
key_of t = utf16 (four_digits t.language ++ four_digits t.code_page)

-- the 13 numbers of the fixed file information
unfoldable pub fixed_bytes : VsFixedFileInfo → List ℕ
fixed_bytes f =
    bytes_of 4 f.signature ++ (bytes_of 4 f.struct_version ++ (bytes_of 4 f.file_version_ms ++ (bytes_of 4 f.file_version_ls
    ++ (bytes_of 4 f.product_version_ms ++ (bytes_of 4 f.product_version_ls ++ (bytes_of 4 f.file_flags_mask
    ++ (bytes_of 4 f.file_flags ++ (bytes_of 4 f.file_os ++ (bytes_of 4 f.file_type ++ (bytes_of 4 f.file_subtype
    ++ (bytes_of 4 f.file_date_ms ++ bytes_of 4 f.file_date_ls)))))))))))

abbrev pub translation_bytes : Translation → List ℕ
translation_bytes t = bytes_of 2 t.language ++ bytes_of 2 t.code_page

-- a block of strings or of tables: a text without code units, and these blocks
abbrev pub parent : List ℕ → List ℕ → BlockValue
parent key children = record { key = key; is_text = true; value = []; children = children }

-- the block of a string
abbrev pub text_block : TextValue → BlockValue
text_block s = record { key = s.name; is_text = true; value = s.text; children = [] }

abbrev pub text_blocks : List TextValue → List ℕ
text_blocks ss = blocks_bytes (map text_block ss)

-- that of a table, with those of its strings
abbrev pub table_block : TableValue → BlockValue
table_block t = parent (key_of t.translation) (text_blocks t.strings)

abbrev pub table_blocks : List TableValue → List ℕ
table_blocks ts = blocks_bytes (map table_block ts)

-- the one with the tables
abbrev pub strings_block : List TableValue → BlockValue
strings_block ts = parent (utf16 (codes "StringFileInfo")) (table_blocks ts)

-- the languages and code pages, and the block that has theirs
abbrev pub translation_block : List Translation → BlockValue
translation_block ts = record { key = utf16 (codes "Translation"); is_text = false; value = flat_map translation_bytes ts; children = [] }

abbrev pub variables_block : List Translation → BlockValue
variables_block ts = parent (utf16 (codes "VarFileInfo")) (blocks_bytes (translation_block ts ∷ []))

-- the first block, with both
unfoldable pub root_block : Value → BlockValue
root_block v = record {
  key = utf16 (codes "VS_VERSION_INFO");
  is_text = false;
  value = fixed_bytes v.fixed;
  children = blocks_bytes (strings_block v.tables ∷ variables_block v.translations ∷ []);
}

-- all blocks, each after those that it has
abbrev pub blocks_of_table : TableValue → List BlockValue
blocks_of_table t = map text_block t.strings ++ (table_block t ∷ [])

unfoldable pub all_blocks : Value → List BlockValue
all_blocks v =
    flat_map blocks_of_table v.tables
    ++ (strings_block v.tables ∷ translation_block v.translations ∷ variables_block v.translations ∷ root_block v ∷ [])

-- the bytes of version information, unless one of its blocks is refused: then the refusal of the first
unfoldable pub version_of : Value → Result (List ℕ) VersionRefusal
version_of v = outcome (flat_map block_tests (all_blocks v)) (padded_block (root_block v))

-- ---- what is read of it

-- what is read of a table: its language and code page if its key has them, and its strings
pub record TableRead : Type 0 where
  pub translation : Option Translation
  pub strings : List (Result TextValue BlockRefusal)

pub record VersionRead : Type 0 where
  pub fixed : Option VsFixedFileInfo
  pub tables : List (Result TableRead BlockRefusal)
  pub translations : List Translation

abbrev pub read_text : Result Block BlockRefusal → Result TextValue BlockRefusal
read_text (Ok k) = Ok (record { name = k.key; text = k.value })
read_text (Err r) = Err r

abbrev pub read_table : Result Block BlockRefusal → Result TableRead BlockRefusal
read_table (Ok k) = Ok (record { translation = translation_of_key k.key; strings = map read_text (blocks k.children) })
read_table (Err r) = Err r

-- what the walks read of a block
unfoldable pub read_root : Block → Result VersionRead BlockRefusal
read_root k =
    string_tables k >>= λ tables. translations k >>= λ pairs. Ok (record {
      fixed = fixed_info_of_block k;
      tables = map read_table (blocks tables);
      translations = whole_entries translation_at 4 pairs;
    })

abbrev pub read_first : Option Block → Result (Option VersionRead) BlockRefusal
read_first None = Ok None
read_first (Some k) = read_root k >>= λ r. Ok (Some r)

-- what they read of the content of a resource
unfoldable pub version_read : List ℕ → Result (Option VersionRead) BlockRefusal
version_read b = version_block b >>= read_first

-- a value as it is read
abbrev pub table_as_read : TableValue → Result TableRead BlockRefusal
table_as_read t = Ok (record { translation = Some t.translation; strings = map (λ s. Ok s) t.strings })

unfoldable pub as_read : Value → VersionRead
as_read v = record { fixed = Some v.fixed; tables = map table_as_read v.tables; translations = v.translations }

-- ---- its numbers are of their sizes

abbrev pub IsPair : Translation → Type 0
IsPair t = (t.language < 65536) × (t.code_page < 65536)

abbrev pub AllPairs : List Translation → Type 0
AllPairs [] = Unit {0}
AllPairs (t ∷ ts) = IsPair t × AllPairs ts

abbrev pub TablesHavePairs : List TableValue → Type 0
TablesHavePairs [] = Unit {0}
TablesHavePairs (t ∷ ts) = IsPair t.translation × TablesHavePairs ts

pub record FixedFits (f : VsFixedFileInfo) : Type 0 where
  pub signature : f.signature < 2 ^ 32
  pub struct_version : f.struct_version < 2 ^ 32
  pub file_version_ms : f.file_version_ms < 2 ^ 32
  pub file_version_ls : f.file_version_ls < 2 ^ 32
  pub product_version_ms : f.product_version_ms < 2 ^ 32
  pub product_version_ls : f.product_version_ls < 2 ^ 32
  pub file_flags_mask : f.file_flags_mask < 2 ^ 32
  pub file_flags : f.file_flags < 2 ^ 32
  pub file_os : f.file_os < 2 ^ 32
  pub file_type : f.file_type < 2 ^ 32
  pub file_subtype : f.file_subtype < 2 ^ 32
  pub file_date_ms : f.file_date_ms < 2 ^ 32
  pub file_date_ls : f.file_date_ls < 2 ^ 32

-- each number fits its field, as those of the types that a call takes do
pub record NumbersFit (v : Value) : Type 0 where
  pub fixed : FixedFits v.fixed
  pub tables : TablesHavePairs v.tables
  pub translations : AllPairs v.translations
