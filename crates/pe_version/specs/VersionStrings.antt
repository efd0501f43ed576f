-- Version information as pe_resource's `VersionInfo` reads it: its blocks one after the other, as strings.
use Rattle.std.specs.Prelude.{ℕ, ◌-◌, List, [], ◌∷◌, ◌++◌, length, map, replicate, Option}
use Rattle.std.specs.List.{find, flat_map}
use Rattle.std.specs.Option.{option_map}
use Rattle.pe_resource.specs.VersionStrings.{VersionString, is_name, text, up_to_four}
use Rattle.pe_version.specs.VersionValues.{TableValue, TextValue, Value, root_block, strings_block, table_block, text_block, translation_block, variables_block}
use Rattle.pe_version.specs.WrittenBlocks.{BlockValue, block_length, type_number, value_length}

-- a value with zeros up to a multiple of four, which `VersionInfo` takes for its end
abbrev pub padded : List ℕ → List ℕ
padded x = x ++ replicate (up_to_four (length x) - length x) 0

-- a block as a string
abbrev pub flat : BlockValue → VersionString
flat k = record {
  len = block_length k;
  value_len = value_length k;
  text_type = type_number k.is_text;
  key = k.key;
  value = padded k.value;
}

-- the blocks of version information, each before those in it
abbrev pub flat_table : TableValue → List BlockValue
flat_table t = table_block t ∷ map text_block t.strings

unfoldable pub flat_blocks : Value → List BlockValue
flat_blocks v =
    root_block v ∷ strings_block v.tables
    ∷ (flat_map flat_table v.tables ++ variables_block v.translations ∷ translation_block v.translations ∷ [])

-- all its strings, and the text of the first whose name is this one
abbrev pub texts_of : Value → List TextValue
texts_of v = flat_map (λ t. t.strings) v.tables

abbrev pub text_with_name : List ℕ → List TextValue → Option (List ℕ)
text_with_name name ss = option_map (λ s. s.text) (find (λ s. is_name name (text s.name)) ss)
