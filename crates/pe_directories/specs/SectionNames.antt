-- Section names that do not fit the 8 bytes of their header. (PE format: section table, Name. Base 64: LLVM, for large offsets.)
use Rattle.std.specs.Prelude.{ℕ, ◌+◌, ◌-◌, ◌*◌, ◌==◌, ◌&&◌, Bool, true, false, List, [], ◌∷◌, drop, Option, Some, None, nat_le, nat_lt, slice_index, if◌then◌else◌}
use Rattle.std.specs.Option.{option_and_then}
use Rattle.pe_core.specs.Sections.{section_name}
use Rattle.pe_core.specs.SectionIndex.{offset_or_end}
use Rattle.pe_core.specs.Symbols.{string_at}
use Rattle.pe_core.specs.declared.section_table.SectionTable.{SectionTable}

-- the value of a decimal digit
abbrev pub decimal_digit : ℕ → Option ℕ
decimal_digit c = if nat_le 48 c && nat_le c 57 then Some (c - 48) else None

-- the value of a digit of base 64: A to Z, a to z, 0 to 9, + and /
abbrev pub digit_of_64 : ℕ → Option ℕ
digit_of_64 c =
    if nat_le 65 c && nat_le c 90 then Some (c - 65)
    else (if nat_le 97 c && nat_le c 122 then Some (c - 71)
    else (if nat_le 48 c && nat_le c 57 then Some (c + 4)
    else (if c == 43 then Some 62 else (if c == 47 then Some 63 else None))))

-- the value of a digit of either base
unfoldable pub digit_of : Bool → ℕ → Option ℕ
digit_of is_64 c = if is_64 then digit_of_64 c else decimal_digit c

abbrev pub base_of : Bool → ℕ
base_of is_64 = if is_64 then 64 else 10

-- a number with one more digit, if it has 32 bits
unfoldable pub with_digit : Bool → ℕ → ℕ → Option ℕ
with_digit is_64 n d = if nat_lt (base_of is_64 * n + d) 4294967296 then Some (base_of is_64 * n + d) else None

-- the number that digits write after those of n
unfoldable pub number_after : Bool → ℕ → List ℕ → Option ℕ
number_after is_64 n [] = Some n
number_after is_64 n (c ∷ more) =
    option_and_then (λ d. option_and_then (λ m. number_after is_64 m more) (with_digit is_64 n d)) (digit_of is_64 c)

-- the offset that a name leads to: in decimal after one slash, or in base 64 after two
unfoldable pub offset_in_name : List ℕ → Option ℕ
offset_in_name name =
    if slice_index name 0 == 47
    then (if slice_index name 1 == 47 then number_after true 0 (drop 2 name) else number_after false 0 (drop 1 name))
    else None

-- the offset that the name of a section leads to
abbrev pub string_offset : SectionTable → Option ℕ
string_offset s = option_and_then offset_in_name (section_name s)

-- the string of a string table that the name of a section leads to
unfoldable pub long_section_name : SectionTable → List ℕ → Option (List ℕ)
long_section_name s table = option_and_then (string_at table) (string_offset s)

-- the offset at which the string of a section stands, after the size field of the table; if there is none the greatest number,
-- at which no byte is. Only private contracts cite this.
abbrev pub after_size : ℕ → Option ℕ
after_size p = if nat_le 4 p then Some p else None

unfoldable pub text_offset : SectionTable → ℕ
text_offset s = offset_or_end (option_and_then after_size (string_offset s))
