-- Strings of version information. (This project's profile.)
use Rattle.std.specs.Prelude.{◌≡◌, ℕ, zero, suc, ◌+◌, ◌*◌, ◌%◌, ◌==◌, ◌≢◌, ◌⊎◌, Bool, true, false, List, [], ◌∷◌, map, length, drop, Option, Some, None, Result, Ok, Err, nat_le, nat_lt, ◌&&◌, if◌then◌else◌}
use Rattle.std.specs.Char.Utf16.{has_unpaired_surrogate, utf16_lossy_chars}
use Rattle.std.specs.List.{find, list_all}
use Rattle.std.specs.Option.{option_map}
use Rattle.std.specs.Str.{encode_utf8_all, bytes_eq}
use Rattle.pe_core.specs.Bytes.{le, holds, range}
use Rattle.pe_core.specs.Refusals.{Refusal, Short, outcome, kind_of, ◌>>=◌}
use Rattle.pe_core.specs.Refusals as refusals
use Rattle.pe_core.specs.SectionMap.{rounded_up}
use Rattle.pe_core.specs.declared.byte_range.ByteRange.{ByteRange}
use Rattle.pe_core.specs.declared.error.Error.{Error}
use Rattle.pe_resource.specs.declared.string.ResourceString.{ResourceString}
use Rattle.pe_resource.specs.declared.string.ResourceStringIterator.{ResourceStringIterator}

-- a string, independent of where its parts lie in memory
pub record VersionString : Type 0 where
  pub len : ℕ
  pub value_len : ℕ
  pub text_type : ℕ
  pub key : List ℕ
  pub value : List ℕ

-- the view of a string
abbrev pub string_view : ResourceString → VersionString
string_view s = record { len = s.len; value_len = s.value_len; text_type = s.text_type; key = s.key.now; value = s.value.now }

-- ---- code units and texts

-- the UTF-16 code units in these bytes; a last odd byte is left out
abbrev pub units : List ℕ → List ℕ
units [] = []
units (low ∷ []) = []
units (low ∷ high ∷ rest) = (low + 256 * high) ∷ units rest

-- the numbers before the first zero
abbrev pub before_zero : List ℕ → List ℕ
before_zero [] = []
before_zero (u ∷ us) = if u == 0 then [] else u ∷ before_zero us

-- the text in these bytes, converted to UTF-8, up to the first zero code unit; `None` for an odd length or an unpaired
-- surrogate
unfoldable pub text : List ℕ → Option (List ℕ)
text x =
    if length x % 2 == 1 then None
    else (if has_unpaired_surrogate (before_zero (units x)) then None
    else Some (encode_utf8_all (utf16_lossy_chars (before_zero (units x)))))

-- there is a text, and it is this name
abbrev pub is_name : List ℕ → Option (List ℕ) → Bool
is_name name None = false
is_name name (Some t) = bytes_eq t name

-- ---- one string

-- the size in bytes of the key at p: its code units before the first zero one, or before the end
abbrev pub key_length : List ℕ → ℕ → ℕ
key_length b p = 2 * length (before_zero (units (drop p b)))

-- n, rounded up to a multiple of four
abbrev pub up_to_four : ℕ → ℕ
up_to_four n = rounded_up n 4

-- the start of the value of the string at p: after the key and its zero code unit, at a multiple of four
unfoldable pub value_offset : List ℕ → ℕ → ℕ
value_offset b p = up_to_four (p + 6 + key_length b (p + 6) + 2)

-- the size of the value in bytes, by its length and its type
abbrev pub value_bytes : List ℕ → ℕ → ℕ
value_bytes b p = if le b (p + 4) 2 == 1 then 2 * le b (p + 2) 2 else le b (p + 2) 2

-- the same, rounded up to a multiple of four if these bytes are there
unfoldable pub lengthened : List ℕ → ℕ → ℕ
lengthened b p =
    if holds b (value_offset b p) (up_to_four (value_bytes b p)) then up_to_four (value_bytes b p) else value_bytes b p

-- the string at p, and the start of the next one
unfoldable pub string_and_next : List ℕ → ℕ → Option VersionString × ℕ
string_and_next b p = (
  Some (record {
    len = le b p 2;
    value_len = le b (p + 2) 2;
    text_type = le b (p + 4) 2;
    key = range b (p + 6) (key_length b (p + 6));
    value = range b (value_offset b p) (lengthened b p);
  }),
  value_offset b p + lengthened b p,
)

-- a text has at most 32,767 code units
abbrev pub is_short_text : List ℕ → ℕ → Bool
is_short_text b p = if le b (p + 4) 2 == 1 then nat_le (le b (p + 2) 2) 32767 else true

-- the string at p and the start of the next one, or the first refusal, if the length is not 0
unfoldable pub whole_string_at : List ℕ → ℕ → Result (Option VersionString × ℕ) Refusal
whole_string_at b p = outcome
    ((holds b (p + 2) 4, Short)
    ∷ (is_short_text b p, refusals.ResourceString)
    ∷ (holds b (value_offset b p) (value_bytes b p), refusals.ResourceString)
    ∷ [])
    (string_and_next b p)

-- the string at p and the start of the next one, or the first refusal; a length of 0 ends the strings
abbrev pub version_string_at : List ℕ → ℕ → Result (Option VersionString × ℕ) Refusal
version_string_at b p =
    if holds b p 2 then (if le b p 2 == 0 then Ok (None, p + 2) else whole_string_at b p) else Err Short

-- the result of parsing at p, and the offset q after it; a refusal leaves the offset at p
abbrev pub ParsesString : List ℕ → ℕ → Result (Option ResourceString) Error → ℕ → Type 0
ParsesString b p (Ok s) q = version_string_at b p ≡ Ok (option_map string_view s, q)
ParsesString b p (Err e) q = (version_string_at b p ≡ Err (kind_of e)) × (q ≡ p)

-- ---- the strings of a byte string

-- these are the strings of b: each is read at the start of the bytes that the one before left; they end if no bytes are
-- left, at a length of 0, and after a refusal
abbrev pub Strings : List ℕ → List (Result VersionString Refusal) → Type 0
Strings b [] = (b ≡ []) ⊎ ((q : ℕ) × (version_string_at b 0 ≡ Ok (None, q)))
Strings b (Ok s ∷ more) = (b ≢ []) × (q : ℕ) × (version_string_at b 0 ≡ Ok (Some s, q)) × Strings (drop q b) more
Strings b (Err e ∷ more) = (b ≢ []) × (version_string_at b 0 ≡ Err e) × (more ≡ [])

-- the result of one call of `next`, and the bytes that it leaves
abbrev pub ReturnsString : List ℕ → Option (Result ResourceString Error) → List ℕ → Type 0
ReturnsString b None left = ((b ≡ []) ⊎ ((q : ℕ) × (version_string_at b 0 ≡ Ok (None, q)))) × (left ≡ [])
ReturnsString b (Some (Ok s)) left = (b ≢ []) × (q : ℕ) × (version_string_at b 0 ≡ Ok (Some (string_view s), q)) × (left ≡ drop q b)
ReturnsString b (Some (Err e)) left = (b ≢ []) × (version_string_at b 0 ≡ Err (kind_of e)) × (left ≡ [])

-- the bytes that an iterator has left
abbrev pub rest_of : ResourceStringIterator → List ℕ
rest_of s = s.bytes.now

-- the view of an item
abbrev pub item_of : Result ResourceString Error → Result VersionString Refusal
item_of (Ok s) = Ok (string_view s)
item_of (Err e) = Err (kind_of e)

-- the list with this first item, if there is one, and the strings of the bytes after it
abbrev pub then_more : (List ℕ → List (Result VersionString Refusal)) → List ℕ → Result (Option VersionString × ℕ) Refusal → List (Result VersionString Refusal)
then_more rest b (Err e) = Err e ∷ []
then_more rest b (Ok (None, q)) = []
then_more rest b (Ok (Some s, q)) = Ok s ∷ rest (drop q b)

-- the strings of at most n bytes
abbrev pub strings_in : ℕ → List ℕ → List (Result VersionString Refusal)
strings_in zero b = []
strings_in (suc n) b = if length b == 0 then [] else then_more (strings_in n) b (version_string_at b 0)

-- the strings of b, as a function
unfoldable pub strings : List ℕ → List (Result VersionString Refusal)
strings b = strings_in (length b) b

-- ---- strings with a key

-- the strings that are not refused, in order
abbrev pub read : List (Result VersionString Refusal) → List VersionString
read [] = []
read (Ok s ∷ more) = s ∷ read more
read (Err e ∷ more) = read more

-- the first refusal of a string, if there is one
abbrev pub all_read : List (Result VersionString Refusal) → Result (Unit {0}) Refusal
all_read [] = Ok tt
all_read (Ok s ∷ more) = all_read more
all_read (Err e ∷ more) = Err e

-- the first string whose key's text is this name
abbrev pub with_key : List ℕ → List VersionString → Option VersionString
with_key name ss = find (λ s. is_name name (text s.key)) ss

-- the value of that string
abbrev pub value_of : List ℕ → List VersionString → Option (List ℕ)
value_of name ss = option_map (λ s. s.value) (with_key name ss)

-- the start of a string's value, from the start of the string: after its head of 6 bytes, its key and the zero code
-- unit
abbrev pub value_start : VersionString → ℕ
value_start s = up_to_four (6 + length s.key + 2)

-- the range of the value of the first string with a name, if the first of the strings starts at p
abbrev pub value_range : List ℕ → ℕ → List VersionString → Option ByteRange
value_range name p [] = None
value_range name p (s ∷ ss) =
    if is_name name (text s.key) then Some (record { offset = p + value_start s; length = length s.value })
    else value_range name (p + (value_start s + length s.value)) ss

-- the range of the value of each name, or the first refusal of a string
unfoldable pub value_ranges : List (List ℕ) → List ℕ → Result (List (Option ByteRange)) Refusal
value_ranges names b = all_read (strings b) >>= λ _. Ok (map (λ name. value_range name 0 (read (strings b))) names)

-- the character is ASCII and not zero
abbrev pub is_plain : ℕ → Bool
is_plain c = nat_lt 0 c && nat_lt c 128

-- every character is ASCII and not zero
abbrev pub IsPlain : List ℕ → Type 0
IsPlain name = list_all is_plain name ≡ true

-- the same of every character of these names
abbrev pub ArePlain : List (List ℕ) → Type 0
ArePlain names = list_all (list_all is_plain) names ≡ true
