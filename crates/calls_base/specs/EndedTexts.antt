-- Texts that calls write for a caller, each with a final zero, as C has them.
use Rattle.std.specs.Prelude.{◌≡◌, ℕ, ◌+◌, ◌-◌, ◌/◌, ◌%◌, ◌==◌, ◌&&◌, Bool, true, false, List, [], ◌∷◌, ◌++◌, length, take, nat_le, nat_lt, position, slice_get, slice_index, Option, Some, None, Result, Ok, Err, if◌then◌else◌}
use Rattle.std.specs.Char.Utf16.{is_high_surrogate, is_low_surrogate, utf16_lossy_chars}
use Rattle.std.specs.Str.{encode_utf8_all}
use Rattle.pe_core.specs.Bytes.{le, splice}
use Rattle.pe_core.specs.Refusals.{Refusal, Short, ◌>>=◌}
use Rattle.pe_resource.specs.VersionStrings.{units}
use Rattle.calls_base.specs.HandsOut.{result_number}
use Rattle.calls_base.specs.Ranges.{bytes_at}
use Rattle.calls_base.specs.declared.ended_texts.TextInBytes.{TextInBytes}
use Rattle.calls_base.specs.declared.ranges.Range.{Range}
use Rattle.calls_base.specs.declared.results.TheConstants.{DONE, ROOM}

-- ---- what a call writes

-- a text and the zero that ends it
abbrev pub ended : List ℕ → List ℕ
ended text = text ++ 0 ∷ []

-- by whether the room has more bytes than the text: DONE, and the text with its zero at the start of the room; ROOM, and the
-- room is unchanged. `written` is the length of the text, or how many bytes the room has to have
abbrev pub PutsIf : Bool → ℕ → List ℕ → List ℕ → ℕ → List ℕ → Type 0
PutsIf true number old new written text = (number ≡ DONE) × (new ≡ splice old 0 (ended text)) × (written ≡ length text)
PutsIf false number old new written text = (number ≡ ROOM) × (new ≡ old) × (written ≡ length text + 1)

-- a text, or the number of a refusal; then nothing changes
abbrev pub PutsText : ℕ → List ℕ → List ℕ → ℕ → ℕ → Result (List ℕ) Refusal → Type 0
PutsText number old new before written (Ok text) = PutsIf (nat_lt (length text) (length old)) number old new written text
PutsText number old new before written (Err refusal) = (number ≡ result_number refusal) × (new ≡ old) × (written ≡ before)

-- a room with as much of a text as it has bytes for before a zero; an empty one stays
abbrev pub truncated_text : List ℕ → List ℕ → List ℕ
truncated_text old text = if length old == 0 then old else splice old 0 (ended (take (length old - 1) text))

-- ---- GUIDs

-- a hexadecimal digit, in upper case
abbrev pub hex_digit : ℕ → ℕ
hex_digit d = if nat_lt d 10 then 0x30 + d else 0x37 + d

-- the two digits of each of these bytes
abbrev pub hex_digits : List ℕ → List ℕ
hex_digits [] = []
hex_digits (x ∷ xs) = hex_digit (x / 16) ∷ hex_digit (x % 16) ∷ hex_digits xs

-- the digits of the bytes of g with these indices
abbrev pub digits_at : List ℕ → List ℕ → List ℕ
digits_at g [] = []
digits_at g (i ∷ is) = hex_digit (slice_index g i / 16) ∷ hex_digit (slice_index g i % 16) ∷ digits_at g is

-- a GUID: a number of 4 bytes and two of 2, little-endian, then 2 bytes and 6; with h between them
abbrev pub guid_parts : List ℕ → List ℕ → List ℕ
guid_parts h g =
    digits_at g (3 ∷ 2 ∷ 1 ∷ 0 ∷ []) ++ h ++ digits_at g (5 ∷ 4 ∷ []) ++ h ++ digits_at g (7 ∷ 6 ∷ []) ++ h
    ++ digits_at g (8 ∷ 9 ∷ []) ++ h ++ digits_at g (10 ∷ 11 ∷ 12 ∷ 13 ∷ 14 ∷ 15 ∷ [])

-- with hyphens, 36 characters
unfoldable pub hyphenated : List ℕ → List ℕ
hyphenated g = guid_parts (0x2D ∷ []) g

-- without, 32: as symbol servers have them
unfoldable pub unhyphenated : List ℕ → List ℕ
unhyphenated g = guid_parts [] g

-- the text of the GUID at the start of some bytes, by the number of the form: 0 has hyphens
abbrev pub guid_text : List ℕ → ℕ → Result (List ℕ) Refusal
guid_text g form =
    if nat_le 16 (length g) then Ok (if form == 0 then hyphenated g else unhyphenated g)
    else Err Short

-- ---- texts in UTF-16

-- the second code unit of the text in some bytes, if its first two are a pair
abbrev pub second_of : List ℕ → Option ℕ
second_of b = if is_high_surrogate (le b 0 2) && (nat_le 4 (length b) && is_low_surrogate (le b 2 2)) then Some (le b 2 2) else None

-- the text in UTF-8 of code units, little-endian: U+FFFD for each surrogate without a partner. A last odd byte is left out
unfoldable pub utf16_text : List ℕ → List ℕ
utf16_text b = encode_utf8_all (utf16_lossy_chars (units b))

-- that of a range
abbrev pub utf16_text_at : List ℕ → Range → Result (List ℕ) Refusal
utf16_text_at b r = bytes_at b r >>= λ d. Ok (utf16_text d)

-- ---- texts that end with a zero where they stand

-- 1 where a byte is there and is zero, else 0
abbrev pub one_if_zero : Option ℕ → ℕ
one_if_zero None = 0
one_if_zero (Some c) = if c == 0 then 1 else 0

-- the text in a range of b, up to the index of its first zero. Without one it is all of the range, and ends with a zero where one
-- follows the range
abbrev pub text_before : List ℕ → Range → Option ℕ → TextInBytes
text_before b r None = record { text = r; is_terminated = one_if_zero (slice_get b (r.offset + r.length)); spare = 0 }
text_before b r (Some n) = record { text = record { offset = r.offset; length = n }; is_terminated = 1; spare = 0 }

abbrev pub text_in : List ℕ → Range → Result TextInBytes Refusal
text_in b r = bytes_at b r >>= λ d. Ok (text_before b r (position (λ c. c == 0) d))
