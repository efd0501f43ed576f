-- Streams of ARM64 unwind codes, which follow one another.
use Rattle.std.specs.Prelude.{◌≡◌, ℕ, ◌+◌, ◌-◌, ◌%◌, ◌<◌, ◌≤◌, ◌↔◌, IsTrue, nat_le, ◌==◌, List, [], ◌∷◌, ◌++◌, length, drop, Option, Some, None, Result, Ok, Err}
use Rattle.std.specs.List.{list_any}
use Rattle.std.specs.Result.{is_err}
use Rattle.pe_core.specs.Refusals.{Refusal, Arm64Stream, Arm64Cut, kind_of, outcome}
use Rattle.pe_core.specs.declared.error.Error.{Error}
use Rattle.pe_unwind.specs.declared.arm64.codes.Arm64UnwindCodeData.{Arm64UnwindCodeData}
use Rattle.pe_unwind.specs.declared.arm64.codes.Arm64UnwindCodeIterator.{Arm64UnwindCodeIterator}
use Rattle.pe_unwind.specs.Arm64Encoding.{encoding, StartsWithArm64Code, StartsWithNoArm64Code}

-- the bytes of the whole stream, and the offset of the next code
pub record CodeOffset : Type 0 where
  pub content : List ℕ
  pub at : ℕ

-- the stream of an iterator, and its offset in it
abbrev pub stream_offset : Arm64UnwindCodeIterator → CodeOffset
stream_offset s = record { content = s.bytes.now; at = s.offset }

-- how many bytes are left
abbrev pub left_at : CodeOffset → ℕ
left_at s = length s.content - s.at

-- a stream is whole words of four bytes, at most 4,294,967,292 bytes, read from an offset that is not past its end
abbrev pub stream_at : List ℕ → ℕ → Result CodeOffset Refusal
stream_at bytes start =
    outcome ((length bytes % 4 == 0, Arm64Stream) ∷ (nat_le start (length bytes), Arm64Stream) ∷ (nat_le (length bytes) 4294967292, Arm64Stream) ∷ [])
    (record { content = bytes; at = start })

-- this is the item at an offset: the code that starts there, with its offset and size, or an error if none starts
-- there
abbrev pub IsItem : List ℕ → ℕ → Result Arm64UnwindCodeData Error → Type 0
IsItem bytes at (Ok item) = StartsWithArm64Code (drop at bytes) item.code × (item.offset ≡ at) × (item.len ≡ length (encoding item.code))
IsItem bytes at (Err e) = StartsWithNoArm64Code (drop at bytes) × (kind_of e ≡ Arm64Cut)

-- the offset of the next item; nothing follows an error
abbrev pub offset_after_code : List ℕ → ℕ → Result Arm64UnwindCodeData Error → ℕ
offset_after_code bytes at (Ok item) = at + item.len
offset_after_code bytes at (Err e) = length bytes

-- these are all items from an offset on: codes that follow one another, and one error if no code starts the rest;
-- nothing follows an error
abbrev pub Tiles : List ℕ → ℕ → List (Result Arm64UnwindCodeData Error) → Type 0
Tiles bytes at [] = length bytes ≤ at
Tiles bytes at (Ok item ∷ items) = (at < length bytes) × IsItem bytes at (Ok item) × Tiles bytes (at + item.len) items
Tiles bytes at (Err e ∷ items) = (at < length bytes) × IsItem bytes at (Err e) × (items ≡ [])

-- what one call of next returns, and where it leaves the iterator
abbrev pub ReturnsArm64Code : CodeOffset → Option (Result Arm64UnwindCodeData Error) → CodeOffset → Type 0
ReturnsArm64Code s None t = (length s.content ≤ s.at) × (t ≡ s)
ReturnsArm64Code s (Some item) t =
    (s.at < length s.content) × IsItem s.content s.at item × (t ≡ record { content = s.content; at = offset_after_code s.content s.at item })

-- the bytes of all codes among the items, one after the other
abbrev pub codes_of : List (Result Arm64UnwindCodeData Error) → List ℕ
codes_of [] = []
codes_of (Ok item ∷ items) = encoding item.code ++ codes_of items
codes_of (Err e ∷ items) = codes_of items

-- the bytes are those of the items' codes, one after the other, and then a rest that starts with no code; the rest is
-- not empty exactly if one of the items is an error
pub record Joins (bytes : List ℕ) (items : List (Result Arm64UnwindCodeData Error)) : Type 0 where
  pub rest : List ℕ
  pub joined : bytes ≡ codes_of items ++ rest
  pub none : StartsWithNoArm64Code rest
  pub cut : IsTrue (list_any is_err items) ↔ (0 < length rest)
