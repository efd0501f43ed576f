-- The items of a stream of x64 unwind codes.
use Rattle.std.specs.Prelude.{◌≡◌, ℕ, ◌+◌, ◌/◌, ◌<◌, List, [], ◌∷◌, length, drop, Option, Some, None, Result, Ok, Err}
use Rattle.pe_core.specs.Refusals.{kind_of}
use Rattle.pe_core.specs.declared.error.Error.{Error}
use Rattle.pe_unwind.specs.declared.unwind_code.UnwindCode.{UnwindCode}
use Rattle.pe_unwind.specs.declared.unwind_code.UnwindCodeIterator.{UnwindCodeIterator}
use Rattle.pe_unwind.specs.UnwindCodes.{StartsWithCode, StartsWithNoCode, IsCodeRefusal}

-- the bytes of the codes, and the version and frame register by which they are read
pub record CodeStream : Type 0 where
  pub content : List ℕ
  pub version : ℕ
  pub frame : ℕ

-- the stream that an iterator has left
abbrev pub stream_of : UnwindCodeIterator → CodeStream
stream_of s = record { content = s.bytes.now; version = s.version; frame = (s.frame_register).0 }

-- how many slots of two bytes are left; a truncated one counts
abbrev pub slots_left : CodeStream → ℕ
slots_left s = (length s.content + 1) / 2

-- the same stream with these bytes left
abbrev pub with_left : CodeStream → List ℕ → CodeStream
with_left s left = record { content = left; version = s.version; frame = s.frame }

-- what one call of next returns, and the stream that it leaves
abbrev pub ReturnsCode : CodeStream → Option (Result UnwindCode Error) → CodeStream → Type 0
ReturnsCode s None t = (s.content ≡ []) × (t ≡ s)
ReturnsCode s (Some (Ok code)) t = (n : ℕ) × StartsWithCode s.version s.frame s.content code n × (0 < n) × (t ≡ with_left s (drop n s.content))
ReturnsCode s (Some (Err e)) t =
    (0 < length s.content) × StartsWithNoCode s.version s.frame s.content × IsCodeRefusal s.version s.frame s.content (kind_of e) × (t ≡ with_left s [])

-- these are the items of a stream: codes that follow one another, and one error if no code starts the rest
abbrev pub AreItems : CodeStream → List (Result UnwindCode Error) → Type 0
AreItems s [] = s.content ≡ []
AreItems s (Ok code ∷ items) = (n : ℕ) × StartsWithCode s.version s.frame s.content code n × AreItems (with_left s (drop n s.content)) items
AreItems s (Err e ∷ items) =
    (0 < length s.content) × StartsWithNoCode s.version s.frame s.content × IsCodeRefusal s.version s.frame s.content (kind_of e) × (items ≡ [])
