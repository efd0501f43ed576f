-- Ranges of the bytes.
use Rattle.std.specs.Prelude.{◌≡◌, ℕ, ◌+◌, ◌-◌, ◌≤◌, List, [], length, Option, Some, None, Result, Ok, Err}
use Rattle.pe_core.specs.Bytes.{range, record_at}
use Rattle.pe_core.specs.Refusals.{Refusal}
use Rattle.pe_core.specs.declared.byte_range.ByteRange.{ByteRange}
use Rattle.calls_base.specs.declared.ranges.Range.{Range}
use Rattle.std.specs.Option.{option_map, option_and_then}
use Rattle.pe_core.specs.Text.{text_at}

-- the empty range; a walk that is over
abbrev pub no_bytes : Range
no_bytes = record { offset = 0; length = 0 }

-- a range, the empty one without one
abbrev pub or_no_bytes : Option Range → Range
or_no_bytes None = no_bytes
or_no_bytes (Some r) = r

-- a range as callers get it
abbrev pub range_of : ByteRange → Range
range_of r = record { offset = r.offset; length = r.length }

-- n bytes from an offset on, or the empty range without an offset
abbrev pub range_from : ℕ → Option ℕ → Range
range_from n None = no_bytes
range_from n (Some p) = record { offset = p; length = n }

-- a range without its first n bytes
abbrev pub range_after : Range → ℕ → Range
range_after r n = record { offset = r.offset + n; length = r.length - n }

-- the range of a part that ends where these bytes end
abbrev pub last_range : List ℕ → List ℕ → Range
last_range b part = record { offset = length b - length part; length = length part }

-- the bytes of a range, or `Short` where it is not inside the bytes
abbrev pub bytes_at : List ℕ → Range → Result (List ℕ) Refusal
bytes_at b r = record_at b r.offset r.length (range b r.offset r.length)

-- what is read, nothing where it is refused
abbrev pub or_nothing : Result (List ℕ) Refusal → List ℕ
or_nothing (Ok bytes) = bytes
or_nothing (Err refusal) = []

-- the bytes of a range, none where they are not all there
abbrev pub bytes_there : List ℕ → Range → List ℕ
bytes_there b r = or_nothing (bytes_at b r)

-- the range lies in the bytes, and these are its bytes
pub record IsRange (b : List ℕ) (r : Range) (bytes : List ℕ) : Type 0 where
  pub inside : r.offset + r.length ≤ length b
  pub same : range b r.offset r.length ≡ bytes

-- the range of a part, empty without the part
abbrev pub IsPart : List ℕ → Range → Option (List ℕ) → Type 0
IsPart b r None = r ≡ no_bytes
IsPart b r (Some part) = IsRange b r part

-- an offset, 0 without one
abbrev pub or_zero : Option ℕ → ℕ
or_zero None = 0
or_zero (Some p) = p

-- 1 for a value, 0 without one
abbrev pub one_if_some : {X : Type 0} → Option X → ℕ
one_if_some None = 0
one_if_some (Some x) = 1

-- the range of the text at an offset, if there is an offset and a text is there
abbrev pub text_from : List ℕ → Option ℕ → Option Range
text_from b offset = option_and_then (λ p. option_map (λ text. record { offset = p; length = length text }) (text_at b p)) offset
