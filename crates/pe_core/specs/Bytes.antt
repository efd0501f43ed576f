-- Bytes read as numbers and numbers written as bytes, little-endian. `b` are bytes, `p` is an offset.
use Rattle.std.specs.Prelude.{ℕ, zero, suc, ◌+◌, ◌*◌, ◌/◌, ◌%◌, ◌^◌, ◌<◌, List, [], ◌∷◌, ◌++◌, length, take, drop, Bool, nat_le, slice_index, slice_range, Result, if◌then◌else◌}
use Rattle.pe_core.specs.Refusals.{Refusal, Short, WriteFit, kind_of_reason, outcome}
use Rattle.pe_core.specs.declared.error.Reason.{Reason}

-- the number in the n bytes from offset p on: the sum of byte i times 256 ^ i
unfoldable pub le : List ℕ → ℕ → ℕ → ℕ
le b p zero = 0
le b p (suc n) = le b p n + slice_index b (p + n) * 256 ^ n

-- the lowest n bytes of a number, the lowest first
unfoldable pub bytes_of : ℕ → ℕ → List ℕ
bytes_of zero number = []
bytes_of (suc n) number = (number % 256) ∷ bytes_of n (number / 256)

-- n bytes follow offset p
abbrev pub holds : List ℕ → ℕ → ℕ → Bool
holds b p n = nat_le (p + n) (length b)

-- the n bytes from offset p on
abbrev pub range : List ℕ → ℕ → ℕ → List ℕ
range b p n = slice_range b p (p + n)

-- a record of n bytes at offset p: its value, or `Short` if it is truncated
abbrev pub record_at : {Y : Type 0} → List ℕ → ℕ → ℕ → Y → Result Y Refusal
record_at b p n value = outcome ((holds b p n, Short) ∷ []) value

-- the n bytes from offset p on, or this error if they are truncated
abbrev pub data_at : List ℕ → ℕ → ℕ → Reason → Result (List ℕ) Refusal
data_at b p n reason = outcome ((holds b p n, kind_of_reason reason) ∷ []) (range b p n)

-- every element is a byte
abbrev pub AreBytes : List ℕ → Type 0
AreBytes b = (k : ℕ) → slice_index b k < 256

-- b with s written at offset p
unfoldable pub splice : List ℕ → ℕ → List ℕ → List ℕ
splice b p s = take p b ++ (s ++ drop (p + length s) b)

-- the same if s fits; otherwise b does not change
abbrev pub put : List ℕ → ℕ → List ℕ → List ℕ
put b p s = if holds b p (length s) then splice b p s else b

-- a write of n bytes at offset p is `WriteFit` exactly if they do not fit
abbrev pub fit_at : List ℕ → ℕ → ℕ → Result (Unit {0}) Refusal
fit_at b p n = outcome ((holds b p n, WriteFit) ∷ []) tt
