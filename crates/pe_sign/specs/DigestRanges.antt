-- The file ranges that the Authenticode digest of an image covers. (Windows Authenticode Portable Executable Signature
-- Format.)
use Rattle.std.specs.Prelude.{ℕ, zero, suc, ◌+◌, ◌-◌, ◌≤◌, ◌==◌, Bool, true, false, List, [], ◌∷◌, ◌++◌, length, replicate, Result, Ok, if◌then◌else◌}
use Rattle.pe_core.specs.Header.{HeaderView}
use Rattle.pe_core.specs.Offsets.{empty_range}
use Rattle.pe_core.specs.Refusals.{Refusal, ◌>>=◌}
use Rattle.pe_core.specs.declared.byte_range.ByteRange.{ByteRange}
use Rattle.pe_sign.specs.Digest.{is_left_out, left_out_of, zeros_after}
use Rattle.pe_sign.specs.declared.digest.LeftOut.{LeftOut}
use Rattle.pe_sign.specs.declared.file_ranges.DigestRanges.{DigestRanges}

-- n bytes from an offset on
abbrev pub range_at : ℕ → ℕ → ByteRange
range_at p n = record { offset = p; length = n }

-- ranges, and before them an offset unless it is left out: the start of the first range if that follows it, else a range
-- of its own
abbrev pub with_offset : Bool → ℕ → List ByteRange → List ByteRange
with_offset true p rs = rs
with_offset false p [] = range_at p 1 ∷ []
with_offset false p (r ∷ rs) = if r.offset == suc p then range_at p (suc r.length) ∷ rs else range_at p 1 ∷ (r ∷ rs)

-- of the n offsets from p on, those that are not left out, as ranges: in their order, and none touches the next
unfoldable pub kept_ranges : (ℕ → Bool) → ℕ → ℕ → List ByteRange
kept_ranges is_out p zero = []
kept_ranges is_out p (suc n) = with_offset (is_out p) p (kept_ranges is_out (suc p) n)

-- ranges in an array of n, whose rest are empty
abbrev pub in_array : ℕ → List ByteRange → List ByteRange
in_array n rs = rs ++ replicate (n - length rs) empty_range

-- the ranges of a file that a digest covers, which are at most four, and the zeros that follow
abbrev pub covered_ranges : LeftOut → List ℕ → DigestRanges
covered_ranges l b = record { ranges = in_array 4 (kept_ranges (is_left_out l) 0 (length b)); zeros = zeros_after l b }

-- those of an image with these headers
abbrev pub digest_ranges_of : List ℕ → HeaderView → Result DigestRanges Refusal
digest_ranges_of b h = left_out_of h >>= λ l. Ok (covered_ranges l b)

-- every range ends at an offset or before it
abbrev pub EndBy : ℕ → List ByteRange → Type 0
EndBy n [] = Unit {0}
EndBy n (r ∷ rs) = (r.offset + r.length ≤ n) × EndBy n rs
