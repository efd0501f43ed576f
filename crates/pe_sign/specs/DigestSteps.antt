-- The steps over the ranges of a digest. Only private contracts cite them.
use Rattle.std.specs.Prelude.{◌≡◌, ℕ, ◌+◌, ◌-◌, ◌<◌, ◌≤◌, ◌⊎◌, Bool, [], ◌∷◌, nat_lt, if◌then◌else◌}
use Rattle.pe_core.specs.Offsets.{empty_range}
use Rattle.pe_core.specs.declared.byte_range.ByteRange.{ByteRange}
use Rattle.pe_sign.specs.DigestRanges.{kept_ranges}
use Rattle.pe_sign.specs.declared.digest.LeftOut.{LeftOut}

-- each offset from one on and before another is left out, or none is
abbrev pub Between : (ℕ → Bool) → Bool → ℕ → ℕ → Type 0
Between is_out value from to = (k : ℕ) → from ≤ k → k < to → is_out k ≡ value

-- 1 if the range starts after an offset
abbrev pub one_if_after : ℕ → ByteRange → ℕ
one_if_after p r = if nat_lt p r.offset then 1 else 0

-- how many of the three parts start after an offset
abbrev pub parts_after : LeftOut → ℕ → ℕ
parts_after l p = one_if_after p l.checksum + one_if_after p l.directory_entry + one_if_after p l.certificates

-- of the offsets from p on and before n, the first range, and the ranges from another offset on; or there is none
abbrev pub IsFirstRange : (ℕ → Bool) → ℕ → ℕ → ByteRange → ℕ → Type 0
IsFirstRange is_out n p r next =
    ((kept_ranges is_out p (n - p) ≡ []) × (r ≡ empty_range) × (next ≡ n))
    ⊎ (kept_ranges is_out p (n - p) ≡ r ∷ kept_ranges is_out next (n - next))
