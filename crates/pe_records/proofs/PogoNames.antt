-- The name of an entry.
use Rattle.std.proofs.Common.{◌≡◌, ◌≢◌, ℕ, ◌+◌, ◌-◌, ◌<◌, ◌≤◌, List, length, take, drop, get_or, ap, sym, ◌∙◌, length-drop, length-take-le, arith}
use Rattle.std.proofs.lemmas.List.{get_or-take}
use Rattle.pe_core.specs.Bytes.{le}
use Rattle.pe_core.specs.SectionMap.{rounded_up}
use Rattle.pe_records.specs.Pogo.{Entry, StartsWith, StartsWithNone}

-- the entry whose name ends at the first zero after the numbers
pub starts_from : (b rest name : List ℕ) (r s k n : ℕ) → rest ≡ drop 8 b → k < length rest → get_or rest k 0 ≡ 0 → ((j : ℕ) → j < k → get_or rest j 0 ≢ 0) → name ≡ take (k + 1) rest → r ≡ le b 0 4 → s ≡ le b 4 4 → n ≡ rounded_up (8 + k + 1) 4 → n ≤ length b → StartsWith b (record { rva = r; size = s; name = name }) n
starts_from b rest name r s k n d lt here before is er es en whole = grind (arith, length-take-le, get_or-take)

-- a byte of the name is one of the bytes after the numbers
in_rest : (b : List ℕ) (e : Entry) (n k : ℕ) → StartsWith b e n → k < length e.name → get_or e.name k 0 ≡ get_or (drop 8 b) k 0
in_rest b e n k h lt = ap (λ (x : List ℕ). get_or x k 0) h.name ∙ get_or-take (length e.name) (drop 8 b) k 0 lt

-- no name is shorter than another
not_shorter : (b : List ℕ) (e f : Entry) (n m : ℕ) → StartsWith b e n → StartsWith b f m → length e.name < length f.name → ⊥
not_shorter b e f n m h k lt =
    let i : ℕ = length e.name - 1 in
    let inside : i < length e.name = omega arith in
    k.named.only i (omega arith) (in_rest b f m i k (omega arith) ∙ sym (in_rest b e n i h inside) ∙ h.named.last)

not_above : (m n : ℕ) → (m < n → ⊥) → n ≤ m
not_above m n h = omega arith

entry_from_fields : (e f : Entry) → e.rva ≡ f.rva → e.size ≡ f.size → e.name ≡ f.name → e ≡ f
entry_from_fields e f p q r = grind arith

-- bytes start with one entry
pub starts_once : (b : List ℕ) (e f : Entry) (n m : ℕ) → StartsWith b e n → StartsWith b f m → (e ≡ f) × (n ≡ m)
starts_once b e f n m h k = grind (arith, not_above, not_shorter, entry_from_fields)

-- a rest that is too short, or has no zero, or is truncated, starts with no entry
pub none_short : (b : List ℕ) → length b < 8 → StartsWithNone b
none_short b lt = λ e n h. let whole : n ≤ length b = h.whole in let padded : n ≡ rounded_up (8 + length e.name) 4 = h.padded in omega arith

pub none_unterminated : (b rest : List ℕ) → rest ≡ drop 8 b → ((j : ℕ) → j < length rest → get_or rest j 0 ≢ 0) → StartsWithNone b
none_unterminated b rest d all = grind (arith, length-drop, in_rest)

pub none_truncated : (b rest : List ℕ) (k : ℕ) → rest ≡ drop 8 b → k < length rest → get_or rest k 0 ≡ 0 → ((j : ℕ) → j < k → get_or rest j 0 ≢ 0) → length b < rounded_up (8 + k + 1) 4 → StartsWithNone b
none_truncated b rest k d lt here before cut = grind (arith, in_rest)
