-- Bytes that are written over others.
use Rattle.std.proofs.Common.{◌≡◌, ℕ, ◌+◌, ◌≤◌, List, ◌++◌, length, drop, refl, append_assoc, zero-add, length-append, arith}
use Rattle.pe_sign.proofs.Cited.{take-append-le, drop-append-le, length-replicate, splice, rounded_up, padded}

-- what is written at the start is what stands there
pub splice_front : (b s : List ℕ) → splice b 0 s ≡ s ++ drop (length s) b
unfolding splice
splice_front b s = rw (zero-add (length s)) refl

-- a write into the first of two lists
pub splice_first : (x y : List ℕ) (p : ℕ) (s : List ℕ) → p + length s ≤ length x → splice (x ++ y) p s ≡ splice x p s ++ y
unfolding splice
splice_first x y p s h = grind (arith, take-append-le, drop-append-le, append_assoc)

pub length-padded : (b : List ℕ) → length (padded b) ≡ rounded_up (length b) 8
unfolding padded
length-padded b = simp (length-append, length-replicate) (omega arith)
