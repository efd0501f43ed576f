-- Bytes that are written over others.
use Rattle.std.proofs.Common.{◌≡◌, ℕ, zero, suc, ◌+◌, ◌-◌, ◌/◌, ◌≤◌, ◌&&◌, cond, List, ◌++◌, length, get_or, refl, ap, sym, length-append, length-take, length-drop, arith}
use Rattle.std.specs.Prelude.{nat_le, nat_lt}
use Rattle.std.proofs.lemmas.Bool.Decides.{nat_tests}
use Rattle.std.proofs.lemmas.List.{places}
use Rattle.std.proofs.lemmas.List.Edits.{paste_all, paste-paste}
use lib.Seq.{paste}
use Rattle.pe_core.specs.Bytes.{bytes_of, splice}

pub length-bytes_of : (n number : ℕ) → length (bytes_of n number) ≡ n
unfolding bytes_of
length-bytes_of zero number = refl
length-bytes_of (suc n) number = ap suc (length-bytes_of n (number / 256))

pub length-splice : (b : List ℕ) (p : ℕ) (s : List ℕ) → p + length s ≤ length b → length (splice b p s) ≡ length b
unfolding splice
length-splice b p s h = simp (length-append, length-take, length-drop) (omega arith)

pub get_or-splice : (b : List ℕ) (p : ℕ) (s : List ℕ) (q : ℕ) → p + length s ≤ length b → get_or (splice b p s) q 0 ≡ cond (nat_le p q && nat_lt q (p + length s)) (get_or s (q - p) 0) (get_or b q 0)
unfolding splice
get_or-splice b p s q h = grind (arith, nat_tests, places)

splice_is_paste : (b : List ℕ) (p : ℕ) (s : List ℕ) → splice b p s ≡ paste b p s (length s)
unfolding splice
splice_is_paste b p s = sym (paste_all b p s (length s) refl)

-- two splices side by side are one; what stands before the second is all that has to be there
pub splice-splice : (b : List ℕ) (p : ℕ) (x y : List ℕ) → p ≤ length b → splice (splice b p x) (p + length x) y ≡ splice b p (x ++ y)
splice-splice b p x y h =
    rw (splice_is_paste b p x, splice_is_paste (paste b p x (length x)) (p + length x) y, paste-paste b p x y (length x) (length y) refl refl h, splice_is_paste b p (x ++ y), length-append x y) refl
