-- Base relocations change their words alone.
use Rattle.std.proofs.Common.{◌≡◌, ℕ, zero, suc, ◌+◌, ◌*◌, ◌/◌, ◌%◌, ◌^◌, ◌<◌, ◌≤◌, ◌==◌, Bool, true, List, [], ◌∷◌, length, get_or, refl, ap, sym, subst, ◌∙◌, length-append, length-take, length-drop, arith, rules}
use Rattle.pe_directories.proofs.Cited.{slice_index, if◌then◌else◌, nat_tests, places, same_lists, AreBytes, le, range, splice}
use Rattle.pe_directories.proofs.Cited.{length_range, length-bytes_of, AllPassBy, AllStand, all_moved, moved, stands_in, Word}
use Rattle.std.proofs.Math.Nat.{mod-eq_of_lt, mul-le-mul_right, pow-suc}
use Rattle.pe_core.proofs.NumberBytes.{bytes_of-le}
use Rattle.pe_directories.proofs.WordsLeft.{long_moved}

-- ---- no other byte changes

pub others_stay : (difference p : ℕ) (words : List Word) (b : List ℕ) → AllPassBy (length b) p words → get_or (all_moved difference words b) p 0 ≡ get_or b p 0
unfolding moved splice
others_stay difference p [] b all = refl
others_stay difference p (w ∷ ws) b all =
    let long = long_moved difference w b all.0 in
    others_stay difference p ws (moved difference w b) (subst (λ (n : ℕ). AllPassBy n p ws) (sym long) all.2)
    ∙ grind (arith, nat_tests, places, length-bytes_of, all.0, all.1)

-- ---- a difference of 0 changes nothing

le_below : (b : List ℕ) (p n : ℕ) → AreBytes b → le b p n < 256 ^ n
unfolding le
le_below b p zero bytes = omega arith
le_below b p (suc n) bytes =
    let digit : slice_index b (p + n) ≤ 255 = omega (arith, bytes (p + n)) in
    let scaled : slice_index b (p + n) * 256 ^ n ≤ 255 * 256 ^ n = mul-le-mul_right (256 ^ n) digit in
    omega (arith, scaled, le_below b p n bytes, pow-suc 256 n)

nothing_if : (t : Bool) → (if t then 0 / 2 ^ 16 else 0) ≡ 0
nothing_if t = grind arith

number_is : (n m a : ℕ) → a ≡ 0 → n < m → (n + a % m) % m ≡ n
number_is n m a none small = grind (arith, mod-eq_of_lt)

splice_same : (b : List ℕ) (p n : ℕ) → p + n ≤ length b → splice b p (range b p n) ≡ b
unfolding splice
splice_same b p n h = grind (arith, length_range, same_lists, length-append, length-take, length-drop, places)

splice_none : (b s : List ℕ) (p : ℕ) → length s ≡ 0 → splice b p s ≡ b
unfolding splice
splice_none b s p none = same_lists _ _ (simp (length-append, length-take, length-drop) (grind (arith, none))) (λ k d g. grind (arith, places, none))

stays_by : (w : Word) (b : List ℕ) (zero_width : Bool) → (w.width == 0) ≡ zero_width → stands_in (length b) w ≡ true → AreBytes b → moved 0 w b ≡ b
unfolding moved
stays_by w b zero_width is stands bytes =
    search (rules, arith, nat_tests, splice_none, length-bytes_of, number_is, nothing_if, le_below, bytes_of-le, splice_same)

pub none_change : (words : List Word) (b : List ℕ) → AreBytes b → AllStand (length b) words → all_moved 0 words b ≡ b
none_change [] b bytes all = refl
none_change (w ∷ ws) b bytes all = ap (all_moved 0 ws) (stays_by w b (w.width == 0) refl all.0 bytes) ∙ none_change ws b bytes all.1
