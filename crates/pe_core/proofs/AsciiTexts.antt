-- Texts that are ASCII, found some bytes at a time.
use Rattle.std.proofs.Common.{◌≡◌, ℕ, zero, suc, ◌+◌, ◌-◌, ◌%◌, ◌^◌, ◌≤◌, ◌<◌, true, false, cond, leb, List, [], ◌∷◌, length, get_or, take, drop, replicate, map, Some, w8, refl, ⊎_elim, ap, subst, sym, ◌∙◌, arith}
use Rattle.std.specs.Prelude.{nat_le, ◌==◌}
use Rattle.std.specs.List.{position_or_len}
use Rattle.std.specs.Str.{IsUtf8}
use Rattle.std.proofs.lemmas.List.{length-drop, length-map, length-take-le, get_or-drop, get_or-take}
use Rattle.std.proofs.lemmas.List.Sums.{position_or_len_is}
use Rattle.std.proofs.lemmas.Bool.{cases_lt}
use Rattle.std.proofs.lemmas.Bool.Decides.{nat_tests}
use Rattle.std.proofs.lemmas.Str.{IsUtf8-from_ascii}
use Rattle.std.proofs.lemmas.Simd.{tops_compared, mask_l-mod}
use lib.Lanes.{zip2, mask_l, top}
use Rattle.pe_core.specs.Text.{text_at}
use Rattle.pe_core.proofs.Texts.{zero_found}
use Rattle.pe_core.proofs.TextEnds.{text_of-text}
use Rattle.pe_core.specs.ZeroRuns.{HasNoZero, HasAscii, IsZeroRun, IsAsciiRun, IsAsciiText}
use Rattle.pe_core.proofs.Comparisons.{within}

-- ---- some bytes at a time

pub ascii-start : (b : List ℕ) (i : ℕ) → HasAscii b i i
ascii-start b i k from to = absurd (omega arith)

pub none-start : (b : List ℕ) (i : ℕ) → HasNoZero b i i
none-start b i k from to = absurd (omega arith)

joined_none : (b : List ℕ) (s i j : ℕ) → HasNoZero b s i → HasNoZero b i j → HasNoZero b s j
joined_none b s i j before after k from to = ⊎_elim (λ (lt : k < i). before k from lt) (λ (le : i ≤ k). after k le to) (cases_lt k i)

joined_ascii : (b : List ℕ) (s i j : ℕ) → HasAscii b s i → HasAscii b i j → HasAscii b s j
joined_ascii b s i j before after k from to = ⊎_elim (λ (lt : k < i). before k from lt) (λ (le : i ≤ k). after k le to) (cases_lt k i)

pub none-more : (b : List ℕ) (s i run : ℕ) → HasNoZero b s i → IsZeroRun b i run → 16 ≤ run → HasNoZero b s (i + 16)
none-more b s i run before r full = joined_none b s i (i + 16) before (λ k from to. r.passes k from (omega (arith, full, to)))

pub ascii-more : (b : List ℕ) (s i run ascii : ℕ) → HasAscii b s i → IsAsciiRun b i ascii → 16 ≤ run → run ≤ ascii → HasAscii b s (i + 16)
ascii-more b s i run ascii before r full le = joined_ascii b s i (i + 16) before (λ k from to. r.passes k from (omega (arith, full, le, to)))

pub ascii_text-found : (b : List ℕ) (s i run ascii : ℕ) → s ≤ i → i + 16 ≤ length b → HasNoZero b s i → HasAscii b s i → IsZeroRun b i run → IsAsciiRun b i ascii → run ≤ ascii → run < 16 → IsAsciiText b s (i + run)
ascii_text-found b s i run ascii after room none before stop high le lt = record {
  starts = omega arith;
  inside = omega arith;
  passes = joined_none b s i (i + run) none stop.passes;
  stops = stop.stops lt;
  ascii = joined_ascii b s i (i + run) before (λ k from to. high.passes k from (omega arith));
}

pub ruleset ascii_texts = (ascii-start, none-start, none-more, ascii-more, ascii_text-found)

-- ---- what such a text is

low : (x : ℕ) → nat_le 128 x ≡ false → x < 128
low x e = grind (arith, nat_tests)

past_end : (l : List ℕ) (i : ℕ) → length l ≤ i → get_or l i 0 < 128
past_end [] i le = omega arith
past_end (x ∷ xs) zero le = absurd (omega arith)
past_end (x ∷ xs) (suc i) le = past_end xs i (omega arith)

pub ascii_text-IsUtf8 : (b : List ℕ) (s end : ℕ) → IsAsciiText b s end → IsUtf8 (take (end - s) (drop s b))
ascii_text-IsUtf8 b s end t = IsUtf8-from_ascii _ (λ i. ⊎_elim
    (λ (lt : i < end - s).
    let byte : get_or b (s + i) 0 < 128 = low _ (t.ascii (s + i) (omega arith) (omega arith)) in
    omega (arith, byte, get_or-take (end - s) (drop s b) i 0 lt, get_or-drop s b i 0))
    (λ (le : end - s ≤ i). past_end (take (end - s) (drop s b)) i (omega (arith, length-take-le (end - s) (drop s b) (omega (arith, length-drop s b, t.inside)))))
    (cases_lt i (end - s)))

pub ascii_text-is : (b : List ℕ) (s end : ℕ) → IsAsciiText b s end → text_at b s ≡ Some (take (end - s) (drop s b))
ascii_text-is b s end t =
    let rest = drop s b in
    let n : ℕ = end - s in
    let len : length rest ≡ length b - s = length-drop s b in
    let is : s + n ≡ end = omega (arith, t.starts) in
    let short : n < length rest = omega (arith, t.starts, t.inside, len) in
    let fails : (k : ℕ) → k < n → (get_or rest k 0 == 0) ≡ false = λ k lt. rw get_or-drop (t.passes (s + k) (omega arith) (omega arith)) in
    let passes : (get_or rest n 0 == 0) ≡ true = rw get_or-drop (subst (λ i. (get_or b i 0 == 0) ≡ true) (sym is) t.stops) in
    let found : position_or_len (λ c. c == 0) rest ≡ n = position_or_len_is (λ c. c == 0) rest n 0 (omega arith) fails (λ _. passes) in
    zero_found rest n (within (position_or_len (λ c. c == 0) rest) n (length rest) found short)
    ∙ text_of-text (take n rest) (ascii_text-IsUtf8 b s end t)

-- ---- the mask of one load

compared : (v : List ℕ) (n y : ℕ) → length v ≡ n → zip2 leb (replicate n y) v ≡ map (λ x. leb y x) v
compared [] n y e = ap (λ k. zip2 leb (replicate k y) []) (sym e)
compared (x ∷ xs) n y e = ap (λ k. zip2 leb (replicate k y) (x ∷ xs)) (sym e) ∙ ap (λ l. leb y x ∷ l) (compared xs (length xs) y refl)

-- `to_bitmask` of a comparison that has the splat first
pub splat_compared : (v : List ℕ) (n y : ℕ) → length v ≡ n → n ≤ 64
    → mask_l (map (top 7) (zip2 (λ a b. cond (leb a b) 255 0) (replicate n y) v)) % 2 ^ 64 ≡ mask_l (map (λ x. leb y x) v)
splat_compared v n y e le =
    ap (λ ms. mask_l ms % 2 ^ 64) (tops_compared w8 leb (replicate n y) v ∙ compared v n y e) ∙ mask_l-mod (map (λ x. leb y x) v) 64 (omega (arith, length-map v (λ x. leb y x)))
