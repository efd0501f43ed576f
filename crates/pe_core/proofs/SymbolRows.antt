-- The symbols of a table one after the other stand in the rows of the definition.
use Rattle.std.proofs.Common.{◌≡◌, ℕ, suc, ◌+◌, ◌≤◌, List, [], ◌∷◌, length, map, refl, ap, sym, ◌∙◌, subst, arith}
use Rattle.std.specs.List.{range_with_len}
use Rattle.pe_core.specs.Symbols.{SymbolItem, AreSymbols, item_in, row_of, row_after, row_count}

-- symbol k and those after it
abbrev items_from : List ℕ → ℕ → ℕ → List SymbolItem
items_from b k n = map (λ i. item_in b (row_of b i)) (range_with_len k n)

pub row_of-next : (b : List ℕ) (k : ℕ) → row_of b (k + 1) ≡ row_after b (row_of b k)
unfolding row_of
row_of-next b k =
    let next : k + 1 ≡ suc k = omega arith in
    ap (row_of b) next

items : (b : List ℕ) (k : ℕ) (xs : List SymbolItem) → AreSymbols b (row_of b k) xs → xs ≡ items_from b k (length xs)
items b k [] h = refl
items b k (x ∷ xs) h =
    let more = items b (k + 1) xs (subst (λ row. AreSymbols b row xs) (sym (row_of-next b k)) h.2) in
    ap (λ first. first ∷ xs) h.1 ∙ ap (λ rest. item_in b (row_of b k) ∷ rest) more

over : (b : List ℕ) (k : ℕ) (xs : List SymbolItem) → AreSymbols b (row_of b k) xs → row_count b ≤ row_of b (k + length xs)
over b k [] h =
    let same : k + 0 ≡ k = omega arith in
    subst (λ i. row_count b ≤ row_of b i) (sym same) h
over b k (x ∷ xs) h =
    let same : k + suc (length xs) ≡ k + 1 + length xs = omega arith in
    let more = over b (k + 1) xs (subst (λ row. AreSymbols b row xs) (sym (row_of-next b k)) h.2) in
    subst (λ i. row_count b ≤ row_of b i) (sym same) more

pub first : (b : List ℕ) → row_of b 0 ≡ 0
unfolding row_of
first b = refl

pub in_rows : (b : List ℕ) (xs : List SymbolItem) → AreSymbols b 0 xs → xs ≡ map (λ k. item_in b (row_of b k)) (range_with_len 0 (length xs))
in_rows b xs h = items b 0 xs (subst (λ row. AreSymbols b row xs) (sym (first b)) h)

pub all_rows : (b : List ℕ) (xs : List SymbolItem) → AreSymbols b 0 xs → row_count b ≤ row_of b (length xs)
all_rows b xs h =
    let same : 0 + length xs ≡ length xs = omega arith in
    subst (λ i. row_count b ≤ row_of b i) same (over b 0 xs (subst (λ row. AreSymbols b row xs) (sym (first b)) h))
