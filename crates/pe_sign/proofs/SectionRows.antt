-- A test of all sections, one more at a time.
use Rattle.std.proofs.Common.{◌≡◌, ℕ, zero, suc, ◌+◌, ◌*◌, ◌<◌, ◌≤◌, ◌&&◌, Bool, true, false, List, [], ◌∷◌, ap, sym, ◌∙◌, ⊎_elim, arith}
use Rattle.pe_sign.proofs.Cited.{list_all, cases_lt, HeaderView, section_table, each, sections_offset, SectionTable, data_ends_by}
use Rattle.pe_sign.proofs.Cited.{sections_end_by}
use Rattle.std.proofs.lemmas.List.Folds.{list_all-append}

one_more : {X : Type 0} (p : X → Bool) (f : ℕ → X) (n : ℕ) → list_all p (each f (suc n)) ≡ (list_all p (each f n) && (p (f n) && true))
unfolding each
one_more p f n = list_all-append p (each f n) (f n ∷ [])

pub all_more : {X : Type 0} (p : X → Bool) (f : ℕ → X) (n : ℕ) → list_all p (each f n) ≡ true → p (f n) ≡ true → list_all p (each f (suc n)) ≡ true
all_more p f n h i = one_more p f n ∙ ap (λ t. t && (p (f n) && true)) h ∙ ap (λ t. t && true) i

last_fails : {X : Type 0} (p : X → Bool) (f : ℕ → X) (k n : ℕ) → k ≡ n → p (f k) ≡ false → p (f n) ≡ false
last_fails p f k n e h = ap (λ m. p (f m)) (sym e) ∙ h

pub one_fails : {X : Type 0} (p : X → Bool) (f : ℕ → X) (n k : ℕ) → k < n → p (f k) ≡ false → list_all p (each f n) ≡ false
one_fails p f zero k h i = absurd (omega arith)
one_fails p f (suc n) k h i =
    one_more p f n ∙ ⊎_elim
    (λ (lt : k < n). ap (λ t. t && (p (f n) && true)) (one_fails p f n k lt i))
    (λ (ge : n ≤ k). let e : k ≡ n = omega arith in ap (λ t. list_all p (each f n) && (t && true)) (last_fails p f k n e i) ∙ (grind arith))
    (cases_lt k n)

pub section_fails : (b : List ℕ) (h : HeaderView) (end start k : ℕ) (s : SectionTable) → start ≡ sections_offset h → k < h.coff_header.number_of_sections →
    s ≡ section_table b (start + 40 * k) → data_ends_by end s ≡ false → sections_end_by b h end ≡ false
section_fails b h end start k s at lt is fails =
    let f : ℕ → SectionTable = λ i. section_table b (sections_offset h + 40 * i) in
    let same : s ≡ f k = is ∙ ap (λ (p : ℕ). section_table b (p + 40 * k)) at in
    one_fails (data_ends_by end) f h.coff_header.number_of_sections k lt (ap (λ t. data_ends_by end t) (sym same) ∙ fails)
