-- The starts of records.
use Rattle.std.proofs.Common.{◌≡◌, ℕ, zero, suc, ◌+◌, ◌-◌, ◌<◌, ◌≤◌, true, leb, List, drop, length, slice_set, Ok, Err, refl, ap, sym, ◌∙◌, arith}
use Rattle.std.proofs.lemmas.Bool.Decides.{nat_tests}
use Rattle.std.proofs.lemmas.List.{drop-drop, drop-set-lt, get_or-set_same, get_or-set_other}
use Rattle.pe_core.specs.Refusals.{◌>>=◌}
use Rattle.pe_pdb.specs.Ids.{AreStarts, TypesView, count_of, start_of, starts_in, whole_count}
use Rattle.pe_pdb.specs.Refusals.{PdbRefusal}
use Rattle.pe_pdb.specs.Symbols.{Symbol, symbol_at, symbol_end}

pub start_none : (b : List ℕ) → start_of b 0 ≡ Ok 0
unfolding start_of
start_none b = refl

start_more : (b : List ℕ) (k : ℕ) → start_of b (k + 1) ≡ (start_of b k >>= λ p. symbol_at b p >>= λ s. Ok (symbol_end s))
start_more b k = let one : k + 1 ≡ suc k = omega arith in ap (start_of b) one ∙ unfold start_of in refl

pub start_next : (b : List ℕ) (k p q : ℕ) (s : Symbol) → start_of b k ≡ Ok p → symbol_at b p ≡ Ok s → q ≡ s.offset + 4 + length s.content → start_of b (k + 1) ≡ Ok q
start_next b k p q s at is end = start_more b k ∙ rw at (rw is (ap (λ (n : ℕ). Ok n) (sym end)))

start_refused : (b : List ℕ) (k p : ℕ) (r : PdbRefusal) → start_of b k ≡ Ok p → symbol_at b p ≡ Err r → start_of b (k + 1) ≡ Err r
start_refused b k p r at is = start_more b k ∙ rw at (rw is refl)

refused_later : (b : List ℕ) (k d : ℕ) (r : PdbRefusal) → start_of b k ≡ Err r → start_of b (k + d) ≡ Err r
refused_later b k zero r is = let same : k + 0 ≡ k = omega arith in ap (start_of b) same ∙ is
refused_later b k (suc d) r is =
    let next : k + suc d ≡ (k + d) + 1 = omega arith in
    let before = refused_later b k d r is in
    ap (start_of b) next ∙ start_more b (k + d) ∙ rw before refl

-- one more start is written
pub one_more_start : (b room : List ℕ) (i p : ℕ) → i < length room → start_of b i ≡ Ok p → AreStarts b room i → AreStarts b (slice_set room i p) (i + 1)
one_more_start b room i p lt is before = grind (arith, get_or-set_other, get_or-set_same)

-- ---- without a room

pub count_whole : (t : TypesView) (p count : ℕ) → count ≡ count_of t → start_of t.records count ≡ Ok p → whole_count t ≡ Ok count
count_whole t p count number is = ap (λ (k : ℕ). start_of t.records k >>= λ end. Ok k) (sym number) ∙ rw is refl

pub count_refused : (t : TypesView) (k p : ℕ) (r : PdbRefusal) → k < count_of t → start_of t.records k ≡ Ok p → symbol_at t.records p ≡ Err r → whole_count t ≡ Err r
count_refused t k p r lt at is =
    let parts : (k + 1) + (count_of t - (k + 1)) ≡ count_of t = omega (arith, lt) in
    let last : start_of t.records (count_of t) ≡ Err r = ap (start_of t.records) (sym parts) ∙ refused_later t.records (k + 1) (count_of t - (k + 1)) r (start_refused t.records k p r at is) in
    rw last refl

-- ---- what is returned

starts_fit : (n : ℕ) (t : TypesView) → count_of t ≤ n → starts_in n t ≡ (start_of t.records (count_of t) >>= λ end. Ok (count_of t))
starts_fit n t fits = let test : leb (count_of t) n ≡ true = grind (arith, nat_tests) in rw test

pub starts_all : (n : ℕ) (t : TypesView) (p count : ℕ) → count_of t ≤ n → count ≡ count_of t → start_of t.records (count_of t) ≡ Ok p → starts_in n t ≡ Ok count
starts_all n t p count fits number is = starts_fit n t fits ∙ rw is (ap (λ (m : ℕ). Ok m) (sym number))

pub starts_refused : (n : ℕ) (t : TypesView) (k p : ℕ) (r : PdbRefusal) → count_of t ≤ n → k < count_of t → start_of t.records k ≡ Ok p → symbol_at t.records p ≡ Err r → starts_in n t ≡ Err r
starts_refused n t k p r fits lt at is = grind (arith, starts_fit n t fits, count_refused t k p r lt at is)

pub rest_left : (old now : List ℕ) (i y : ℕ) → drop i now ≡ drop i old → drop (i + 1) (slice_set now i y) ≡ drop (i + 1) old
rest_left old now i y others =
    drop-set-lt (i + 1) now i y (omega arith) ∙ (sym (drop-drop 1 i now) ∙ (ap (drop 1) others ∙ drop-drop 1 i old))
