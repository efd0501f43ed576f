-- Runs in a room, with one after them.
use Rattle.std.proofs.Common.{◌≡◌, ℕ, zero, suc, ◌+◌, ◌-◌, ◌<◌, ◌≤◌, Bool, true, false, cond, ◌⊎◌, inl, inr, ⊎_elim, List, [], ◌∷◌, ◌++◌, length, take, set, get_or, refl, ap, sym, ◌∙◌, subst, arith}
use Rattle.std.proofs.lemmas.List.{take_more, take_more_set}
use Rattle.std.proofs.lemmas.Bool.{cases_lt}
use Rattle.std.proofs.lemmas.Bool.Decides.{nat_tests}
use Rattle.std.specs.Prelude.{◌==◌}
use Rattle.pe_frame.specs.declared.memory_list.MemoryPiece.{MemoryPiece}
use Rattle.pe_stacks.specs.MemoryRuns.{AreApart, appended, continued, is_followed, joined}

after_one : (b : Bool) (x : MemoryPiece) (xs ys : List MemoryPiece) → x ∷ cond b xs ys ≡ cond b (x ∷ xs) (x ∷ ys)
after_one true x xs ys = refl
after_one false x xs ys = refl

-- by the last of the runs
pub continued-last : (rs : List MemoryPiece) (r q : MemoryPiece) → continued (rs ++ r ∷ []) q ≡ cond (is_followed r q) (rs ++ joined r q ∷ []) (rs ++ r ∷ q ∷ [])
continued-last [] r q = refl
continued-last (x ∷ []) r q = after_one (is_followed r q) x (joined r q ∷ []) (r ∷ q ∷ [])
continued-last (x ∷ y ∷ ys) r q =
    ap (λ l. x ∷ l) (continued-last (y ∷ ys) r q) ∙ after_one (is_followed r q) x (y ∷ (ys ++ joined r q ∷ [])) (y ∷ (ys ++ r ∷ q ∷ []))

pub appended-some : (rs : List MemoryPiece) (q : MemoryPiece) → (q.length ≡ 0 → ⊥) → appended rs q ≡ continued rs q
appended-some rs q some = let t : (q.length == 0) ≡ false = grind (arith, nat_tests) in ap (λ b. cond b rs (continued rs q)) t

pub appended-none : (rs : List MemoryPiece) (q : MemoryPiece) → q.length ≡ 0 → appended rs q ≡ rs
appended-none rs q none = let t : (q.length == 0) ≡ true = grind (arith, nat_tests) in ap (λ b. cond b rs (continued rs q)) t

last_of : (room : List MemoryPiece) (n : ℕ) (d : MemoryPiece) → 0 < n → n ≤ length room → take n room ≡ take (n - 1) room ++ get_or room (n - 1) d ∷ []
last_of room n d some within = let same : n - 1 + 1 ≡ n = omega arith in ap (λ k. take k room) (sym same) ∙ take_more room (n - 1) d (omega arith)

-- the run continues the last one
pub appended-joined : (room : List MemoryPiece) (n : ℕ) (d q : MemoryPiece) → 0 < n → n ≤ length room → (q.length ≡ 0 → ⊥) → is_followed (get_or room (n - 1) d) q ≡ true → take n (set room (n - 1) (joined (get_or room (n - 1) d) q)) ≡ appended (take n room) q
appended-joined room n d q first within some follows =
    let same : n - 1 + 1 ≡ n = omega arith in
    let r : MemoryPiece = get_or room (n - 1) d in
    ap (λ k. take k (set room (n - 1) (joined r q))) (sym same)
    ∙ take_more_set room (n - 1) (joined r q) (omega arith)
    ∙ sym (appended-some (take n room) q some ∙ ap (λ l. continued l q) (last_of room n d first within) ∙ continued-last (take (n - 1) room) r q ∙ ap (λ b. cond b (take (n - 1) room ++ joined r q ∷ []) (take (n - 1) room ++ r ∷ q ∷ [])) follows)

pub two : (rs : List MemoryPiece) (r q : MemoryPiece) → (rs ++ r ∷ []) ++ q ∷ [] ≡ rs ++ r ∷ q ∷ []
two [] r q = refl
two (x ∷ rs) r q = ap (λ l. x ∷ l) (two rs r q)

-- it does not
pub continued-apart : (room : List MemoryPiece) (n : ℕ) (d q : MemoryPiece) → n ≤ length room → (n ≡ 0) ⊎ (is_followed (get_or room (n - 1) d) q ≡ false) → continued (take n room) q ≡ take n room ++ q ∷ []
continued-apart room zero d q within why = refl
continued-apart room (suc n) d q within why =
    let r : MemoryPiece = get_or room (suc n - 1) d in
    let apart : is_followed r q ≡ false = ⊎_elim (λ (none : suc n ≡ 0). absurd (omega (arith, none))) (λ (f : is_followed r q ≡ false). f) why in
    ap (λ l. continued l q) (last_of room (suc n) d (omega arith) within) ∙ continued-last (take (suc n - 1) room) r q
    ∙ ap (λ b. cond b (take (suc n - 1) room ++ joined r q ∷ []) (take (suc n - 1) room ++ r ∷ q ∷ [])) apart
    ∙ sym (two (take (suc n - 1) room) r q) ∙ ap (λ l. l ++ q ∷ []) (sym (last_of room (suc n) d (omega arith) within))

pub appended-apart : (room : List MemoryPiece) (n : ℕ) (d q : MemoryPiece) → n < length room → (q.length ≡ 0 → ⊥) → (n ≡ 0) ⊎ (is_followed (get_or room (n - 1) d) q ≡ false) → take (n + 1) (set room n q) ≡ appended (take n room) q
appended-apart room n d q within some why =
    take_more_set room n q within ∙ sym (appended-some (take n room) q some ∙ continued-apart room n d q (omega (arith, within)) why)

-- a list is empty or has a last element
pub last_view : (xs : List MemoryPiece) → (xs ≡ []) ⊎ ((ys : List MemoryPiece) × (y : MemoryPiece) × (xs ≡ ys ++ y ∷ []))
last_view [] = inl refl
last_view (x ∷ xs) = inr (⊎_elim
    (λ (e : xs ≡ []). ([], x, ap (λ l. x ∷ l) e))
    (λ (v : (ys : List MemoryPiece) × (y : MemoryPiece) × (xs ≡ ys ++ y ∷ [])). (x ∷ v.0, v.1, ap (λ l. x ∷ l) v.2))
    (last_view xs))

-- ---- no run follows the one before it

apart_by : (r q : MemoryPiece) (b : Bool) → is_followed r q ≡ b → 0 < r.length → 0 < q.length → AreApart (cond b (joined r q ∷ []) (r ∷ q ∷ []))
apart_by r q true e some more = omega (arith, some)
apart_by r q false e some more = (some, e, more)

apart_second : (r s q : MemoryPiece) (b : Bool) → is_followed s q ≡ b → 0 < r.length → is_followed r s ≡ false → 0 < s.length → 0 < q.length → AreApart (r ∷ cond b (joined s q ∷ []) (s ∷ q ∷ []))
apart_second r s q true e some apart more last = (some, apart, omega (arith, more))
apart_second r s q false e some apart more last = (some, apart, (more, e, last))

apart_continued : (rs : List MemoryPiece) (q : MemoryPiece) → 0 < q.length → AreApart rs → AreApart (continued rs q)
apart_continued [] q some apart = some
apart_continued (r ∷ []) q some apart = apart_by r q (is_followed r q) refl apart some
apart_continued (r ∷ s ∷ []) q some apart = apart_second r s q (is_followed s q) refl apart.0 apart.1 apart.2 some
apart_continued (r ∷ s ∷ t ∷ rs) q some apart = let more = apart_continued (s ∷ t ∷ rs) q some apart.2 in (apart.0, apart.1, more)

pub apart_more : (rs : List MemoryPiece) (q : MemoryPiece) → AreApart rs → AreApart (appended rs q)
apart_more rs q apart = elim (cases_lt 0 q.length) [
  | inl some ↦ subst AreApart (sym (appended-some rs q (λ none. absurd (omega (arith, some, none))))) (apart_continued rs q some apart)
  | inr none ↦ subst AreApart (sym (appended-none rs q (omega (arith, none)))) apart
]
