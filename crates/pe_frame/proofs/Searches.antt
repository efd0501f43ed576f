-- Memory that is searched is that of the list of its pieces, where they ascend.
use Rattle.std.proofs.Common.{◌≡◌, ℕ, zero, suc, ◌+◌, ◌-◌, ◌^◌, ◌<◌, ◌≤◌, Bool, true, false, cond, inl, inr, nat_eq, List, ◌∷◌, ◌++◌, nat_le, length, Option, Some, None, get_or, refl, ap, sym, ◌∙◌, subst, arith, rules, []}
use Rattle.pe_frame.proofs.Cited.{cases_lt, nat_tests, fun_ext, get_or_default, AllByRecursion, find, option_and_then, option_map, holds}
use Rattle.pe_frame.proofs.Cited.{le, each, get_or-each, both, found_passes, AreAscending, IsCountUpTo, loaded, AreListed, are_inside}
use Rattle.pe_frame.proofs.Cited.{ascend, has_word, listed_word, lists_byte, known_bytes, known_word, no_piece, piece_found, piece_shown}
use Rattle.pe_frame.proofs.Cited.{pieces_started, searched_byte, searched_word, shows_byte, word_by, MemoryPiece, counted, ends_before}
use Rattle.pe_frame.proofs.Cited.{found_of_all, has_it, is_within, none_starts, range_found, range_missed, starts_rise, test_ascends}
use Rattle.pe_frame.proofs.Begun.{number_shown}
use Rattle.pe_frame.proofs.ListsShow.{byte_here, same_word}
use Rattle.pe_frame.proofs.OnePiece.{word_in_piece}

abbrev start_of : MemoryPiece → ℕ
start_of p = p.start

abbrev size_of : MemoryPiece → ℕ
size_of p = p.length

-- ---- the piece that is found

not_shown : (bytes : List ℕ) (pieces : List MemoryPiece) (a : ℕ) → lists_byte a (piece_found pieces a) ≡ false → piece_shown bytes pieces a ≡ None
unfolding piece_shown
not_shown bytes pieces a not = rw not refl

is_shown : (bytes : List ℕ) (pieces : List MemoryPiece) (a : ℕ) (p : MemoryPiece) → piece_found pieces a ≡ p → lists_byte a p ≡ true → holds bytes p.offset p.length ≡ true → piece_shown bytes pieces a ≡ Some p
unfolding piece_shown
is_shown bytes pieces a p is has inside = rw (is, has, inside) refl

by_count : (bytes : List ℕ) (pieces : List MemoryPiece) (a n : ℕ) → AreAscending start_of size_of pieces → are_inside bytes pieces ≡ true → IsCountUpTo start_of a pieces n → pieces_started pieces a ≡ n → piece_shown bytes pieces a ≡ find (lists_byte a) pieces
by_count bytes pieces a zero up inside count is =
    let found : piece_found pieces a ≡ no_piece = rw is refl in
    not_shown bytes pieces a (rw found (ends_before 0 0 a (omega arith))) ∙ sym (none_starts start_of size_of pieces a 0 count refl)
by_count bytes pieces a (suc n) up inside count is =
    let x : MemoryPiece = get_or pieces n no_piece in
    let some : nat_eq (suc n) 0 ≡ false = grind (arith, nat_tests) in
    let last : suc n - 1 ≡ n = omega arith in
    let found : piece_found pieces a ≡ x =
    ap (λ (c : ℕ). cond (nat_eq c 0) no_piece (get_or pieces (c - 1) no_piece)) is
    ∙ (ap (λ (b : Bool). cond b no_piece (get_or pieces (suc n - 1) no_piece)) some
    ∙ ap (λ (k : ℕ). get_or pieces k no_piece) last) in
    let lt : n < length pieces = omega (arith, count.within) in
    let at : x ≡ get_or pieces (suc n - 1) x =
    get_or_default pieces n no_piece x lt ∙ ap (λ (k : ℕ). get_or pieces k x) (sym last) in
    let from : x.start ≤ a = count.before n no_piece (omega arith) in
    elim (cases_lt a (x.start + x.length)) [
      | inl within ↦
          let there : find (lists_byte a) pieces ≡ Some x = range_found start_of size_of pieces a (suc n) x up count (λ none. absurd (omega (arith, none))) at within in
          is_shown bytes pieces a x found (has_it x.start x.length a from within) (found_of_all (lists_byte a) (λ p. holds bytes p.offset p.length) pieces x inside there)
          ∙ sym there
      | inr past ↦
          let not : lists_byte a (piece_found pieces a) ≡ false = rw found (ends_before x.start x.length a past) in
          not_shown bytes pieces a not ∙ sym (range_missed start_of size_of pieces a (suc n) x up count (λ none. absurd (omega (arith, none))) at past)
    ]

pub piece_listed : (bytes : List ℕ) (pieces : List MemoryPiece) (a : ℕ) → AreAscending start_of size_of pieces → are_inside bytes pieces ≡ true → piece_shown bytes pieces a ≡ find (lists_byte a) pieces
piece_listed bytes pieces a up inside = by_count bytes pieces a (pieces_started pieces a) up inside (counted start_of no_piece pieces a (starts_rise start_of size_of pieces up)) refl

-- what is shown shows the byte
by_test : (bytes : List ℕ) (a : ℕ) (p q : MemoryPiece) (t : Bool) → shows_byte bytes a q ≡ t → cond t (Some q) None ≡ Some p → shows_byte bytes a p ≡ true
by_test bytes a p q t h e = grind arith

pub shown : (bytes : List ℕ) (pieces : List MemoryPiece) (a : ℕ) (p : MemoryPiece) → Some p ≡ piece_shown bytes pieces a → (lists_byte a p ≡ true) × (holds bytes p.offset p.length ≡ true)
unfolding piece_shown
shown bytes pieces a p is = grind (arith, both, by_test)

-- ---- the word

by_bytes : (bytes : List ℕ) (pieces : List MemoryPiece) (a : ℕ) → AreAscending start_of size_of pieces → are_inside bytes pieces ≡ true → known_word (searched_byte bytes pieces) a ≡ listed_word bytes pieces a
by_bytes bytes pieces a up inside = grind (arith, same_word, get_or, piece_listed)

in_one : (bytes : List ℕ) (pieces : List MemoryPiece) (a : ℕ) (p : MemoryPiece) (t : Bool) → AreAscending start_of size_of pieces → are_inside bytes pieces ≡ true → find (lists_byte a) pieces ≡ Some p → has_word a p ≡ t → cond t (Some (le bytes (p.offset + (a - p.start)) 8)) (known_word (searched_byte bytes pieces) a) ≡ listed_word bytes pieces a
in_one bytes pieces a p t up inside found has = search (rules, arith, by_bytes, is_within, found_passes, word_in_piece, nat_tests)

pub word_listed : (bytes : List ℕ) (pieces : List MemoryPiece) (a : ℕ) → AreAscending start_of size_of pieces → are_inside bytes pieces ≡ true → searched_word bytes pieces a ≡ listed_word bytes pieces a
word_listed bytes pieces a up inside = grind (arith, by_bytes, in_one, piece_listed)

-- all words, by the test of the order
pub words_listed : (bytes : List ℕ) (pieces : List MemoryPiece) → are_inside bytes pieces ≡ true → ascend pieces ≡ true → searched_word bytes pieces ≡ listed_word bytes pieces
words_listed bytes pieces inside up = search (rules, arith, fun_ext, word_listed, test_ascends)

-- ---- pieces in any order

-- what holds of all elements, and of what stands for one past them, holds of each
all_at : {X : Type 0} (P : X → Type 0) (xs : List X) (i : ℕ) (d : X) → AllByRecursion P xs → P d → P (get_or xs i d)
all_at P [] i d all past = past
all_at P (x ∷ xs) zero d all past = all.0
all_at P (x ∷ xs) (suc i) d all past = all_at P xs i d all.1 past

either : {X : Type 0} (P : X → Type 0) (t : Bool) (x y : X) → P x → P y → P (cond t x y)
either P t x y h k = grind arith

module _ (memory : ℕ → ℕ) (bytes : List ℕ) (pieces : List MemoryPiece) (shows : AreListed memory bytes pieces) where
  abbrev Shows : MemoryPiece → Type 0
  Shows p = (i : ℕ) → i < p.length → get_or bytes (p.offset + i) 0 ≡ memory (p.start + i)

  nothing : Shows no_piece
  nothing i small = absurd (omega (arith, small))

  found_shows : (a : ℕ) → Shows (piece_found pieces a)
  found_shows a =
      either Shows (nat_eq (pieces_started pieces a) 0) no_piece (get_or pieces (pieces_started pieces a - 1) no_piece) nothing (all_at Shows pieces (pieces_started pieces a - 1) no_piece shows nothing)

  is_found : (p q : MemoryPiece) (t : Bool) → cond t (Some q) None ≡ Some p → Shows q → Shows p
  is_found p q true e h = let same : q ≡ p = cc e in subst Shows same h
  is_found p q false e h = absurd (cc e)

  shown_shows : (a : ℕ) (p : MemoryPiece) → Some p ≡ piece_shown bytes pieces a → Shows p
  unfolding piece_shown
  shown_shows a p is = is_found p (piece_found pieces a) (shows_byte bytes a (piece_found pieces a)) (sym is) (found_shows a)

  byte_by : (b v : ℕ) (o : Option MemoryPiece) → piece_shown bytes pieces b ≡ o → option_map (λ p. get_or bytes (p.offset + (b - p.start)) 0) o ≡ Some v → v ≡ memory b
  byte_by b v None is e = absurd (cc e)
  byte_by b v (Some p) is e =
      let same : get_or bytes (p.offset + (b - p.start)) 0 ≡ v = cc e in
      sym same ∙ byte_here memory bytes b p (shown_shows b p (sym is)) (shown bytes pieces b p (sym is)).0

  byte_right : (b v : ℕ) → searched_byte bytes pieces b ≡ Some v → v ≡ memory b
  byte_right b v e = byte_by b v (piece_shown bytes pieces b) refl e

  bytes_by : (a n : ℕ) (bs : List ℕ) (before : Option (List ℕ)) (last : Option ℕ) → ((known : List ℕ) → before ≡ Some known → known ≡ each (λ i. memory (a + i)) n) → ((v : ℕ) → last ≡ Some v → v ≡ memory (a + n)) → option_and_then (λ known. option_map (λ b. known ++ b ∷ []) last) before ≡ Some bs → bs ≡ each (λ i. memory (a + i)) (suc n)
  unfolding each
  bytes_by a n bs None last first more e = absurd (cc e)
  bytes_by a n bs (Some known) None first more e = absurd (cc e)
  bytes_by a n bs (Some known) (Some b) first more e =
      let same : known ++ b ∷ [] ≡ bs = cc e in
      sym same ∙ (ap (λ (k : List ℕ). k ++ b ∷ []) (first known refl) ∙ ap (λ (v : ℕ). each (λ i. memory (a + i)) n ++ v ∷ []) (more b refl))

  bytes_right : (a n : ℕ) (bs : List ℕ) → known_bytes (searched_byte bytes pieces) a n ≡ Some bs → bs ≡ each (λ i. memory (a + i)) n
  unfolding each
  bytes_right a zero bs e = let same : [] ≡ bs = cc e in sym same
  bytes_right a (suc n) bs e =
      bytes_by a n bs (known_bytes (searched_byte bytes pieces) a n) (searched_byte bytes pieces (a + n)) (λ known is. bytes_right a n known is) (λ v is. byte_right (a + n) v is) e

  number_by : (a v : ℕ) (t : Bool) (o : Option (List ℕ)) → ((bs : List ℕ) → o ≡ Some bs → bs ≡ each (λ i. memory (a + i)) 8) → cond t (option_map (λ bs. le bs 0 8) o) None ≡ Some v → v ≡ loaded memory a
  number_by a v false o right e = absurd (cc e)
  number_by a v true None right e = absurd (cc e)
  number_by a v true (Some bs) right e =
      let same : le bs 0 8 ≡ v = cc e in
      sym same
      ∙ (ap (λ (k : List ℕ). le k 0 8) (right bs refl)
      ∙ number_shown (each (λ i. memory (a + i)) 8) 0 a 8 memory (omega arith) (λ i small. let at : 0 + i ≡ i = omega arith in rw at (get_or-each (λ i. memory (a + i)) 8 i 0 small)))

  by_bytes_right : (a v : ℕ) → known_word (searched_byte bytes pieces) a ≡ Some v → v ≡ loaded memory a
  by_bytes_right a v e =
      number_by a v (nat_le (a + 8) (2 ^ 64)) (known_bytes (searched_byte bytes pieces) a 8) (λ bs is. bytes_right a 8 bs is) e

  in_one_right : (a v : ℕ) (p : MemoryPiece) (t : Bool) → Some p ≡ piece_shown bytes pieces a → has_word a p ≡ t → cond t (Some (le bytes (p.offset + (a - p.start)) 8)) (known_word (searched_byte bytes pieces) a) ≡ Some v → v ≡ loaded memory a
  in_one_right a v p false is has e = by_bytes_right a v e
  in_one_right a v p true is has e =
      let within = is_within p.start p.length a (shown bytes pieces a p is).0 in
      let from : p.start ≤ a = within.0 in
      let to : a + 8 ≤ p.start + p.length = grind (arith, nat_tests) in
      let same : le bytes (p.offset + (a - p.start)) 8 ≡ v = cc e in
      let here : (i : ℕ) → i < 8 → get_or bytes (p.offset + (a - p.start) + i) 0 ≡ memory (a + i) = λ i small.
      ap (λ (k : ℕ). get_or bytes k 0) (omega (arith, from)) ∙ (shown_shows a p is (a - p.start + i) (omega (arith, from, to, small)) ∙ ap memory (omega (arith, from))) in
      sym same ∙ number_shown bytes (p.offset + (a - p.start)) a 8 memory (omega arith) here

  by_piece_right : (a v : ℕ) (o : Option MemoryPiece) → o ≡ piece_shown bytes pieces a → word_by bytes pieces a o ≡ Some v → v ≡ loaded memory a
  by_piece_right a v None is e = by_bytes_right a v e
  by_piece_right a v (Some p) is e = in_one_right a v p (has_word a p) is refl e

  -- a word that is known is that of the memory
  pub word_right : (a v : ℕ) → searched_word bytes pieces a ≡ Some v → v ≡ loaded memory a
  word_right a v e = by_piece_right a v (piece_shown bytes pieces a) refl e
