-- A word that stands in one of several pieces in ascending order.
use Rattle.std.proofs.Common.{◌≡◌, ℕ, suc, ◌+◌, ◌-◌, ◌^◌, ◌<◌, ◌≤◌, Bool, true, false, cond, List, ◌∷◌, length, Option, Some, get_or, refl, ap, sym, ◌∙◌, subst, arith, []}
use Rattle.pe_frame.proofs.Cited.{find, le, nat_tests, AreAscending, has_address, loaded, has_word, listed_byte, listed_word, lists_byte}
use Rattle.pe_frame.proofs.Cited.{MemoryPiece, ends_before, has_it, is_within}
use Rattle.pe_frame.proofs.Begun.{number_shown}
use Rattle.pe_frame.proofs.PiecesShow.{word_known}

-- ---- the range that has an address

taken : {X : Type 0} (P : X → Type 0) (y x : X) (t : Bool) (rest : Option X) → P y → (rest ≡ Some x → P x) → cond t (Some y) rest ≡ Some x → P x
taken P y x t rest h more e = grind arith

-- what is found is as all are
found_is : {X : Type 0} (p : X → Bool) (P : X → Type 0) (xs : List X) (x : X) → ((k : ℕ) → k < length xs → P (get_or xs k x)) → find p xs ≡ Some x → P x
found_is p P [] x all e = absurd (cc e)
found_is p P (y ∷ ys) x all e =
    taken P y x (p y) (find p ys) (all 0 (omega arith)) (found_is p P ys x (λ k lt. all (suc k) (omega (arith, lt)))) e

module _ {X : Type 0} (start size : X → ℕ) (a b : ℕ) (x : X) where
  abbrev Has : ℕ → X → Bool
  Has c y = has_address start size c y

  first_too : (y : X) (ys : List X) (t : Bool) → Has a y ≡ t → start x ≤ b → b < start x + size x → (find (Has a) ys ≡ Some x → start y + size y ≤ start x) → (find (Has a) ys ≡ Some x → find (Has b) ys ≡ Some x) → cond t (Some y) (find (Has a) ys) ≡ Some x → find (Has b) (y ∷ ys) ≡ Some x
  first_too y ys true has from to before more e =
      let same : y ≡ x = cc e in
      let there : Has b y ≡ true = subst (λ (z : X). Has b z ≡ true) (sym same) (has_it (start x) (size x) b from to) in
      rw there (ap (λ (z : X). Some z) same)
  first_too y ys false has from to before more e =
      let ends = before e in
      let not : Has b y ≡ false = ends_before (start y) (size y) b (omega (arith, ends, from)) in
      rw not (more e)

  -- the range that has one address has another too, and no other range has it
  pub has_both : (xs : List X) → AreAscending start size xs → start x ≤ b → b < start x + size x → find (Has a) xs ≡ Some x → find (Has b) xs ≡ Some x
  has_both [] up from to e = absurd (cc e)
  has_both (y ∷ ys) up from to e =
      first_too y ys (Has a y) refl from to
      (found_is (Has a) (λ z. start y + size y ≤ start z) ys x (λ k lt. up 0 (suc k) x (omega arith) (omega (arith, lt))))
      (has_both ys (λ j k d less within. up (suc j) (suc k) d (omega (arith, less)) (omega (arith, within))) from to)
      e

-- ---- the word

-- the piece that has one address is the first that has each other of its addresses
pub first_near : (pieces : List MemoryPiece) (p : MemoryPiece) (a b : ℕ) → AreAscending (λ q. q.start) (λ q. q.length) pieces → find (lists_byte a) pieces ≡ Some p → lists_byte b p ≡ true → find (lists_byte b) pieces ≡ Some p
first_near pieces p a b up found has =
    let within = is_within p.start p.length b has in
    has_both (λ (q : MemoryPiece). q.start) (λ (q : MemoryPiece). q.length) a b p pieces up within.0 within.1 found

-- a word of a piece that is the first that has each of its addresses
pub word_asked : (bytes : List ℕ) (pieces : List MemoryPiece) (p : MemoryPiece) (a : ℕ) → ((b : ℕ) → lists_byte b p ≡ true → find (lists_byte b) pieces ≡ Some p) → p.start ≤ a → a + 8 ≤ p.start + p.length → a + 8 ≤ 2 ^ 64 → listed_word bytes pieces a ≡ Some (le bytes (p.offset + (a - p.start)) 8)
word_asked bytes pieces p a first from to fits =
    let memory : ℕ → ℕ = λ b. get_or bytes (p.offset + (b - p.start)) 0 in
    let byte : (i : ℕ) → i < 8 → listed_byte bytes pieces (a + i) ≡ Some (memory (a + i)) = λ i small.
    let there : find (lists_byte (a + i)) pieces ≡ Some p = first (a + i) (has_it p.start p.length (a + i) (omega (arith, from)) (omega (arith, to, small))) in
    rw there refl in
    let word : listed_word bytes pieces a ≡ Some (loaded memory a) = word_known (listed_byte bytes pieces) memory a fits byte in
    word ∙ sym (ap (λ (v : ℕ). Some v) (number_shown bytes (p.offset + (a - p.start)) a 8 memory (omega arith) (λ i small. ap (λ (k : ℕ). get_or bytes k 0) (omega (arith, from)))))

pub word_in_piece : (bytes : List ℕ) (pieces : List MemoryPiece) (p : MemoryPiece) (a : ℕ) → AreAscending (λ q. q.start) (λ q. q.length) pieces → find (lists_byte a) pieces ≡ Some p → p.start ≤ a → a + 8 ≤ p.start + p.length → a + 8 ≤ 2 ^ 64 → listed_word bytes pieces a ≡ Some (le bytes (p.offset + (a - p.start)) 8)
word_in_piece bytes pieces p a up found from to fits = grind (arith, word_asked, first_near)

-- an address at which a word starts of those that are whole in a piece
module _ (p : MemoryPiece) (words a : ℕ) (whole : (k : ℕ) → k < words → has_word (p.start + k) p ≡ true) (from : p.start ≤ a) (lt : a - p.start < words) where
  pub word_there : has_word a p ≡ true
  word_there = subst (λ (b : ℕ). has_word b p ≡ true) (omega (arith, from)) (whole (a - p.start) lt)

  pub word_fits : (a + 8 ≤ p.start + p.length) × (a + 8 ≤ 2 ^ 64)
  word_fits = let there = word_there in (grind (arith, nat_tests), grind (arith, nat_tests))

  pub word_has : lists_byte a p ≡ true
  word_has = has_it p.start p.length a from (omega (arith, word_fits.0))
