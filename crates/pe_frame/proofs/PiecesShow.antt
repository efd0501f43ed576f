-- Memory in pieces shows what a machine's memory has.
use Rattle.std.proofs.Common.{◌≡◌, ℕ, zero, suc, ◌+◌, ◌-◌, ◌^◌, ◌<◌, ◌≤◌, ◌⊎◌, inl, inr, Bool, true, false, ◌&&◌, ◌||◌, nat_le, List, ◌∷◌, get_or, Option, Some, None, refl, ap, subst, sym, ◌∙◌, arith, add-one, []}
use Rattle.pe_frame.proofs.Cited.{AllByRecursion, find, list_any, option_map, cases_lt, nat_tests, holds, each, get_or-each, loaded}
use Rattle.pe_frame.proofs.Cited.{stack_word, ArePiecesOf, byte_in, has_byte, have_byte, known_bytes, known_word, piece_size, pieces_word}
use Rattle.pe_frame.proofs.Cited.{Stack, ends_before, has_it, is_within, starts_after}
use Rattle.pe_frame.proofs.Begun.{number_shown, word_shown}
use Rattle.pe_frame.proofs.Pieces.{byte_missing, still_unknown}

-- ---- a byte

byte_here : (memory : ℕ → ℕ) (b : ℕ) (s : Stack) → ((i : ℕ) → i < piece_size s → get_or s.bytes.now i 0 ≡ memory (s.start + i)) → has_byte b s ≡ true → get_or s.bytes.now (b - s.start) 0 ≡ memory b
byte_here memory b s shows has = grind (arith, is_within)

module _ {X : Type 0} (Shows : X → Type 0) (has : X → Bool) (value : X → ℕ) (v : ℕ) where
  abbrev pub HasValue : Type 0
  HasValue = (x : X) → Shows x → has x ≡ true → value x ≡ v

  first_by : HasValue → (x : X) (xs : List X) (t : Bool) → has x ≡ t → Shows x → (list_any has xs ≡ true → option_map value (find has xs) ≡ Some v) → list_any has (x ∷ xs) ≡ true → option_map value (find has (x ∷ xs)) ≡ Some v
  first_by is x xs true h shows more one = rw h (ap (λ (n : ℕ). Some n) (is x shows h))
  first_by is x xs false h shows more one =
      let others : list_any has xs ≡ true = subst (λ (t : Bool). (t || list_any has xs) ≡ true) h one in
      rw h (more others)

  -- what the first shows that has an address
  pub first_shown : HasValue → (xs : List X) → AllByRecursion Shows xs → list_any has xs ≡ true → option_map value (find has xs) ≡ Some v
  first_shown is [] shows one = absurd (cc one)
  first_shown is (x ∷ xs) shows one = first_by is x xs (has x) refl shows.0 (first_shown is xs shows.1) one

byte_shown : (memory : ℕ → ℕ) (b : ℕ) (pieces : List Stack) → ArePiecesOf memory pieces → have_byte b pieces ≡ true → byte_in pieces b ≡ Some (memory b)
byte_shown memory b pieces shows one =
    first_shown (λ s. (i : ℕ) → i < piece_size s → get_or s.bytes.now i 0 ≡ memory (s.start + i)) (has_byte b) (λ s. get_or s.bytes.now (b - s.start) 0) (memory b) (byte_here memory b) pieces shows one

-- ---- a word

module _ (byte : ℕ → Option ℕ) (memory : ℕ → ℕ) (a : ℕ) where
  bytes_shown : (n : ℕ) → n ≤ 8 → ((i : ℕ) → i < 8 → byte (a + i) ≡ Some (memory (a + i))) → known_bytes byte a n ≡ Some (each (λ i. memory (a + i)) n)
  unfolding each
  bytes_shown zero small known = refl
  bytes_shown (suc n) small known = rw (bytes_shown n (omega (arith, small)) known, known n (omega (arith, small))) refl

  -- the word of eight bytes that are known
  pub word_known : a + 8 ≤ 2 ^ 64 → ((i : ℕ) → i < 8 → byte (a + i) ≡ Some (memory (a + i))) → known_word byte a ≡ Some (loaded memory a)
  word_known fits known =
      let test : nat_le (a + 8) (2 ^ 64) ≡ true = grind (arith, nat_tests) in
      rw (test, bytes_shown 8 (omega arith) known)
      (ap (λ (v : ℕ). Some v) (number_shown (each (λ i. memory (a + i)) 8) 0 a 8 memory (omega arith) (λ i small. let same : 0 + i ≡ i = omega arith in rw same (get_or-each (λ i. memory (a + i)) 8 i 0 small))))

pub word_of_pieces : (pieces : List Stack) (a : ℕ) (memory : ℕ → ℕ) → ArePiecesOf memory pieces → ((i : ℕ) → i < 8 → have_byte (a + i) pieces ≡ true) → a + 8 ≤ 2 ^ 64 → pieces_word pieces a ≡ Some (loaded memory a)
word_of_pieces pieces a memory shows one fits =
    word_known (byte_in pieces) memory a fits (λ i small. byte_shown memory (a + i) pieces shows (one i small))

-- ---- one piece

none_past : (pieces : List Stack) (a : ℕ) → 2 ^ 64 < a + 8 → pieces_word pieces a ≡ None
none_past pieces a past = let test : nat_le (a + 8) (2 ^ 64) ≡ false = grind (arith, nat_tests) in rw test refl

word_unknown : (s : Stack) (a i : ℕ) → i < 8 → has_byte (a + i) s ≡ false → pieces_word (s ∷ []) a ≡ None
word_unknown s a i small has = grind (arith, add-one, byte_missing, still_unknown, cases_lt, none_past, nat_le, nat_tests)

has_not : (s : Stack) (b : ℕ) → (b < s.start) ⊎ (s.start + piece_size s ≤ b) → has_byte b s ≡ false
has_not s b h2 = grind (arith, starts_after, ends_before)

stack_unknown : (s : Stack) (a : ℕ) → (nat_le s.start a && nat_le (a + 8) (2 ^ 64) && holds s.bytes.now (a - s.start) 8) ≡ false → stack_word s.bytes.now s.start a ≡ None
stack_unknown s a test = rw test refl

pub one_piece : (s : Stack) (a : ℕ) → pieces_word (s ∷ []) a ≡ stack_word s.bytes.now s.start a
one_piece s a =
    elim (cases_lt a s.start) [
      | inl low ↦
          word_unknown s a 0 (omega arith) (has_not s (a + 0) (inl (omega (arith, low))))
          ∙ sym (stack_unknown s a (grind (arith, nat_tests)))
      | inr from ↦ elim (cases_lt (s.start + piece_size s) (a + 8)) [
        | inl past ↦
            word_unknown s a 7 (omega arith) (has_not s (a + 7) (inr (omega (arith, past))))
            ∙ sym (stack_unknown s a (grind (arith, nat_tests)))
        | inr room ↦ elim (cases_lt (2 ^ 64) (a + 8)) [
          | inl past ↦ none_past (s ∷ []) a past ∙ sym (stack_unknown s a (grind (arith, nat_tests)))
          | inr fits ↦
              let memory : ℕ → ℕ = λ b. get_or s.bytes.now (b - s.start) 0 in
              let shows : ArePiecesOf memory (s ∷ []) = (λ i small. ap (λ (k : ℕ). get_or s.bytes.now k 0) (omega arith), tt) in
              let has : (i : ℕ) → i < 8 → have_byte (a + i) (s ∷ []) ≡ true = λ i small. rw (has_it s.start (piece_size s) (a + i) (omega (arith, from)) (omega (arith, room, small))) refl in
              let word = word_shown s.bytes.now s.start a memory from room fits (λ i small. ap (λ (k : ℕ). get_or s.bytes.now k 0) (omega (arith, from))) in
              word_of_pieces (s ∷ []) a memory shows has fits ∙ sym word
        ]
      ]
    ]
