-- Memory by a list of pieces shows what a machine's memory has, and is the memory of the pieces.
use Rattle.std.proofs.Common.{◌≡◌, ℕ, zero, suc, ◌+◌, ◌-◌, ◌^◌, ◌<◌, ◌≤◌, Bool, true, List, ◌∷◌, get_or, Option, Some, refl, arith, []}
use Rattle.pe_frame.proofs.Cited.{get_or-drop, get_or-take, length_range, range, loaded, AreListed, ArePieces, IsPiece, list_byte}
use Rattle.pe_frame.proofs.Cited.{listed_byte, listed_word, lists_byte, byte_in, known_bytes, known_word, pieces_word, Stack, MemoryPiece}
use Rattle.pe_frame.proofs.Cited.{is_within}
use Rattle.pe_frame.proofs.PiecesShow.{first_shown, word_known}

-- ---- a machine's memory

pub byte_here : (memory : ℕ → ℕ) (bytes : List ℕ) (b : ℕ) (p : MemoryPiece) → ((i : ℕ) → i < p.length → get_or bytes (p.offset + i) 0 ≡ memory (p.start + i)) → lists_byte b p ≡ true → get_or bytes (p.offset + (b - p.start)) 0 ≡ memory b
byte_here memory bytes b p shows has = grind (arith, is_within)

byte_shown : (memory : ℕ → ℕ) (bytes : List ℕ) (b : ℕ) (pieces : List MemoryPiece) → AreListed memory bytes pieces → list_byte b pieces ≡ true → listed_byte bytes pieces b ≡ Some (memory b)
byte_shown memory bytes b pieces shows one =
    first_shown (λ p. (i : ℕ) → i < p.length → get_or bytes (p.offset + i) 0 ≡ memory (p.start + i)) (lists_byte b) (λ p. get_or bytes (p.offset + (b - p.start)) 0) (memory b) (byte_here memory bytes b) pieces shows one

pub word_of_list : (bytes : List ℕ) (pieces : List MemoryPiece) (a : ℕ) (memory : ℕ → ℕ) → AreListed memory bytes pieces → ((i : ℕ) → i < 8 → list_byte (a + i) pieces ≡ true) → a + 8 ≤ 2 ^ 64 → listed_word bytes pieces a ≡ Some (loaded memory a)
word_of_list bytes pieces a memory shows one fits =
    word_known (listed_byte bytes pieces) memory a fits (λ i small. byte_shown memory bytes (a + i) pieces shows (one i small))

-- ---- the memory of the pieces

at_range : (bytes : List ℕ) (o n i : ℕ) → i < n → get_or (range bytes o n) i 0 ≡ get_or bytes (o + i) 0
at_range bytes o n i small = grind (arith, get_or-take, get_or-drop)

same_value : (bytes : List ℕ) (p : MemoryPiece) (s : Stack) (a : ℕ) → IsPiece bytes p s → lists_byte a p ≡ true → get_or bytes (p.offset + (a - p.start)) 0 ≡ get_or s.bytes.now (a - s.start) 0
same_value bytes p s a is has = grind (arith, is_within, at_range)

first_same : (bytes : List ℕ) (p : MemoryPiece) (s : Stack) (ps : List MemoryPiece) (ss : List Stack) (a : ℕ) (t : Bool) → lists_byte a p ≡ t → IsPiece bytes p s → listed_byte bytes ps a ≡ byte_in ss a → listed_byte bytes (p ∷ ps) a ≡ byte_in (s ∷ ss) a
first_same bytes p s ps ss a t has is rest = grind (arith, length_range, same_value)

same_byte : (bytes : List ℕ) (ps : List MemoryPiece) (ss : List Stack) (a : ℕ) → ArePieces bytes ps ss → listed_byte bytes ps a ≡ byte_in ss a
same_byte bytes [] [] a are = refl
same_byte bytes [] (s ∷ ss) a are = absurd are
same_byte bytes (p ∷ ps) [] a are = absurd are
same_byte bytes (p ∷ ps) (s ∷ ss) a are = grind (arith, first_same, same_byte bytes ps ss a)

same_bytes : (f g : ℕ → Option ℕ) (a n : ℕ) → ((b : ℕ) → f b ≡ g b) → known_bytes f a n ≡ known_bytes g a n
same_bytes f g a zero same = refl
same_bytes f g a (suc n) same = rw (same_bytes f g a n same, same (a + n)) refl

pub same_word : (f g : ℕ → Option ℕ) (a : ℕ) → ((b : ℕ) → f b ≡ g b) → known_word f a ≡ known_word g a
same_word f g a same = rw (same_bytes f g a 8 same) refl

pub word_of_its_pieces : (bytes : List ℕ) (listed : List MemoryPiece) (pieces : List Stack) (a : ℕ) → ArePieces bytes listed pieces → listed_word bytes listed a ≡ pieces_word pieces a
word_of_its_pieces bytes listed pieces a are = grind (arith, same_word, same_byte)
