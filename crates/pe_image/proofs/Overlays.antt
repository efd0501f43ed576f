-- Pieces that are put one after the other are their overlay.
use Rattle.std.proofs.Common.{◌≡◌, ℕ, ◌+◌, ◌-◌, ◌≤◌, true, cond, List, [], ◌∷◌, ◌++◌, length, get_or, Option, Some, None, refl, ap, sym, ◌∙◌, arith}
use Rattle.pe_image.proofs.Cited.{slice_index, last_or, ext_get_or, nat_tests, length-each, get_or-each, length-splice}
use Rattle.pe_image.proofs.Cited.{get_or-splice, each, Piece, has_byte, byte_of, byte_after, overlay, all_fit, splice, put_in_turn}

-- the last of a list is the same whatever stood before its first element
last_some : {X : Type 0} (xs : List X) (x : X) (q a b : ℕ) (r : ℕ → Option X → ℕ) → ((c d : ℕ) (y : X) → r c (Some y) ≡ r d (Some y)) → r a (last_or (Some x) xs) ≡ r b (last_or (Some x) xs)
last_some [] x q a b r h = h a b x
last_some (y ∷ xs) x q a b r h = last_some xs y q a b r h

-- a piece that is put_in_turn first is the old byte of the others
one_more : (xs : List Piece) (q old : ℕ) (acc : Option Piece) → byte_of q (byte_of q old acc) (last_or None xs) ≡ byte_of q old (last_or acc xs)
one_more [] q old acc = refl
one_more (x ∷ xs) q old acc = last_some xs x q (byte_of q old acc) old (λ c o. byte_of q c o) (λ c d y. refl)

pub byte_after_cons : (x : Piece) (xs : List Piece) (q old : ℕ) → byte_after xs q (cond (has_byte q x) (slice_index x.content (q - x.offset)) old) ≡ byte_after (x ∷ xs) q old
unfolding byte_after
byte_after_cons x xs q old = grind (arith, one_more)

pub length-put : (xs : List Piece) (b : List ℕ) → all_fit (length b) xs ≡ true → length (put_in_turn b xs) ≡ length b
unfolding put_in_turn
length-put [] b h = refl
length-put (x ∷ xs) b h =
    let l : length (splice b x.offset x.content) ≡ length b = length-splice b x.offset x.content (grind (arith, nat_tests)) in
    let rest : all_fit (length (splice b x.offset x.content)) xs ≡ true = rw l (grind (arith, nat_tests)) in
    length-put xs (splice b x.offset x.content) rest ∙ l

pub get_or-put : (xs : List Piece) (b : List ℕ) (q : ℕ) → all_fit (length b) xs ≡ true → get_or (put_in_turn b xs) q 0 ≡ byte_after xs q (get_or b q 0)
unfolding put_in_turn
get_or-put [] b q h = unfold byte_after in refl
get_or-put (x ∷ xs) b q h =
    let inside : x.offset + length x.content ≤ length b = grind (arith, nat_tests) in
    let l : length (splice b x.offset x.content) ≡ length b = length-splice b x.offset x.content inside in
    let rest : all_fit (length (splice b x.offset x.content)) xs ≡ true = rw l (grind (arith, nat_tests)) in
    get_or-put xs (splice b x.offset x.content) q rest
    ∙ (ap (byte_after xs q) (get_or-splice b x.offset x.content q inside) ∙ byte_after_cons x xs q (get_or b q 0))

-- pieces that are put one after the other are their overlay
pub overlay_in_turn : (xs : List Piece) (b : List ℕ) → all_fit (length b) xs ≡ true → put_in_turn b xs ≡ overlay b xs
unfolding overlay
overlay_in_turn xs b h =
    let f : ℕ → ℕ = λ q. byte_after xs q (slice_index b q) in
    let l : length (put_in_turn b xs) ≡ length b = length-put xs b h in
    ext_get_or 0 (put_in_turn b xs) (each f (length b)) (l ∙ sym (length-each f (length b)))
    (λ k lt. get_or-put xs b k h ∙ sym (get_or-each f (length b) k 0 (omega arith)))

pub put_append : (xs ys : List Piece) (b : List ℕ) → put_in_turn b (xs ++ ys) ≡ put_in_turn (put_in_turn b xs) ys
unfolding put_in_turn
put_append [] ys b = refl
put_append (x ∷ xs) ys b = put_append xs ys (splice b x.offset x.content)
