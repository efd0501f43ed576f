-- What is read of annotations that are written.
use Rattle.std.proofs.Common.{◌≡◌, ℕ, ◌+◌, ◌*◌, ◌%◌, ◌^◌, ◌<◌, ◌≤◌, Bool, true, false, List, [], ◌∷◌, ◌++◌, length, get_or, Result, Ok, refl, ap, sym, subst, ◌∙◌, arith, append_assoc, length-append}
use Rattle.std.proofs.lemmas.Bool.{cases_lt}
use Rattle.std.proofs.lemmas.Bool.Decides.{nat_tests}
use Rattle.std.proofs.lemmas.List.{append-nil, get_or-append-add}
use Rattle.std.proofs.lemmas.List.Elements.{All-head, All-tail}
use Rattle.std.specs.List.{All}
use Rattle.std.specs.Prelude.{◌==◌, if◌then◌else◌}
use Rattle.pe_core.specs.Bytes.{le}
use Rattle.pe_core.proofs.NumberBytes.{le-cons, le-zero}
use Rattle.pe_pdb.specs.Annotations.{annotation_at, annotations, number_at}
use Rattle.pe_pdb.specs.Refusals.{PdbRefusal}
use Rattle.pe_pdb.specs.WrittenAnnotations.{IsWritable, all_read, end_of_annotations, written, written_all, written_number}
use Rattle.pe_pdb.specs.declared.annotation.Annotation.{Annotation}
use Rattle.pe_pdb.proofs.InlineWalks.{annotations_later, annotations_more}
use Rattle.pe_pdb.proofs.Walked.{items_none}

-- a byte after others
byte_of : (before ys : List ℕ) (k x : ℕ) → get_or ys k 0 ≡ x → le (before ++ ys) (length before + k) 1 ≡ x
byte_of before ys k x is = grind (arith, le-cons, le-zero, get_or-append-add)

-- numbers of 1, 2 and 4 bytes
one_byte : (b : List ℕ) (p n : ℕ) → le b p 1 ≡ n → n < 128 → p + 1 ≤ length b → number_at b p ≡ Ok (n, p + 1)
unfolding number_at
one_byte b p n is low inside = grind (arith, nat_tests)

two_bytes : (b : List ℕ) (p x y : ℕ) → le b p 1 ≡ x → 128 ≤ x → x < 192 → le b (p + 1) 1 ≡ y → p + 2 ≤ length b → number_at b p ≡ Ok (x % 64 * 256 + y, p + 2)
unfolding number_at
two_bytes b p x y is high low next inside = grind (arith, nat_tests)

four_bytes : (b : List ℕ) (p x y z w : ℕ) → le b p 1 ≡ x → 192 ≤ x → x < 224 → le b (p + 1) 1 ≡ y → le b (p + 2) 1 ≡ z → le b (p + 3) 1 ≡ w → p + 4 ≤ length b →
    number_at b p ≡ Ok (x % 32 * 16777216 + y * 65536 + z * 256 + w, p + 4)
unfolding number_at
four_bytes b p x y z w is high low second third fourth inside = grind (arith, nat_tests)

-- a number that is written is read
abbrev pub Reads : ℕ → List ℕ → Type 0
Reads n ys = (before after : List ℕ) → number_at (before ++ (ys ++ after)) (length before) ≡ Ok (n, length before + length ys)

start_byte : (before ys : List ℕ) (x : ℕ) → get_or ys 0 0 ≡ x → le (before ++ ys) (length before) 1 ≡ x
start_byte before ys x is =
    let zero_more : length before ≡ length before + 0 = omega arith in
    ap (λ (p : ℕ). le (before ++ ys) p 1) zero_more ∙ byte_of before ys 0 x is

pub number_read : (n : ℕ) → n < 2 ^ 29 → Reads n (written_number n)
number_read n small = grind (arith, cases_lt, nat_tests, length-append, one_byte, start_byte, two_bytes, byte_of, four_bytes)

-- a number after one that was read before it
next_read : (n p q : ℕ) (b before ys after : List ℕ) → Reads n ys → b ≡ before ++ (ys ++ after) → p ≡ length before → q ≡ p + length ys → number_at b p ≡ Ok (n, q)
next_read n p q b before ys after reads is at end = grind arith

read_by : (a : Annotation) (b : List ℕ) (p q r : ℕ) → IsWritable a → number_at b p ≡ Ok (a.operation, q) → number_at b q ≡ Ok (a.first, r) → a.second ≡ 0 → (a.operation == 12) ≡ false → annotation_at b p ≡ Ok (a, r)
unfolding annotation_at
read_by a b p q r fits one two none other = grind (arith, nat_tests)

read_by_two : (a : Annotation) (b : List ℕ) (p q r t : ℕ) → IsWritable a → number_at b p ≡ Ok (a.operation, q) → number_at b q ≡ Ok (a.first, r) → number_at b r ≡ Ok (a.second, t) → (a.operation == 12) ≡ true → annotation_at b p ≡ Ok (a, t)
unfolding annotation_at
read_by_two a b p q r t fits one two three both = grind (arith, nat_tests)

read_if : (a : Annotation) (two : Bool) → (a.operation == 12) ≡ two → IsWritable a → (before after : List ℕ) →
    annotation_at (before ++ (written a ++ after)) (length before) ≡ Ok (a, length before + length (written a))
read_if a true is fits before after =
    let o : List ℕ = written_number a.operation in
    let f : List ℕ = written_number a.first in
    let s : List ℕ = written_number a.second in
    let w : written a ≡ o ++ (f ++ s) = ap (λ (t : Bool). o ++ (f ++ (if t then s else []))) is in
    let b : List ℕ = before ++ ((o ++ (f ++ s)) ++ after) in
    let first : b ≡ before ++ (o ++ ((f ++ s) ++ after)) = ap (λ (l : List ℕ). before ++ l) (append_assoc o (f ++ s) after) in
    let second : b ≡ (before ++ o) ++ (f ++ (s ++ after)) = first ∙ sym (append_assoc before o ((f ++ s) ++ after)) ∙ ap (λ (l : List ℕ). (before ++ o) ++ l) (append_assoc f s after) in
    let third : b ≡ ((before ++ o) ++ f) ++ (s ++ after) = second ∙ sym (append_assoc (before ++ o) f (s ++ after)) in
    let p = length before in
    let one = next_read a.operation p (p + length o) b before o ((f ++ s) ++ after) (number_read a.operation (let h = fits.known in omega (arith, h))) first refl refl in
    let two = next_read a.first (p + length o) (p + length o + length f) b (before ++ o) f (s ++ after) (number_read a.first fits.first) second (sym (length-append before o)) refl in
    let three = next_read a.second (p + length o + length f) (p + length o + length f + length s) b ((before ++ o) ++ f) s after (number_read a.second fits.second) third
    (let l = length-append (before ++ o) f in let m = length-append before o in omega (arith, l, m)) refl in
    let size : p + length o + length f + length s ≡ p + length (o ++ (f ++ s)) = (let l = length-append o (f ++ s) in let m = length-append f s in omega (arith, l, m)) in
    subst (λ (l : List ℕ). annotation_at (before ++ (l ++ after)) p ≡ Ok (a, p + length l)) (sym w)
    (read_by_two a b p (p + length o) (p + length o + length f) (p + length o + length f + length s) fits one two three is ∙ ap (λ (n : ℕ). Ok (a, n)) size)
read_if a false is fits before after =
    let o : List ℕ = written_number a.operation in
    let f : List ℕ = written_number a.first in
    let w : written a ≡ o ++ (f ++ []) = ap (λ (t : Bool). o ++ (f ++ (if t then written_number a.second else []))) is in
    let b : List ℕ = before ++ ((o ++ (f ++ [])) ++ after) in
    let first : b ≡ before ++ (o ++ ((f ++ []) ++ after)) = ap (λ (l : List ℕ). before ++ l) (append_assoc o (f ++ []) after) in
    let second : b ≡ (before ++ o) ++ (f ++ ([] ++ after)) = first ∙ sym (append_assoc before o ((f ++ []) ++ after)) ∙ ap (λ (l : List ℕ). (before ++ o) ++ l) (append_assoc f [] after) in
    let p = length before in
    let one = next_read a.operation p (p + length o) b before o ((f ++ []) ++ after) (number_read a.operation (let h = fits.known in omega (arith, h))) first refl refl in
    let two = next_read a.first (p + length o) (p + length o + length f) b (before ++ o) f ([] ++ after) (number_read a.first fits.first) second (sym (length-append before o)) refl in
    let size : p + length o + length f ≡ p + length (o ++ (f ++ [])) = (let l = length-append o (f ++ []) in let m = length-append f [] in omega (arith, l, m)) in
    let none : a.second ≡ 0 = fits.alone (λ e. absurd (let h : (a.operation == 12) ≡ true = grind (arith, nat_tests) in let both : true ≡ false = sym h ∙ is in cc both)) in
    subst (λ (l : List ℕ). annotation_at (before ++ (l ++ after)) p ≡ Ok (a, p + length l)) (sym w)
    (read_by a b p (p + length o) (p + length o + length f) fits one two none is ∙ ap (λ (n : ℕ). Ok (a, n)) size)

pub annotation_read : (a : Annotation) → IsWritable a → (before after : List ℕ) → annotation_at (before ++ (written a ++ after)) (length before) ≡ Ok (a, length before + length (written a))
annotation_read a fits before after = read_if a (a.operation == 12) refl fits before after

-- ---- many

-- what is read of bytes that end others
abbrev Ends : List ℕ → List (Result Annotation PdbRefusal) → Type 0
Ends tail items = (before : List ℕ) → annotations (before ++ tail) (length before) ≡ items

ends_here : Ends [] []
ends_here = grind (arith, length-append, items_none)

read_zero : (b : List ℕ) (p q : ℕ) → number_at b p ≡ Ok (0, q) → annotation_at b p ≡ Ok (end_of_annotations, length b)
unfolding annotation_at
read_zero b p q is = rw is refl

ends_by_zero : (after : List ℕ) → Ends (0 ∷ after) (Ok end_of_annotations ∷ [])
ends_by_zero after before =
    let b : List ℕ = before ++ (0 ∷ after) in
    let p = length before in
    let last : Result Annotation PdbRefusal = Ok end_of_annotations in
    let size : length b ≡ p + (length after + 1) = (let l = length-append before (0 ∷ after) in omega (arith, l)) in
    let number : number_at b p ≡ Ok (0, p + 1) = one_byte b p 0 (start_byte before (0 ∷ after) 0 refl) (omega arith) (omega (arith, size)) in
    let is = read_zero b p (p + 1) number in
    annotations_more b p end_of_annotations (length b) (omega (arith, size)) is
    ∙ ap (λ (l : List (Result Annotation PdbRefusal)). last ∷ l) (items_none (annotation_at b) (length b) (length b) (omega arith))

read_then : (tail : List ℕ) (items : List (Result Annotation PdbRefusal)) → Ends tail items → (xs : List Annotation) → All IsWritable xs → (before : List ℕ) →
    annotations (before ++ (written_all xs ++ tail)) (length before) ≡ all_read xs ++ items
read_then tail items ends [] fits before = ends before
read_then tail items ends (a ∷ more) fits before =
    let first : Result Annotation PdbRefusal = Ok a in
    let w : List ℕ = written a in
    let rest : List ℕ = written_all more in
    let b : List ℕ = before ++ ((w ++ rest) ++ tail) in
    let p = length before in
    let one : b ≡ before ++ (w ++ (rest ++ tail)) = ap (λ (l : List ℕ). before ++ l) (append_assoc w rest tail) in
    let two : b ≡ (before ++ w) ++ (rest ++ tail) = one ∙ sym (append_assoc before w (rest ++ tail)) in
    let is : annotation_at b p ≡ Ok (a, p + length w) =
    ap (λ (l : List ℕ). annotation_at l p) one ∙ annotation_read a (All-head IsWritable a more fits) before (rest ++ tail) in
    let later : p < p + length w = annotations_later b p (a, p + length w) is in
    let size : length b ≡ p + length w + length (rest ++ tail) = (let l = length-append (before ++ w) (rest ++ tail) in let m = length-append before w in let n = ap length two in omega (arith, l, m, n)) in
    let next : length (before ++ w) ≡ p + length w = length-append before w in
    annotations_more b p a (p + length w) (omega (arith, later, size)) is
    ∙ ap (λ (l : List (Result Annotation PdbRefusal)). first ∷ l)
    (ap (λ (l : List ℕ). annotations l (p + length w)) two ∙ ap (λ (n : ℕ). annotations ((before ++ w) ++ (rest ++ tail)) n) (sym next)
    ∙ read_then tail items ends more (All-tail IsWritable a more fits) (before ++ w))

pub list_read : (xs : List Annotation) → All IsWritable xs → (before : List ℕ) → annotations (before ++ written_all xs) (length before) ≡ all_read xs
list_read xs fits before =
    ap (λ (l : List ℕ). annotations (before ++ l) (length before)) (sym (append-nil (written_all xs))) ∙ read_then [] [] ends_here xs fits before ∙ append-nil (all_read xs)

pub padded_read : (xs : List Annotation) → All IsWritable xs → (before after : List ℕ) →
    annotations (before ++ (written_all xs ++ (0 ∷ after))) (length before) ≡ all_read xs ++ (Ok end_of_annotations ∷ [])
padded_read xs fits before after = read_then (0 ∷ after) (Ok end_of_annotations ∷ []) (ends_by_zero after) xs fits before
