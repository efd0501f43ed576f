-- The headers of an image are those that are read of what `pe_c_headers` returns.
use Rattle.std.proofs.Common.{◌≡◌, ℕ, zero, suc, ◌+◌, ◌-◌, ◌<◌, ◌≤◌, Bool, true, List, [], ◌∷◌, length, map, take, Option, Some, None, Ok, refl, sym, ap, ◌∙◌, arith}
use Rattle.pe_c.proofs.Cited.{◌*◌, slice_index_or, slice_range, if◌then◌else◌, flat_map, range_with_len, nat_tests, get_or_past}
use Rattle.pe_c.proofs.Cited.{places, same_lists, length-each, bytes_of-le, range_join, byte_of_range, inside_if_held, length_range}
use Rattle.pe_c.proofs.Cited.{AreBytes, bytes_of, holds, le, range, absent_directory, present, HeaderView, OptionalHeaderView}
use Rattle.pe_c.proofs.Cited.{header, header_at, header_tests, optional_header, dos_header, DataDirectory, ParseMode, ParseOptions}
use Rattle.pe_c.proofs.Cited.{dos_fields, headers_at, headers_by, headers_of, dos_numbers, header_of, mode_of, all_directories}
use Rattle.pe_c.proofs.Cited.{or_absent, mode_of_number}
use Rattle.pe_c.proofs.ImageFields.{all_passed, same_mode}

-- ---- what is accepted

-- the headers are those of the bytes, of which the first 64 are there, and those of the PE signature
accepted : (b : List ℕ) (mode : ParseMode) (h : HeaderView) → header_at b mode ≡ Ok h → (holds b 0 64 ≡ true) × (holds b (dos_header b 0).pe_pointer 4 ≡ true) × (header b ≡ h)
unfolding header_at header_tests
accepted b mode h e = grind (arith, all_passed)

-- ---- the DOS header and its stub

same_stub : (b : List ℕ) (p : ℕ) → p ≤ length b → range b 64 (length (slice_range b 64 p)) ≡ slice_range b 64 p
same_stub b p h = same_lists _ _ (grind (arith, places)) (λ j d lt. grind (arith, places))

stub_is : (b : List ℕ) (mode : ParseMode) (h : HeaderView) → header_at b mode ≡ Ok h → range b 64 (length h.dos_stub) ≡ h.dos_stub
unfolding header
stub_is b mode h e = grind (arith, accepted, inside_if_held, same_stub)

bytes_within : (b : List ℕ) (p n : ℕ) → AreBytes b → p + n ≤ length b → AreBytes (range b p n)
bytes_within b p n bytes h = grind (arith, nat_tests, byte_of_range, get_or_past, length_range)

-- so many numbers of 16 bits from p on, one after the other
abbrev words : List ℕ → ℕ → ℕ → List ℕ
words r p zero = []
words r p (suc n) = le r p 2 ∷ words r (p + 2) n

-- their bytes are those that stand there
words_are : (r : List ℕ) (p n : ℕ) → AreBytes r → p + 2 * n ≤ length r → flat_map (bytes_of 2) (words r p n) ≡ slice_range r p (p + 2 * n)
words_are r p zero bytes h = let none : p + 2 * 0 - p ≡ 0 = omega arith in rw none refl
words_are r p (suc n) bytes h =
    let first : bytes_of 2 (le r p 2) ≡ slice_range r p (p + 2) = bytes_of-le r p 2 bytes (omega (arith, h)) in
    let others : flat_map (bytes_of 2) (words r (p + 2) n) ≡ slice_range r (p + 2) (p + 2 + 2 * n) = words_are r (p + 2) n bytes (omega (arith, h)) in
    let end : p + 2 + 2 * n ≡ p + 2 * suc n = omega arith in
    grind (arith, first, others, range_join r p (p + 2) (p + 2 + 2 * n) (omega arith) (omega arith) (omega (arith, h)), end)

all_of : (r : List ℕ) (n : ℕ) → length r ≡ n → slice_range r 0 n ≡ r
all_of r n h = same_lists _ _ (grind (arith, places)) (λ j d lt. grind (arith, places))

-- the bytes of the numbers in these bytes of a DOS header
numbers_are : (signature pointer : ℕ) (r : List ℕ) → AreBytes r → length r ≡ 58 → flat_map (bytes_of 2) (dos_numbers (dos_fields (record { signature = signature; rest = r; pe_pointer = pointer }))) ≡ r
numbers_are signature pointer r bytes h = words_are r 0 29 bytes (omega (arith, h)) ∙ all_of r 58 h

rest_by : (b : List ℕ) → AreBytes b → 64 ≤ length b → flat_map (bytes_of 2) (dos_numbers (dos_fields (dos_header b 0))) ≡ (dos_header b 0).rest
unfolding dos_header
rest_by b bytes h = numbers_are (dos_header b 0).signature (dos_header b 0).pe_pointer (range b 2 58) (bytes_within b 2 58 bytes (omega (arith, h))) (length_range b 2 58 (omega (arith, h)))

rest_is : (b : List ℕ) (mode : ParseMode) (h : HeaderView) → AreBytes b → header_at b mode ≡ Ok h → flat_map (bytes_of 2) (dos_numbers (dos_fields h.dos_header)) ≡ h.dos_header.rest
unfolding header
rest_is b mode h bytes e = grind (arith, accepted, inside_if_held, rest_by)

-- ---- the directories

rows_first : (f : ℕ → DataDirectory) (rows : List DataDirectory) (n k : ℕ) → length rows ≤ n → ((j : ℕ) → j < length rows → f (k + j) ≡ slice_index_or rows j absent_directory) → take (length rows) (map f (range_with_len k n)) ≡ rows
rows_first f [] n k few same = refl
rows_first f (x ∷ rows) zero k few same = absurd (omega (arith, few))
rows_first f (x ∷ rows) (suc n) k few same =
    let here : k + 0 ≡ k = omega arith in
    let first : f k ≡ x = ap f (sym here) ∙ same 0 (omega arith) in
    let more : take (length rows) (map f (range_with_len (k + 1) n)) ≡ rows =
    rows_first f rows n (k + 1) (omega (arith, few)) (λ j below. let at : k + 1 + j ≡ k + suc j = omega arith in ap f at ∙ same (suc j) (omega (arith, below))) in
    ap (λ (y : DataDirectory). y ∷ take (length rows) (map f (range_with_len (k + 1) n))) first ∙ ap (λ (ys : List DataDirectory). x ∷ ys) more

all_kept : (rows : List DataDirectory) → length rows ≤ 16 → take (length rows) (all_directories rows) ≡ rows
all_kept rows few =
    rows_first (λ i. or_absent (present rows i)) rows 16 0 few
    (λ j below. let at : 0 + j ≡ j = omega arith in ap (λ (i : ℕ). or_absent (present rows i)) at ∙ grind (arith, nat_tests))

few_by : (b : List ℕ) (p : ℕ) (o : OptionalHeaderView) (none : Bool) → (if none then None else Some (optional_header b p)) ≡ Some o → length o.data_directories ≤ 16
unfolding optional_header
few_by b p o none e = grind (arith, length-each)

few : (b : List ℕ) (mode : ParseMode) (h : HeaderView) (o : OptionalHeaderView) → header_at b mode ≡ Ok h → h.optional_header ≡ Some o → length o.data_directories ≤ 16
unfolding header
few b mode h o e some = grind (arith, few_by, accepted)

-- ---- all of it

read_by : (b : List ℕ) (h : HeaderView) (o : Option OptionalHeaderView) → h.optional_header ≡ o → range b 64 (length h.dos_stub) ≡ h.dos_stub → flat_map (bytes_of 2) (dos_numbers (dos_fields h.dos_header)) ≡ h.dos_header.rest → ((x : OptionalHeaderView) → o ≡ Some x → length x.data_directories ≤ 16) →
    header_of b (headers_by h o) ≡ h
read_by b h o e stub rest few = grind (arith, nat_tests, all_kept, few)

pub headers_are : (b : List ℕ) (o : ParseOptions) (h : HeaderView) → AreBytes b → header_at b o.parse_mode ≡ Ok h → (headers_at b (mode_of o) ≡ Ok (headers_of h)) × (header_of b (headers_of h) ≡ h)
headers_are b o h bytes e =
    let read : header_at b (mode_of_number (mode_of o)) ≡ Ok h = ap (header_at b) (same_mode o) ∙ e in
    (rw read refl, read_by b h h.optional_header refl (stub_is b o.parse_mode h e) (rest_is b o.parse_mode h bytes e) (λ x some. few b o.parse_mode h x e some))
