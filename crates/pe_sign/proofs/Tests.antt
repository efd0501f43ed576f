-- Tests before a value.
use Rattle.std.proofs.Common.{◌≡◌, ℕ, ◌+◌, ◌≤◌, ◌==◌, ◌||◌, Bool, true, List, [], ◌∷◌, ◌++◌, length, drop, Result, Ok, Err, refl, ap, ◌∙◌, arith}
use Rattle.pe_sign.proofs.Cited.{not, nat_le, nat_lt, if◌then◌else◌, nat_tests, le, fit_at, Refusal, WriteFit, outcome, ◌>>=◌}
use Rattle.pe_sign.proofs.Cited.{rounded_up, sections_offset, HeaderView, is_signed, unsigned_length, kept_length, headers_end_by}
use Rattle.pe_sign.proofs.Cited.{sections_end_by, layout_tests, changeable_parts, attach_tests, is_aligned, attached_of}
use Rattle.pe_sign.proofs.Cited.{attached_file, detached_of, detached_file, length_of, written, Fits, FitsWith, certified_of}
use Rattle.pe_sign.proofs.Cited.{table_tests, left_out_of, SignRefusal, Image, Section, of_image, Placement, LeftOut}

-- a test that an accepted value passed, and what came after it
pub passed : {Y R : Type 0} (t : Bool) (r : R) (rest : Result Y R) (y : Y) → (if t then rest else Err r) ≡ Ok y → (t ≡ true) × (rest ≡ Ok y)
passed t r rest y h = grind arith

-- all tests passed: the value is the accepted one, and any other value would be accepted too
pub value_is : {Y R : Type 0} (tests : List (Bool × R)) (x y : Y) → outcome tests x ≡ Ok y → x ≡ y
value_is [] x y h = cc
value_is (test ∷ tests) x y h = value_is tests x y (passed test.0 test.1 (outcome tests x) y h).1

pub other_value : {Y Z : Type 0} (tests : List (Bool × SignRefusal)) (x y : Y) (z : Z) → outcome tests x ≡ Ok y → outcome tests z ≡ Ok z
other_value [] x y z h = refl
other_value (test ∷ tests) x y z h =
    let p : (test.0 ≡ true) × (outcome tests x ≡ Ok y) = passed test.0 test.1 (outcome tests x) y h in
    rw p.0 (other_value tests x y z p.1)

pub other_refused : {Y Z : Type 0} (tests : List (Bool × SignRefusal)) (y : Y) (z : Z) (r : SignRefusal) → outcome tests y ≡ Err r → outcome tests z ≡ Err r
other_refused [] y z r h = absurd cc
other_refused (test ∷ tests) y z r h = grind (arith, other_refused tests y z r)

-- ---- an image whose certificates can be changed

-- the length of the checksum's field, of parts
abbrev pub size_or : {R : Type 0} → Result LeftOut R → ℕ
size_or (Ok l) = l.checksum.length
size_or (Err r) = 4

-- what is accepted before tests, and by them
first_and_tests : (r : Result LeftOut Refusal) (tests : LeftOut → List (Bool × SignRefusal)) (l : LeftOut) →
    (of_image r >>= λ k. outcome (tests k) k) ≡ Ok l → (r ≡ Ok l) × (outcome (tests l) l ≡ Ok l)
first_and_tests r tests l h = grind (arith, value_is)

-- the parts of an image that passes its tests are those of its header
pub parts_of_image : (b : List ℕ) (h : HeaderView) (l : LeftOut) → changeable_parts b h ≡ Ok l → (left_out_of h ≡ Ok l) × (outcome (layout_tests b h l) l ≡ Ok l)
parts_of_image b h l e = first_and_tests (left_out_of h) (layout_tests b h) l e

implied : (s t : Bool) → (not s || t) ≡ true → s ≡ true → t ≡ true
implied s t h i = grind arith

pub image_fits : (b : List ℕ) (h : HeaderView) (l : LeftOut) → changeable_parts b h ≡ Ok l → Fits l (length b)
image_fits b h l e =
    let n : ℕ = length b in
    let end : ℕ = l.certificates.offset + l.certificates.length in
    let both : (left_out_of h ≡ Ok l) × (outcome (layout_tests b h l) l ≡ Ok l) = parts_of_image b h l e in
    let one = passed (l.directory_entry.length == 8) _ _ l both.1 in
    let two = passed (nat_le end n) _ _ l one.1 in
    let three = passed (not (is_signed l) || nat_le n end) _ _ l two.1 in
    let four = passed (headers_end_by h l (unsigned_length l n)) _ _ l three.1 in
    let within : end ≤ n = grind (arith, nat_tests, two.0) in
    record {
      checksum_size = grind (arith, both.0);
      entry_size = grind (arith, nat_tests, one.0);
      checksum = grind (arith, nat_tests, four.0);
      entry = grind (arith, nat_tests, four.0);
      inside = grind arith;
      table_end = λ s. let t = implied (is_signed l) (nat_le n end) three.0 s in grind (arith, nat_tests, t, within);
    }

-- headers and sections of such an image end before its certificates
pub layout_passed : (b : List ℕ) (h : HeaderView) (l : LeftOut) → changeable_parts b h ≡ Ok l → (headers_end_by h l (unsigned_length l (length b)) ≡ true) × (sections_end_by b h (unsigned_length l (length b)) ≡ true)
layout_passed b h l e =
    let n : ℕ = length b in
    let end : ℕ = l.certificates.offset + l.certificates.length in
    let one = passed (l.directory_entry.length == 8) _ _ l (parts_of_image b h l e).1 in
    let two = passed (nat_le end n) _ _ l one.1 in
    let three = passed (not (is_signed l) || nat_le n end) _ _ l two.1 in
    let four = passed (headers_end_by h l (unsigned_length l n)) _ _ l three.1 in
    (four.0, (passed (sections_end_by b h (unsigned_length l n)) _ _ l four.1).0)

pub headers_before : (b : List ℕ) (h : HeaderView) (l : LeftOut) → changeable_parts b h ≡ Ok l → sections_offset h ≤ unsigned_length l (length b)
headers_before b h l e = let passes : headers_end_by h l (unsigned_length l (length b)) ≡ true = (layout_passed b h l e).0 in grind (arith, nat_tests)

-- ---- a certificate that can be attached

certified_parts : (x : Result LeftOut SignRefusal) (tests : LeftOut → List (Bool × SignRefusal)) (l : LeftOut) →
    (x >>= λ k. outcome (tests k) k) ≡ Ok l → (x ≡ Ok l) × (outcome (tests l) l ≡ Ok l)
certified_parts x tests l h = grind (arith, value_is)

pub certified_fits : (placement : Placement) (b : List ℕ) (h : HeaderView) (c : List ℕ) (l : LeftOut) → certified_of placement b h c ≡ Ok l → FitsWith placement l (length b) (length c)
certified_fits placement b h c l e =
    let both = certified_parts (changeable_parts b h) (λ k. attach_tests placement k c (length b)) l e in
    let one = passed (is_aligned placement l) _ _ l both.1 in
    let two = passed (nat_le 8 (length c)) _ _ l one.1 in
    let three = passed (nat_le (le c 0 4) (length c)) _ _ l two.1 in
    let four = passed (nat_lt (rounded_up (kept_length placement l (length b)) 8 + rounded_up (length c) 8) 4294967296) _ _ l three.1 in
    record { image = image_fits b h l both.0; small = grind (arith, nat_tests, four.0) }

-- ---- a file is written as its parts are accepted or refused

pub attached_value : (placement : Placement) (b : List ℕ) (h : HeaderView) (c : List ℕ) (l : LeftOut) → certified_of placement b h c ≡ Ok l → attached_of placement b h c ≡ Ok (attached_file placement l c b)
attached_value placement b h c l e = grind (arith, other_value, value_is)

pub attached_refused : (placement : Placement) (b : List ℕ) (h : HeaderView) (c : List ℕ) (r : SignRefusal) → certified_of placement b h c ≡ Err r → attached_of placement b h c ≡ Err r
attached_refused placement b h c r e = grind (arith, other_refused)

pub detached_value : (b : List ℕ) (h : HeaderView) (l : LeftOut) → changeable_parts b h ≡ Ok l → detached_of b h ≡ Ok (detached_file l b)
detached_value b h l e = ap (λ (x : Result LeftOut SignRefusal). x >>= λ k. Ok (detached_file k b)) e

-- ---- a file and a buffer

pub length_refused : (file : Result (List ℕ) SignRefusal) (r : SignRefusal) → file ≡ Err r → length_of file ≡ Err r
length_refused file r e = ap (λ (x : Result (List ℕ) SignRefusal). length_of x) e

pub length_value : (file : Result (List ℕ) SignRefusal) (f : List ℕ) (n : ℕ) → file ≡ Ok f → length f ≡ n → length_of file ≡ Ok n
length_value file f n e same = ap (λ (x : Result (List ℕ) SignRefusal). length_of x) e ∙ ap (λ k. Ok k) same

pub written_refused : (file : Result (List ℕ) SignRefusal) (old : List ℕ) (r : SignRefusal) → file ≡ Err r → written file old ≡ Err r
written_refused file old r e = ap (λ (x : Result (List ℕ) SignRefusal). written x old) e

fit_of : (f old : List ℕ) (n : ℕ) (r : Result (Unit {0}) Refusal) → length f ≡ n → fit_at old 0 n ≡ r → outcome ((nat_le (length f) (length old), WriteFit) ∷ []) tt ≡ r
fit_of f old n r same h = let start : 0 + n ≡ length f = omega (arith, same) in rw start at h

pub written_short : (file : Result (List ℕ) SignRefusal) (f old : List ℕ) (n : ℕ) (r : Refusal) → file ≡ Ok f → length f ≡ n → fit_at old 0 n ≡ Err r → written file old ≡ Err (Image r)
written_short file f old n r e same h = grind (arith, fit_of)

pub written_done : (file : Result (List ℕ) SignRefusal) (f old : List ℕ) (n : ℕ) (u : Unit {0}) → file ≡ Ok f → length f ≡ n → fit_at old 0 n ≡ Ok u → written file old ≡ Ok (length f, f ++ drop (length f) old)
written_done file f old n u e same h = grind (arith, fit_of)

-- ---- the tests of an image, in two parts

pub section_refused : (b : List ℕ) (h : HeaderView) (l : LeftOut) (u : Unit {0}) (end : ℕ) (r : SignRefusal) → left_out_of h ≡ Ok l →
    outcome {Y = Unit {0}} (table_tests l (length b)) tt ≡ Ok u → end ≡ unsigned_length l (length b) → headers_end_by h l end ≡ true →
    outcome {Y = Unit {0}} ((sections_end_by b h end, Section) ∷ []) tt ≡ Err r → changeable_parts b h ≡ Err r
section_refused b h l u end r e table at headers sections = grind (arith, other_refused, passed)
