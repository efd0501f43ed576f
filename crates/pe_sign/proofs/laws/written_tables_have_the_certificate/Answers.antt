use Rattle.std.proofs.Common.{◌≡◌, ℕ, ◌+◌, ◌%◌, ◌<◌, ◌≤◌, Bool, true, false, List, length, get_or, take, Ok, refl, ap, sym, ◌∙◌, subst, arith, rules}
use Rattle.pe_sign.proofs.Cited.{if◌then◌else◌, nat_tests, places, ext_get_or, get_or-append-add, range, HeaderView, StandAt}
use Rattle.pe_sign.proofs.Cited.{bytes_in, rounded_up, is_signed, unsigned_length, padded, kept_length, table_start, entry_to}
use Rattle.pe_sign.proofs.Cited.{joined_file, attached_file, attached_of, Fits, left_out_of, Placement, After, InPlace, LeftOut}
use Rattle.pe_core.proofs.Ranges.{length_range, byte_of_range}
use Rattle.pe_sign.specs.WrittenTables.{TableIs, TableContinues}
use Rattle.pe_sign.proofs.Digests.{agree_fields, holds_joined, holds_unsigned, past_fields}
use Rattle.pe_sign.proofs.Entries.{image_at, tests_at}
use Rattle.pe_sign.proofs.Splices.{length-padded}
use Rattle.pe_sign.proofs.Tests.{passed}
use Rattle.pe_sign.proofs.WrittenHeaders.{front_same, take_same}
use Rattle.pe_sign.proofs.WrittenImages.{attached_is}
use Rattle.pe_sign.proofs.Writes.{kept_holds, length-attached, length-kept}
use Rattle.pe_sign.proofs.laws.written_tables_have_the_certificate.Goals as goal

-- The certificate table of what is written.

-- ---- the bytes after the fields

after_fields : (placement : Placement) (l : LeftOut) (c b : List ℕ) → Fits l (length b) → (k : ℕ) → unsigned_length l (length b) ≤ k → get_or (attached_file placement l c b) k 0 ≡ get_or (joined_file placement l c b) k 0
after_fields placement l c b f k h =
    let j : List ℕ = joined_file placement l c b in
    (agree_fields l (entry_to (table_start placement l (length b)) (length j)) j (holds_joined placement l c b f)).same k (past_fields l (unsigned_length l (length b)) k (holds_unsigned l (length b) f) h)

padded_same : (y : List ℕ) (k : ℕ) → k < length y → get_or (padded y) k 0 ≡ get_or y k 0
unfolding padded
padded_same y k h = grind (arith, places)

-- bytes that are the same as a part are the part
stands_if : (f part : List ℕ) (p : ℕ) → p + length part ≤ length f → ((k : ℕ) → k < length part → get_or f (p + k) 0 ≡ get_or part k 0) → StandAt f p part
stands_if f part p h same = record {
  inside = h;
  here = ext_get_or 0 (range f p (length part)) part (grind (arith, places)) (λ k lt. let small : k < length part = grind (arith, places) in let byte : get_or f (p + k) 0 ≡ get_or part k 0 = same k small in grind (arith, places));
}

-- ---- the certificate

new_stands : (placement : Placement) (l : LeftOut) (c b : List ℕ) → Fits l (length b) → StandAt (attached_file placement l c b) (rounded_up (kept_length placement l (length b)) 8) c
new_stands placement l c b f =
    grind (arith, length-kept, stands_if, length-attached, after_fields, kept_holds, length-padded, get_or-append-add, padded_same)

-- ---- the table that is kept

old_stands : (l : LeftOut) (c b : List ℕ) → Fits l (length b) → unsigned_length l (length b) ≡ l.certificates.offset → l.certificates.offset + l.certificates.length ≡ length b →
    StandAt (attached_file After l c b) l.certificates.offset (bytes_in b l.certificates)
old_stands l c b f u e =
    let p : ℕ = l.certificates.offset in
    let n : ℕ = l.certificates.length in
    let count : length (range b p n) ≡ n = length_range b p n (omega arith) in
    let whole : length (take (length b) b) ≡ length b = length-kept After l b f in
    stands_if (attached_file After l c b) (range b p n) p (omega (arith, count, length-attached After l c b f))
    (λ k lt. let small : k < n = omega (arith, count) in
    after_fields After l c b f (p + k) (omega arith) ∙ front_same (take (length b) b) (padded c) (p + k) (omega (arith, whole)) ∙ take_same (length b) b (p + k) (omega arith) ∙ byte_of_range b p n k small)

-- ---- by the calls

signed_start : (s : Bool) (o n : ℕ) → s ≡ true → (if s then o else n) ≡ o
signed_start s o n h = grind arith

unsigned_start : (s : Bool) (o n : ℕ) → s ≡ false → (if s then o else n) ≡ n
unsigned_start s o n h = grind arith

aligned_at : (b : List ℕ) (h : HeaderView) (c f : List ℕ) (l : LeftOut) → left_out_of h ≡ Ok l → attached_of After b h c ≡ Ok f → l.certificates.offset % 8 ≡ 0
aligned_at b h c f l e i = grind (arith, passed, tests_at, image_at, nat_tests)

table_is : (placement : Placement) (b : List ℕ) (h : HeaderView) (c f : List ℕ) (l : LeftOut) → left_out_of h ≡ Ok l → attached_of placement b h c ≡ Ok f →
    table_start placement l (length b) ≡ rounded_up (kept_length placement l (length b)) 8 → TableIs c f (table_start placement l (length b))
table_is placement b h c f l e i at =
    let is = attached_is placement b h c f l e i in
    let p : ℕ = rounded_up (kept_length placement l (length b)) 8 in
    let stands : StandAt f p c = subst (λ (g : List ℕ). StandAt g p c) (sym is.is_file) (new_stands placement l c b is.fits) in
    let end : length f ≡ p + rounded_up (length c) 8 = ap (λ (g : List ℕ). length g) is.is_file ∙ length-attached placement l c b is.fits in
    rw at (record { aligned = omega arith; stands = stands; end = end })

table_in_place : (b : List ℕ) (h : HeaderView) (c f : List ℕ) (l : LeftOut) → left_out_of h ≡ Ok l → attached_of InPlace b h c ≡ Ok f → TableIs c f (table_start InPlace l (length b))
table_in_place b h c f l e i = table_is InPlace b h c f l e i refl

first_table : (b : List ℕ) (h : HeaderView) (c f : List ℕ) (l : LeftOut) → left_out_of h ≡ Ok l → attached_of After b h c ≡ Ok f → is_signed l ≡ false → TableIs c f (table_start After l (length b))
first_table b h c f l e i s = table_is After b h c f l e i (unsigned_start (is_signed l) l.certificates.offset (rounded_up (length b) 8) s)

table_continues : (b : List ℕ) (h : HeaderView) (c f : List ℕ) (l : LeftOut) → left_out_of h ≡ Ok l → attached_of After b h c ≡ Ok f → is_signed l ≡ true → TableContinues b c f l.certificates
table_continues b h c f l e i s =
    let is = attached_is After b h c f l e i in
    let o : ℕ = l.certificates.offset in
    let n : ℕ = l.certificates.length in
    let aligned : o % 8 ≡ 0 = aligned_at b h c f l e i in
    let last : o + n ≡ length b = is.fits.table_end s in
    let p : ℕ = rounded_up (length b) 8 in
    let at : p ≡ o + rounded_up n 8 = omega arith in
    let old : StandAt f o (bytes_in b l.certificates) = subst (λ (g : List ℕ). StandAt g o (bytes_in b l.certificates)) (sym is.is_file) (old_stands l c b is.fits (signed_start (is_signed l) o (length b) s) last) in
    let new : StandAt f p c = subst (λ (g : List ℕ). StandAt g p c) (sym is.is_file) (new_stands After l c b is.fits) in
    let end : length f ≡ p + rounded_up (length c) 8 = ap (λ (g : List ℕ). length g) is.is_file ∙ length-attached After l c b is.fits in
    record { aligned = aligned; last = sym last; stays = old; stands = rw at at new; end = omega (arith, end) }

pub returns : goal.returns
returns c = search (rules, arith, table_in_place, first_table, table_continues)
