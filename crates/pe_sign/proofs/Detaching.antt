-- Fields that are written over others, and read again.
use Rattle.std.proofs.Common.{◌≡◌, ℕ, ◌+◌, ◌-◌, ◌^◌, ◌<◌, ◌≤◌, ◌==◌, ◌&&◌, Bool, true, List, length, Ok, take, refl, ap, sym, ◌∙◌, subst, arith}
use Rattle.pe_sign.proofs.Cited.{not, if◌then◌else◌, nat_tests, length-take-le, le, bytes_of, holds, put, splice, absent_directory}
use Rattle.pe_sign.proofs.Cited.{HeaderView, DataDirectory, is_signed, unsigned_length, unsigned_file, table_start, entry_to}
use Rattle.pe_sign.proofs.Cited.{with_entry, with_checksum, with_both_fields, joined_file, attached_file, attached_of}
use Rattle.pe_sign.proofs.Cited.{detached_file, detached_of, with_table, before_table, Fits, checksum_of, is_in, left_out_of}
use Rattle.pe_sign.proofs.Cited.{Placement, LeftOut, get_or-splice, length-splice, length-bytes_of}
use Rattle.pe_core.proofs.PutNumbers.{le-put}
use Rattle.pe_sign.proofs.Agreement.{Agree, agree_take, agree_splice, agree_more, in_field, splice_same, sum_same, cond_same}
use Rattle.pe_sign.proofs.Digests.{Holds, in_fields, agree_fields, front_of, holds_joined, holds_more, holds_unsigned, start_inside}
use Rattle.pe_sign.proofs.WrittenImages.{attached_is, detached_is}
use Rattle.pe_sign.proofs.Writes.{length-entry}

-- ---- the checksum of what is written is its field

pub read_again : (b : List ℕ) (p n : ℕ) → p + 4 ≤ length b → n < 256 ^ 4 → le (splice b p (bytes_of 4 n)) p 4 ≡ n
read_again b p n h small =
    let fits : holds b p (length (bytes_of 4 n)) ≡ true = rw (length-bytes_of 4 n) (grind (arith, nat_tests)) in
    let same : put b p (bytes_of 4 n) ≡ splice b p (bytes_of 4 n) = rw fits refl in
    ap (λ (x : List ℕ). le x p 4) (sym same) ∙ le-put b p 4 n h small

pub field_is_sum : (l : LeftOut) (b : List ℕ) → l.checksum.offset + 4 ≤ length b → le (with_checksum l b) l.checksum.offset 4 ≡ checksum_of (with_checksum l b) l.checksum.offset
unfolding with_checksum checksum_of
field_is_sum l b h =
    let p : ℕ = l.checksum.offset in
    let n : ℕ = checksum_of b p in
    let x : List ℕ = bytes_of 4 n in
    let agree : Agree (in_field p) (splice b p x) b = agree_splice (in_field p) b p x (omega (arith, length-bytes_of 4 n)) (λ k i. rw (length-bytes_of 4 n) i) in
    read_again b p n h (omega arith) ∙ sym (sum_same p (splice b p x) b agree)

-- ---- fields over files that differ in them alone

entry_same : (l : LeftOut) (row : DataDirectory) (x y : List ℕ) → Holds l (length x) → Agree (in_fields l) x y → Agree (is_in l.checksum) (with_entry l row x) (with_entry l row y)
unfolding with_entry
entry_same l row x y h a = grind (arith, length-bytes_of, length-splice, in_fields, get_or-splice, cond_same, nat_tests)

checksum_same : (l : LeftOut) (x y : List ℕ) → l.checksum.length ≡ 4 → l.checksum.offset + 4 ≤ length x → Agree (is_in l.checksum) x y → with_checksum l x ≡ with_checksum l y
unfolding with_checksum
checksum_same l x y e h a = grind (arith, in_field, agree_more, sum_same, splice_same, length-bytes_of)

pub fields_same : (l : LeftOut) (row : DataDirectory) (x y : List ℕ) → Holds l (length x) → Agree (in_fields l) x y → with_both_fields l row x ≡ with_both_fields l row y
fields_same l row x y h a = grind (arith, checksum_same, length-entry, entry_same)

-- ---- what was attached is detached

pub is_table : (start end : ℕ) → 0 < start → not (start == 0 && end - start == 0) ≡ true
is_table start end h = grind (arith, nat_tests)

pub start_holds : (placement : Placement) (l : LeftOut) (n : ℕ) → Fits l n → unsigned_length l n ≤ table_start placement l n
start_holds placement l n f = grind arith

pub holds_start : (placement : Placement) (l : LeftOut) (b : List ℕ) → Fits l (length b) → Holds l (table_start placement l (length b))
holds_start placement l b f = holds_more l (unsigned_length l (length b)) (table_start placement l (length b)) (holds_unsigned l (length b) f) (start_holds placement l (length b) f)

pub detached_again : (placement : Placement) (l : LeftOut) (c b : List ℕ) → Fits l (length b) →
    detached_file (with_table l (table_start placement l (length b)) (length (attached_file placement l c b))) (attached_file placement l c b) ≡ with_both_fields l absent_directory (before_table placement l b)
unfolding with_entry with_checksum
detached_again placement l c b fits =
    let start : ℕ = table_start placement l (length b) in
    let j : List ℕ = joined_file placement l c b in
    let f : List ℕ = attached_file placement l c b in
    let agree : Agree (in_fields l) f j = agree_fields l (entry_to start (length j)) j (holds_joined placement l c b fits) in
    let inside : start ≤ length f = omega (arith, start_inside placement l c b fits, agree.count) in
    let holds : Holds l start = holds_start placement l b fits in
    let some : is_signed (with_table l start (length f)) ≡ true = is_table start (length f) (omega (arith, holds.checksum)) in
    let cut : length (take start f) ≡ start = length-take-le start f inside in
    refl
    ∙ ap (λ (t : Bool). with_both_fields l absent_directory (take (if t then start else length f) f)) some
    ∙ fields_same l absent_directory (take start f) (take start j) (holds_more l start (length (take start f)) holds (omega (arith, cut))) (agree_take (in_fields l) f j start inside agree)
    ∙ ap (λ (x : List ℕ). with_both_fields l absent_directory x) (front_of placement l c b fits)

-- ---- the same by the calls

pub attached_sum : (placement : Placement) (b : List ℕ) (h : HeaderView) (c f : List ℕ) (l : LeftOut) → left_out_of h ≡ Ok l → attached_of placement b h c ≡ Ok f → le f l.checksum.offset 4 ≡ checksum_of f l.checksum.offset
attached_sum placement b h c f l e i =
    let is = attached_is placement b h c f l e i in
    let j : List ℕ = joined_file placement l c b in
    let x : List ℕ = with_entry l (entry_to (table_start placement l (length b)) (length j)) j in
    let holds : Holds l (length j) = holds_joined placement l c b is.fits in
    let size : length x ≡ length j = length-entry l (entry_to (table_start placement l (length b)) (length j)) j holds.entry in
    subst (λ (g : List ℕ). le g l.checksum.offset 4 ≡ checksum_of g l.checksum.offset) (sym is.is_file) (field_is_sum l x (omega (arith, size, holds.checksum)))

pub detached_sum : (b : List ℕ) (h : HeaderView) (f : List ℕ) (l : LeftOut) → left_out_of h ≡ Ok l → detached_of b h ≡ Ok f → le f l.checksum.offset 4 ≡ checksum_of f l.checksum.offset
detached_sum b h f l e i =
    let is = detached_is b h f l e i in
    let j : List ℕ = unsigned_file l b in
    let x : List ℕ = with_entry l absent_directory j in
    let cut : length j ≡ unsigned_length l (length b) = length-take-le (unsigned_length l (length b)) b is.fits.inside in
    let size : length x ≡ length j = length-entry l absent_directory j (omega (arith, cut, is.fits.entry)) in
    subst (λ (g : List ℕ). le g l.checksum.offset 4 ≡ checksum_of g l.checksum.offset) (sym is.is_file) (field_is_sum l x (omega (arith, size, cut, is.fits.checksum)))

pub detached_again_of : (placement : Placement) (b : List ℕ) (h k : HeaderView) (c f g : List ℕ) (l : LeftOut) → left_out_of h ≡ Ok l → attached_of placement b h c ≡ Ok f →
    left_out_of k ≡ Ok (with_table l (table_start placement l (length b)) (length f)) → detached_of f k ≡ Ok g → g ≡ with_both_fields l absent_directory (before_table placement l b)
detached_again_of placement b h k c f g l e i m d =
    let s : ℕ = table_start placement l (length b) in
    let is = attached_is placement b h c f l e i in
    let by = detached_is f k g (with_table l s (length f)) m d in
    by.is_file ∙ ap (λ (x : List ℕ). detached_file (with_table l s (length x)) x) is.is_file ∙ detached_again placement l c b is.fits
