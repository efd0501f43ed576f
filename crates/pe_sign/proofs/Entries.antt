-- The entry of the certificate directory is read again where it was written.
use Rattle.std.proofs.Common.{◌≡◌, ℕ, ◌+◌, ◌^◌, ◌<◌, ◌≤◌, Bool, List, length, Result, Ok, Err, ap, sym, ◌∙◌, subst, arith}
use Rattle.pe_sign.proofs.Cited.{nat_tests, le, bytes_of, splice, HeaderView, outcome, ◌>>=◌, DataDirectory, changeable_parts}
use Rattle.pe_sign.proofs.Cited.{attach_tests, table_start, entry_to, with_entry, with_checksum, with_both_fields, joined_file}
use Rattle.pe_sign.proofs.Cited.{attached_file, attached_of, FitsWith, left_out_of, SignRefusal, Placement, LeftOut, le-same}
use Rattle.pe_sign.proofs.Cited.{get_or-splice, length-splice, length-bytes_of}
use Rattle.pe_sign.proofs.Detaching.{read_again}
use Rattle.pe_sign.proofs.Digests.{Holds, holds_joined, start_inside}
use Rattle.pe_sign.proofs.Tests.{other_value, certified_fits}
use Rattle.pe_sign.proofs.WrittenImages.{attached_is, file_at, same_parts}
use Rattle.pe_sign.proofs.Writes.{length-entry, length-joined_file, length-attached}

-- a number before, or after, the four bytes that are written
le_before : (b : List ℕ) (p q m : ℕ) → p + 4 ≤ length b → q + 4 ≤ p → le (splice b p (bytes_of 4 m)) q 4 ≡ le b q 4
le_before b p q m h i = grind (arith, le-same, get_or-splice, length-bytes_of, nat_tests)

le_after : (b : List ℕ) (p q m : ℕ) → p + 4 ≤ length b → p + 4 ≤ q → le (splice b p (bytes_of 4 m)) q 4 ≡ le b q 4
le_after b p q m h i = grind (arith, le-same, get_or-splice, length-bytes_of, nat_tests)

-- what an entry of these two numbers reads
pub record Reads (b : List ℕ) (p : ℕ) (entry : DataDirectory) : Type 0 where
  pub offset : le b p 4 ≡ entry.virtual_address
  pub size : le b (p + 4) 4 ≡ entry.size

pub reads_fields : (l : LeftOut) (row : DataDirectory) (b : List ℕ) → Holds l (length b) → l.checksum.offset + 4 ≤ l.directory_entry.offset → row.virtual_address < 256 ^ 4 → row.size < 256 ^ 4 →
    Reads (with_both_fields l row b) l.directory_entry.offset row
unfolding with_checksum with_entry
reads_fields l row b h apart i j = grind (arith, length-entry, length-splice, length-bytes_of, le_before, read_again, le_after)

abbrev pub IsApart : {R : Type 0} → Result LeftOut R → Type 0
IsApart (Ok l) = l.directory_entry.length ≡ 8 → l.checksum.offset + 4 ≤ l.directory_entry.offset
IsApart (Err r) = Unit {0}

pub apart_of : (h : HeaderView) (l : LeftOut) → left_out_of h ≡ Ok l → l.directory_entry.length ≡ 8 → l.checksum.offset + 4 ≤ l.directory_entry.offset
apart_of h l e i = grind arith

-- such an image passed the tests of attaching
pub tests_at : (placement : Placement) (b : List ℕ) (h : HeaderView) (c f : List ℕ) (l : LeftOut) → changeable_parts b h ≡ Ok l → attached_of placement b h c ≡ Ok f → outcome (attach_tests placement l c (length b)) (attached_file placement l c b) ≡ Ok f
tests_at placement b h c f l e i = subst (λ (x : Result LeftOut SignRefusal). (x >>= λ k. outcome (attach_tests placement k c (length b)) (attached_file placement k c b)) ≡ Ok f) e i

certified_at : (placement : Placement) (b : List ℕ) (h : HeaderView) (c f : List ℕ) (l : LeftOut) → changeable_parts b h ≡ Ok l → attached_of placement b h c ≡ Ok f → FitsWith placement l (length b) (length c)
certified_at placement b h c f l e i =
    let tests : LeftOut → List (Bool × SignRefusal) = λ k. attach_tests placement k c (length b) in
    let after : outcome (tests l) (attached_file placement l c b) ≡ Ok f = tests_at placement b h c f l e i in
    certified_fits placement b h c l (ap (λ (x : Result LeftOut SignRefusal). x >>= λ k. outcome (tests k) k) e ∙ other_value (tests l) (attached_file placement l c b) f l after)

pub image_at : (placement : Placement) (b : List ℕ) (h : HeaderView) (c f : List ℕ) (l : LeftOut) → left_out_of h ≡ Ok l → attached_of placement b h c ≡ Ok f → changeable_parts b h ≡ Ok l
image_at placement b h c f l e i = grind (arith, file_at, same_parts)

pub attached_entry : (placement : Placement) (b : List ℕ) (h : HeaderView) (c f : List ℕ) (l : LeftOut) → left_out_of h ≡ Ok l → attached_of placement b h c ≡ Ok f →
    Reads f l.directory_entry.offset (entry_to (table_start placement l (length b)) (length f))
attached_entry placement b h c f l e i =
    let is = attached_is placement b h c f l e i in
    let start : ℕ = table_start placement l (length b) in
    let j : List ℕ = joined_file placement l c b in
    let fits : FitsWith placement l (length b) (length c) = certified_at placement b h c f l (image_at placement b h c f l e i) i in
    let size : length j < 256 ^ 4 = omega (arith, length-joined_file placement l c b is.fits, fits.small) in
    let inside : start ≤ length j = start_inside placement l c b is.fits in
    let r : Reads (attached_file placement l c b) l.directory_entry.offset (entry_to start (length j)) =
    reads_fields l (entry_to start (length j)) j (holds_joined placement l c b is.fits) (apart_of h l e is.fits.entry_size) (omega (arith, size, inside)) (omega (arith, size)) in
    let total : length f ≡ length j = ap (λ (x : List ℕ). length x) is.is_file ∙ length-attached placement l c b is.fits ∙ sym (length-joined_file placement l c b is.fits) in
    subst (λ (x : List ℕ). Reads x l.directory_entry.offset (entry_to start (length f))) (sym is.is_file) (subst (λ (n : ℕ). Reads (attached_file placement l c b) l.directory_entry.offset (entry_to start n)) (sym total) r)
