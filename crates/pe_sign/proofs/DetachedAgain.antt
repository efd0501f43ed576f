-- What is attached can be detached.
use Rattle.std.proofs.Common.{◌≡◌, ℕ, ◌+◌, ◌-◌, ◌*◌, ◌≤◌, ◌==◌, ◌||◌, Bool, true, List, [], ◌∷◌, length, Ok, refl, ap, sym, ◌∙◌, subst, arith}
use Rattle.pe_sign.proofs.Cited.{not, nat_le, Result, if◌then◌else◌, list_all, nat_tests, or_right, each_same, absent_directory}
use Rattle.pe_sign.proofs.Cited.{HeaderView, header_at, section_table, CertificateTable, Refusal, outcome, ◌>>=◌, rows}
use Rattle.pe_sign.proofs.Cited.{sections_offset, ParseMode, SectionTable, le_is, attached_of, before_table, data_ends_by}
use Rattle.pe_sign.proofs.Cited.{detached_file, detached_of, entry_to, headers_end_by, is_signed, layout_tests, sections_end_by}
use Rattle.pe_sign.proofs.Cited.{table_start, unsigned_length, with_both_fields, with_table, Fits, checksum_of, left_out_of}
use Rattle.pe_sign.proofs.Cited.{Headers, Image, NoDirectory, Section, TableNotLast, of_image, directories_end, headers_with}
use Rattle.pe_sign.proofs.Cited.{Placement, LeftOut}
use Rattle.pe_core.proofs.Equality.{both}
use Rattle.pe_sign.proofs.Detaching.{detached_again, is_table, start_holds, holds_start}
use Rattle.pe_sign.proofs.Digests.{start_inside}
use Rattle.pe_sign.proofs.Entries.{image_at}
use Rattle.pe_sign.proofs.HeadersStay.{Stays, same_range, third}
use Rattle.pe_sign.proofs.Tests.{layout_passed}
use Rattle.pe_sign.proofs.WrittenHeaders.{attached_header, attached_keeps, attached_parts, entry_ends, same_ok, stays_attached}
use Rattle.pe_sign.proofs.WrittenImages.{attached_is}
use Rattle.pe_sign.proofs.Writes.{kept_holds, length-attached, length-joined_file}

-- ---- the section table stays

section_stays : (f b : List ℕ) (c e n : ℕ) → Stays f b c e n → (p : ℕ) → e + 8 ≤ p → p + 40 ≤ n → section_table f p ≡ section_table b p
unfolding section_table
section_stays f b c e n s p h i =
    rw (
      same_range f b p (p + 8) (omega (arith, s.inside)) (omega (arith, s.inside_before)) (λ k from lt. s.after k (omega arith) (omega arith)),
      third f b c e n s (p + 8) 4 (omega arith) (omega arith),
      third f b c e n s (p + 12) 4 (omega arith) (omega arith),
      third f b c e n s (p + 16) 4 (omega arith) (omega arith),
      third f b c e n s (p + 20) 4 (omega arith) (omega arith),
      third f b c e n s (p + 24) 4 (omega arith) (omega arith),
      third f b c e n s (p + 28) 4 (omega arith) (omega arith),
      third f b c e n s (p + 32) 2 (omega arith) (omega arith),
      third f b c e n s (p + 34) 2 (omega arith) (omega arith),
      third f b c e n s (p + 36) 4 (omega arith) (omega arith),
    ) refl

sections_stay : (f b : List ℕ) (c e n : ℕ) → Stays f b c e n → (p m : ℕ) → e + 8 ≤ p → p + 40 * m ≤ n → rows (section_table f) 40 p m ≡ rows (section_table b) 40 p m
sections_stay f b c e n s p m h i = each_same (λ k. section_table f (p + 40 * k)) (λ k. section_table b (p + 40 * k)) m (λ k lt. section_stays f b c e n s (p + 40 * k) (omega arith) (omega arith))

-- ---- what ends by an offset ends by a later one

data_later : (m n : ℕ) (s : SectionTable) → m ≤ n → data_ends_by m s ≡ true → data_ends_by n s ≡ true
data_later m n s h e = grind (arith, nat_tests)

all_later : (m n : ℕ) (xs : List SectionTable) → m ≤ n → list_all (data_ends_by m) xs ≡ true → list_all (data_ends_by n) xs ≡ true
all_later m n [] h e = refl
all_later m n (x ∷ xs) h e =
    let both = both (data_ends_by m x) (list_all (data_ends_by m) xs) e in
    rw (data_later m n x h both.0, all_later m n xs h both.1) refl

-- ---- all tests pass

five_pass : (t u v w x : Bool) (l : LeftOut) (g : LeftOut → List ℕ) → t ≡ true → u ≡ true → v ≡ true → w ≡ true → x ≡ true →
    (outcome ((t, NoDirectory) ∷ (u, Image CertificateTable) ∷ (v, TableNotLast) ∷ (w, Headers) ∷ (x, Section) ∷ []) l >>= λ k. Ok (g k)) ≡ Ok (g l)
five_pass t u v w x l g h i j k m = rw (h, i, j, k, m) refl

accepted : (placement : Placement) (b : List ℕ) (h : HeaderView) (c f : List ℕ) (l : LeftOut) (sum : ℕ) → left_out_of h ≡ Ok l → attached_of placement b h c ≡ Ok f → directories_end h ≤ sections_offset h →
    detached_of f (headers_with (entry_to (table_start placement l (length b)) (length f)) sum h) ≡ Ok (detached_file (with_table l (table_start placement l (length b)) (length f)) f)
accepted placement b h c f l sum i j small =
    let is = attached_is placement b h c f l i j in
    let fits : Fits l (length b) = is.fits in
    let u : ℕ = unsigned_length l (length b) in
    let start : ℕ = table_start placement l (length b) in
    let m : LeftOut = with_table l start (length f) in
    let k : HeaderView = headers_with (entry_to start (length f)) sum h in
    let n : ℕ = h.coff_header.number_of_sections in
    let later : u ≤ start = start_holds placement l (length b) fits in
    let holds = holds_start placement l b fits in
    let total : length f ≡ _ = ap (λ (g : List ℕ). length g) is.is_file ∙ length-attached placement l c b fits ∙ sym (length-joined_file placement l c b fits) in
    let inside : start ≤ length f = omega (arith, start_inside placement l c b fits, total) in
    let cut : unsigned_length m (length f) ≡ start = ap (λ (t : Bool). if t then start else length f) (is_table start (length f) (omega (arith, holds.checksum))) in
    let passed = layout_passed b h l (image_at placement b h c f l i j) in
    let table : sections_offset h + 40 * n ≤ u = grind (arith, nat_tests, passed.0) in
    let entry : l.directory_entry.offset + 8 ≤ sections_offset h = omega (arith, entry_ends h l i fits.entry_size, small) in
    let stays : Stays f b l.checksum.offset l.directory_entry.offset u = stays_attached placement b h c f l u i j fits.entry (kept_holds placement l (length b) fits) in
    let sections : rows (section_table f) 40 (sections_offset h) n ≡ rows (section_table b) 40 (sections_offset h) n = sections_stay f b l.checksum.offset l.directory_entry.offset u stays (sections_offset h) n entry table in
    let headers : headers_end_by k m start ≡ true = grind (arith, nat_tests, passed.0) in
    let content : sections_end_by f k start ≡ true = rw sections (all_later u start (rows (section_table b) 40 (sections_offset h) n) later passed.1) in
    ap (λ (r : Result LeftOut Refusal). (of_image r >>= λ x. outcome (layout_tests f k x) x) >>= λ x. Ok (detached_file x f)) (attached_parts placement b h c f l sum i j)
    ∙ five_pass (l.directory_entry.length == 8) (nat_le (start + (length f - start)) (length f)) (not (is_signed m) || nat_le (length f) (start + (length f - start))) (headers_end_by k m (unsigned_length m (length f)))
    (sections_end_by f k (unsigned_length m (length f))) m (λ x. detached_file x f) (grind (arith, nat_tests, fits.entry_size)) (le_is (start + (length f - start)) (length f) (omega arith))
    (or_right (not (is_signed m)) (nat_le (length f) (start + (length f - start))) (le_is (length f) (start + (length f - start)) (omega arith))) (rw cut headers) (rw cut content)

pub is_detached : (mode : ParseMode) (placement : Placement) (b : List ℕ) (h k : HeaderView) (c f : List ℕ) (l : LeftOut) → header_at b mode ≡ Ok h → left_out_of h ≡ Ok l → attached_of placement b h c ≡ Ok f →
    directories_end h ≤ sections_offset h → header_at f mode ≡ Ok k → detached_of f k ≡ Ok (with_both_fields l absent_directory (before_table placement l b))
is_detached mode placement b h k c f l e i j small m =
    let is = attached_is placement b h c f l i j in
    let start : ℕ = table_start placement l (length b) in
    let sum : ℕ = checksum_of f l.checksum.offset in
    let parsed = attached_header mode placement b h c f l e i j (attached_keeps placement b h c f l i j small) in
    let same : headers_with (entry_to start (length f)) sum h ≡ k = same_ok (header_at f mode) (headers_with (entry_to start (length f)) sum h) k parsed m in
    subst (λ (x : HeaderView). detached_of f x ≡ Ok (with_both_fields l absent_directory (before_table placement l b))) same
    (accepted placement b h c f l sum i j small ∙ ap (λ (x : List ℕ). Ok (detached_file (with_table l start (length x)) x)) is.is_file ∙ ap (λ (x : List ℕ). Ok x) (detached_again placement l c b is.fits))
