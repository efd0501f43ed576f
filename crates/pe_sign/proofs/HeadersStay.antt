-- The headers of a file that differs from another one in the checksum and in one entry of the data directories.
use Rattle.std.proofs.Common.{◌≡◌, ℕ, ◌+◌, ◌*◌, ◌<◌, ◌≤◌, ◌≢◌, ◌==◌, ◌||◌, Bool, true, false, List, [], length, get_or, set, Ok, Err, Some, None, refl, ap, sym, ◌∙◌, subst, ⊎_elim, arith}
use Rattle.pe_sign.proofs.Cited.{nat_le, slice_range, if◌then◌else◌, cases_lt, nat_tests, places, ext_get_or, length-set}
use Rattle.pe_sign.proofs.Cited.{get_or-set_same, get_or-set_other, le, holds, absent_directory, kept, present, HeaderView}
use Rattle.pe_sign.proofs.Cited.{OptionalHeaderView, directories_offset, is_pe32_plus, optional_header, optional_header_tests}
use Rattle.pe_sign.proofs.Cited.{header, header_tests, header_at, Short, outcome, ParseMode, entry_range, certificates_range}
use Rattle.pe_sign.proofs.Cited.{left_out_before, left_out_of, LeftOut, dos_header, coff_header, standard_fields_32}
use Rattle.pe_sign.proofs.Cited.{standard_fields_64, windows_fields_32, windows_fields_64, data_directory, each, rows}
use Rattle.pe_sign.proofs.Cited.{DataDirectory, length-each, get_or-each, le-same, le_is, optional_changed, headers_changed}
use Rattle.pe_sign.proofs.Cited.{headers_with, directories_end_after, directories_end}
use Rattle.pe_core.specs.Options.{is_permissive}
use Rattle.pe_sign.proofs.Tests.{passed, value_is}

-- before offset n two files have the same bytes, but for the checksum at offset c and the entry at offset e
pub record Stays (f b : List ℕ) (c e n : ℕ) : Type 0 where
  pub apart : c + 4 ≤ e
  pub entry : e + 8 ≤ n
  pub inside : n ≤ length f
  pub inside_before : n ≤ length b
  pub before : (k : ℕ) → k < c → get_or f k 0 ≡ get_or b k 0
  pub between : (k : ℕ) → c + 4 ≤ k → k < e → get_or f k 0 ≡ get_or b k 0
  pub after : (k : ℕ) → e + 8 ≤ k → k < n → get_or f k 0 ≡ get_or b k 0

-- ---- numbers and ranges

first : (f b : List ℕ) (c e n : ℕ) → Stays f b c e n → (p w : ℕ) → p + w ≤ c → le f p w ≡ le b p w
first f b c e n s p w h = le-same f b p p w (λ k lt. s.before (p + k) (omega arith))

second : (f b : List ℕ) (c e n : ℕ) → Stays f b c e n → (p w : ℕ) → c + 4 ≤ p → p + w ≤ e → le f p w ≡ le b p w
second f b c e n s p w h i = le-same f b p p w (λ k lt. s.between (p + k) (omega arith) (omega arith))

pub third : (f b : List ℕ) (c e n : ℕ) → Stays f b c e n → (p w : ℕ) → e + 8 ≤ p → p + w ≤ n → le f p w ≡ le b p w
third f b c e n s p w h i = le-same f b p p w (λ k lt. s.after (p + k) (omega arith) (omega arith))

pub same_range : (f b : List ℕ) (p q : ℕ) → q ≤ length f → q ≤ length b → ((k : ℕ) → p ≤ k → k < q → get_or f k 0 ≡ get_or b k 0) → slice_range f p q ≡ slice_range b p q
same_range f b p q h i same =
    ext_get_or 0 (slice_range f p q) (slice_range b p q) (grind (arith, places)) (λ k lt. let at : p + k < q = grind (arith, places) in let byte : get_or f (p + k) 0 ≡ get_or b (p + k) 0 = same (p + k) (omega arith) at in grind (arith, places))

-- ---- records

dos_stays : (f b : List ℕ) (c e n : ℕ) → Stays f b c e n → 64 ≤ c → dos_header f 0 ≡ dos_header b 0
unfolding dos_header
dos_stays f b c e n s h =
    rw (
      first f b c e n s 0 2 (omega arith),
      same_range f b 2 60 (omega (arith, s.apart, s.entry, s.inside)) (omega (arith, s.apart, s.entry, s.inside_before)) (λ k from lt. s.before k (omega arith)),
      first f b c e n s 60 4 (omega arith),
    ) refl

coff_stays : (f b : List ℕ) (c e n : ℕ) → Stays f b c e n → (p : ℕ) → p + 20 ≤ c → coff_header f p ≡ coff_header b p
unfolding coff_header
coff_stays f b c e n s p h =
    rw (
      first f b c e n s p 2 (omega arith),
      first f b c e n s (p + 2) 2 (omega arith),
      first f b c e n s (p + 4) 4 (omega arith),
      first f b c e n s (p + 8) 4 (omega arith),
      first f b c e n s (p + 12) 4 (omega arith),
      first f b c e n s (p + 16) 2 (omega arith),
      first f b c e n s (p + 18) 2 (omega arith),
    ) refl

standard_stay_64 : (f b : List ℕ) (c e n : ℕ) → Stays f b c e n → (p : ℕ) → p + 24 ≤ c → standard_fields_64 f p ≡ standard_fields_64 b p
unfolding standard_fields_64
standard_stay_64 f b c e n s p h =
    rw (
      first f b c e n s p 2 (omega arith),
      first f b c e n s (p + 2) 1 (omega arith),
      first f b c e n s (p + 3) 1 (omega arith),
      first f b c e n s (p + 4) 4 (omega arith),
      first f b c e n s (p + 8) 4 (omega arith),
      first f b c e n s (p + 12) 4 (omega arith),
      first f b c e n s (p + 16) 4 (omega arith),
      first f b c e n s (p + 20) 4 (omega arith),
    ) refl

standard_stay_32 : (f b : List ℕ) (c e n : ℕ) → Stays f b c e n → (p : ℕ) → p + 28 ≤ c → standard_fields_32 f p ≡ standard_fields_32 b p
unfolding standard_fields_32
standard_stay_32 f b c e n s p h = rw (standard_stay_64 f b c e n s p (omega arith), first f b c e n s (p + 24) 4 (omega arith)) refl

-- the checksum is among the fields of Windows
windows_stay_32 : (f b : List ℕ) (c e n : ℕ) → Stays f b c e n → (p : ℕ) → c ≡ p + 36 → p + 68 ≤ e → windows_fields_32 f p ≡ record (windows_fields_32 b p) { check_sum = le f c 4 }
unfolding windows_fields_32
windows_stay_32 f b c e n s p at h =
    rw (
      at,
      first f b c e n s p 4 (omega arith),
      first f b c e n s (p + 4) 4 (omega arith),
      first f b c e n s (p + 8) 4 (omega arith),
      first f b c e n s (p + 12) 2 (omega arith),
      first f b c e n s (p + 14) 2 (omega arith),
      first f b c e n s (p + 16) 2 (omega arith),
      first f b c e n s (p + 18) 2 (omega arith),
      first f b c e n s (p + 20) 2 (omega arith),
      first f b c e n s (p + 22) 2 (omega arith),
      first f b c e n s (p + 24) 4 (omega arith),
      first f b c e n s (p + 28) 4 (omega arith),
      first f b c e n s (p + 32) 4 (omega arith),
      second f b c e n s (p + 40) 2 (omega arith) (omega arith),
      second f b c e n s (p + 42) 2 (omega arith) (omega arith),
      second f b c e n s (p + 44) 4 (omega arith) (omega arith),
      second f b c e n s (p + 48) 4 (omega arith) (omega arith),
      second f b c e n s (p + 52) 4 (omega arith) (omega arith),
      second f b c e n s (p + 56) 4 (omega arith) (omega arith),
      second f b c e n s (p + 60) 4 (omega arith) (omega arith),
      second f b c e n s (p + 64) 4 (omega arith) (omega arith),
    ) refl

windows_stay_64 : (f b : List ℕ) (c e n : ℕ) → Stays f b c e n → (p : ℕ) → c ≡ p + 40 → p + 88 ≤ e → windows_fields_64 f p ≡ record (windows_fields_64 b p) { check_sum = le f c 4 }
unfolding windows_fields_64
windows_stay_64 f b c e n s p at h =
    rw (
      at,
      first f b c e n s p 8 (omega arith),
      first f b c e n s (p + 8) 4 (omega arith),
      first f b c e n s (p + 12) 4 (omega arith),
      first f b c e n s (p + 16) 2 (omega arith),
      first f b c e n s (p + 18) 2 (omega arith),
      first f b c e n s (p + 20) 2 (omega arith),
      first f b c e n s (p + 22) 2 (omega arith),
      first f b c e n s (p + 24) 2 (omega arith),
      first f b c e n s (p + 26) 2 (omega arith),
      first f b c e n s (p + 28) 4 (omega arith),
      first f b c e n s (p + 32) 4 (omega arith),
      first f b c e n s (p + 36) 4 (omega arith),
      second f b c e n s (p + 44) 2 (omega arith) (omega arith),
      second f b c e n s (p + 46) 2 (omega arith) (omega arith),
      second f b c e n s (p + 48) 8 (omega arith) (omega arith),
      second f b c e n s (p + 56) 8 (omega arith) (omega arith),
      second f b c e n s (p + 64) 8 (omega arith) (omega arith),
      second f b c e n s (p + 72) 8 (omega arith) (omega arith),
      second f b c e n s (p + 80) 4 (omega arith) (omega arith),
      second f b c e n s (p + 84) 4 (omega arith) (omega arith),
    ) refl

-- ---- the directories

row_before : (f b : List ℕ) (c e n : ℕ) → Stays f b c e n → (p : ℕ) → c + 4 ≤ p → p + 8 ≤ e → data_directory f p ≡ data_directory b p
unfolding data_directory
row_before f b c e n s p h i = rw (second f b c e n s p 4 (omega arith) (omega arith), second f b c e n s (p + 4) 4 (omega arith) (omega arith)) refl

row_after : (f b : List ℕ) (c e n : ℕ) → Stays f b c e n → (p : ℕ) → e + 8 ≤ p → p + 8 ≤ n → data_directory f p ≡ data_directory b p
unfolding data_directory
row_after f b c e n s p h i = rw (third f b c e n s p 4 (omega arith) (omega arith), third f b c e n s (p + 4) 4 (omega arith) (omega arith)) refl

-- a list of which the element with one index alone is another one
pub one_set : {X : Type 0} (g h : ℕ → X) (m i : ℕ) (x d : X) → i < m → g i ≡ x → ((k : ℕ) → k < i → g k ≡ h k) → ((k : ℕ) → i < k → k < m → g k ≡ h k) → each g m ≡ set (each h m) i x
one_set g h m i x d many here below above =
    ext_get_or d (each g m) (set (each h m) i x) (length-each g m ∙ sym (length-each h m) ∙ sym (length-set (each h m) i x))
    (λ k lt. let small : k < m = omega (arith, length-each g m) in
    get_or-each g m k d small ∙ ⊎_elim
    (λ (lower : k < i). let other : k ≢ i = omega arith in below k lower ∙ sym (get_or-each h m k d small) ∙ sym (get_or-set_other (each h m) i k x d other))
    (λ (from : i ≤ k). ⊎_elim
    (λ (higher : i < k). let other : k ≢ i = omega arith in above k higher small ∙ sym (get_or-each h m k d small) ∙ sym (get_or-set_other (each h m) i k x d other))
    (λ (to : k ≤ i). let is : k ≡ i = omega arith in rw is (here ∙ sym (get_or-set_same (each h m) i x d (omega (arith, length-each h m)))))
    (cases_lt i k))
    (cases_lt k i))

rows_stay : (f b : List ℕ) (c e n : ℕ) → Stays f b c e n → (p m i : ℕ) (entry : DataDirectory) → c + 4 ≤ p → e ≡ p + 8 * i → n ≡ p + 8 * m → data_directory f e ≡ entry →
    rows (data_directory f) 8 p m ≡ set (rows (data_directory b) 8 p m) i entry
rows_stay f b c e n s p m i entry from at to is =
    one_set (λ k. data_directory f (p + 8 * k)) (λ k. data_directory b (p + 8 * k)) m i entry absent_directory (omega (arith, s.entry))
    (ap (λ (k : ℕ). data_directory f k) (sym at) ∙ is)
    (λ k lt. row_before f b c e n s (p + 8 * k) (omega arith) (omega arith))
    (λ k gt lt. row_after f b c e n s (p + 8 * k) (omega arith) (omega arith))

-- ---- the optional header at offset q

pub optional_64 : (f b : List ℕ) (c e n : ℕ) → Stays f b c e n → (q i : ℕ) (entry : DataDirectory) → c ≡ q + 64 → e ≡ q + 112 + 8 * i → is_pe32_plus b q ≡ true →
    n ≡ q + 112 + 8 * kept (windows_fields_64 b (q + 24)).number_of_rva_and_sizes → data_directory f e ≡ entry → optional_header f q ≡ optional_changed i entry (le f c 4) (optional_header b q)
unfolding optional_header
optional_64 f b c e n s q i entry at_c at_e w to is =
    let magic : is_pe32_plus f q ≡ true = ap (λ (m : ℕ). m == 0x20B) (first f b c e n s q 2 (omega arith)) ∙ w in
    let fields = windows_stay_64 f b c e n s (q + 24) (omega arith) (omega arith) in
    let table = rows_stay f b c e n s (q + 112) (kept (windows_fields_64 b (q + 24)).number_of_rva_and_sizes) i entry (omega arith) (omega arith) to is in
    rw (magic, w, standard_stay_64 f b c e n s q (omega arith), fields, table) refl

pub optional_32 : (f b : List ℕ) (c e n : ℕ) → Stays f b c e n → (q i : ℕ) (entry : DataDirectory) → c ≡ q + 64 → e ≡ q + 96 + 8 * i → is_pe32_plus b q ≡ false →
    n ≡ q + 96 + 8 * kept (windows_fields_32 b (q + 28)).number_of_rva_and_sizes → data_directory f e ≡ entry → optional_header f q ≡ optional_changed i entry (le f c 4) (optional_header b q)
unfolding optional_header
optional_32 f b c e n s q i entry at_c at_e w to is =
    let magic : is_pe32_plus f q ≡ false = ap (λ (m : ℕ). m == 0x20B) (first f b c e n s q 2 (omega arith)) ∙ w in
    let fields = windows_stay_32 f b c e n s (q + 28) (omega arith) (omega arith) in
    let table = rows_stay f b c e n s (q + 96) (kept (windows_fields_32 b (q + 28)).number_of_rva_and_sizes) i entry (omega arith) (omega arith) to is in
    rw (magic, w, standard_stay_32 f b c e n s q (omega arith), fields, table) refl

-- ---- the tests

pub wide : (w : Bool) → 96 ≤ directories_offset w
wide w = grind arith

-- the optional header by its width: it is accepted again, and is the same but for the two fields
pub record IsAgain (f b : List ℕ) (q i sum : ℕ) (entry : DataDirectory) : Type 0 where
  pub value : optional_header f q ≡ optional_changed i entry sum (optional_header b q)
  pub accepted : (y : HeaderView) → outcome (optional_header_tests f q) y ≡ Ok y

pub plus : (b : List ℕ) (q : ℕ) → is_pe32_plus b q ≡ true → q + directories_offset (is_pe32_plus b q) + 8 * kept (optional_header b q).windows_fields.number_of_rva_and_sizes ≡ q + 112 + 8 * kept (windows_fields_64 b (q + 24)).number_of_rva_and_sizes
unfolding optional_header
plus b q w = rw w refl

pub minus : (b : List ℕ) (q : ℕ) → is_pe32_plus b q ≡ false → q + directories_offset (is_pe32_plus b q) + 8 * kept (optional_header b q).windows_fields.number_of_rva_and_sizes ≡ q + 96 + 8 * kept (windows_fields_32 b (q + 28)).number_of_rva_and_sizes
unfolding optional_header
minus b q w = rw w refl

by_width : (w : Bool) (f b : List ℕ) (c e n : ℕ) → Stays f b c e n → (q i : ℕ) (entry : DataDirectory) → is_pe32_plus b q ≡ w → c ≡ q + 64 → e ≡ q + directories_offset (is_pe32_plus b q) + 8 * i →
    n ≡ q + directories_offset (is_pe32_plus b q) + 8 * kept (optional_header b q).windows_fields.number_of_rva_and_sizes → data_directory f e ≡ entry → optional_header f q ≡ optional_changed i entry (le f c 4) (optional_header b q)
by_width w f b c e n s q i entry j at_c at_e to is = grind (arith, optional_64, plus, optional_32, minus)

is_again : (f b : List ℕ) (c e n : ℕ) → Stays f b c e n → (q i : ℕ) (entry : DataDirectory) → c ≡ q + 64 → e ≡ q + directories_offset (is_pe32_plus b q) + 8 * i →
    n ≡ q + directories_offset (is_pe32_plus b q) + 8 * kept (optional_header b q).windows_fields.number_of_rva_and_sizes → data_directory f e ≡ entry →
    (le b q 2 == 0x10B || is_pe32_plus b q) ≡ true → IsAgain f b q i (le f c 4) entry
unfolding optional_header_tests
is_again f b c e n s q i entry at_c at_e to is magic =
    let same = by_width (is_pe32_plus b q) f b c e n s q i entry refl at_c at_e to is in
    record { value = same; accepted = (grind (arith, le_is, wide, first f b c e n s q 2 (omega arith))) }

-- what the headers of a file passed that were accepted
pub record Parsed (b : List ℕ) (mode : ParseMode) (h : HeaderView) : Type 0 where
  pub value : header b ≡ h
  pub room : (dos_header b 0).pe_pointer + 24 ≤ length b
  pub magic : ((dos_header b 0).signature == 0x5A4D) ≡ true
  pub pointer : (nat_le 64 (dos_header b 0).pe_pointer || is_permissive mode) ≡ true
  pub signature : (le b (dos_header b 0).pe_pointer 4 == 0x4550) ≡ true
  pub optional : outcome (if (coff_header b ((dos_header b 0).pe_pointer + 4)).size_of_optional_header == 0 then [] else optional_header_tests b ((dos_header b 0).pe_pointer + 24)) (header b) ≡ Ok h

held : (b : List ℕ) (p n end : ℕ) → end ≡ p + n → holds b p n ≡ true → end ≤ length b
held b p n end at h = grind (arith, nat_tests)

pub parsed : (b : List ℕ) (mode : ParseMode) (h : HeaderView) → header_at b mode ≡ Ok h → Parsed b mode h
unfolding header_at header_tests
parsed b mode h e = grind (arith, passed, value_is, held)

-- so the magic number of the optional header is valid, if there is one, and its directories lie in the file
pub record OptionalParsed (b : List ℕ) (q : ℕ) : Type 0 where
  pub magic : (le b q 2 == 0x10B || is_pe32_plus b q) ≡ true
  pub room : q + directories_offset (is_pe32_plus b q) + 8 * kept (optional_header b q).windows_fields.number_of_rva_and_sizes ≤ length b

optional_parsed : (t : Bool) (b : List ℕ) (q : ℕ) (x h : HeaderView) → t ≡ false → outcome (if t then [] else optional_header_tests b q) x ≡ Ok h → OptionalParsed b q
unfolding optional_header_tests
optional_parsed t b q x h is e = grind (arith, passed, held)

-- ---- where the two fields are

-- the parts that a digest leaves out, with an optional header
abbrev pub parts : ℕ → OptionalHeaderView → LeftOut
parts p o = record { checksum = record { offset = p + 88; length = 4 }; directory_entry = entry_range p o; certificates = certificates_range (present o.data_directories 4) }

pub record Fields (t : Bool) (p : ℕ) (o : OptionalHeaderView) (l : LeftOut) : Type 0 where
  pub some : t ≡ false
  pub checksum : l.checksum.offset ≡ p + 88
  pub entry : l.directory_entry.offset ≡ p + 24 + directories_offset (o.standard_fields.magic == 0x20B) + 32

pub fields_at : (t : Bool) (p : ℕ) (o : OptionalHeaderView) (l : LeftOut) → left_out_before p (if t then None else Some o) ≡ Ok l → l.directory_entry.length ≡ 8 → Fields t p o l
fields_at t p o l e h = grind arith

-- ---- the headers

pub magic_is : (b : List ℕ) (q : ℕ) → (optional_header b q).standard_fields.magic ≡ le b q 2
unfolding optional_header standard_fields_64 standard_fields_32
magic_is b q = grind arith

pub count_is : (b : List ℕ) (q : ℕ) → length (optional_header b q).data_directories ≡ kept (optional_header b q).windows_fields.number_of_rva_and_sizes
unfolding optional_header
count_is b q = length-each _ _

-- where the directories end
pub end_is : (t : Bool) (b : List ℕ) (p : ℕ) → t ≡ false →
    directories_end_after p (if t then None else Some (optional_header b (p + 24))) ≡ (p + 24) + directories_offset (is_pe32_plus b (p + 24)) + 8 * kept (optional_header b (p + 24)).windows_fields.number_of_rva_and_sizes
end_is t b p e = grind (arith, magic_is, count_is)

-- with the checksum at its offset, and an entry of the directory with any index
again_at : (f b : List ℕ) (mode : ParseMode) (h : HeaderView) (i at : ℕ) (entry : DataDirectory) → Parsed b mode h →
    ((coff_header b ((dos_header b 0).pe_pointer + 4)).size_of_optional_header == 0) ≡ false →
    at ≡ (dos_header b 0).pe_pointer + 24 + directories_offset (is_pe32_plus b ((dos_header b 0).pe_pointer + 24)) + 8 * i →
    Stays f b ((dos_header b 0).pe_pointer + 88) at (directories_end (header b)) → data_directory f at ≡ entry →
    header_at f mode ≡ Ok (headers_changed i entry (le f ((dos_header b 0).pe_pointer + 88) 4) (header b))
unfolding header_at header_tests header
again_at f b mode h i at entry a some at_e s is =
    let p : ℕ = (dos_header b 0).pe_pointer in
    let q : ℕ = p + 24 in
    let c : ℕ = p + 88 in
    let t : Bool = (coff_header b (p + 4)).size_of_optional_header == 0 in
    let n : ℕ = directories_end_after p (if t then None else Some (optional_header b q)) in
    let to = end_is t b p some in
    let magic = optional_parsed t b q (header b) h some a.optional in
    let at_c : c ≡ q + 64 = omega arith in
    let optional : IsAgain f b q i (le f c 4) entry = is_again f b c at n s q i entry at_c at_e to is magic.magic in
    let stub : slice_range f 64 p ≡ slice_range b 64 p = same_range f b 64 p (omega (arith, s.apart, s.entry, s.inside)) (omega (arith, s.apart, s.entry, s.inside_before)) (λ k from lt. s.before k (omega arith)) in
    rw (
      dos_stays f b c at n s (omega arith),
      stub,
      first f b c at n s p 4 (omega arith),
      coff_stays f b c at n s (p + 4) (omega arith),
      some,
      le_is 64 (length f) (omega (arith, s.apart, s.entry, s.inside)),
      a.magic,
      a.pointer,
      le_is (p + 4) (length f) (omega (arith, s.apart, s.entry, s.inside)),
      a.signature,
      le_is (p + 4 + 20) (length f) (omega (arith, s.apart, s.entry, s.inside)),
      optional.value,
    ) (optional.accepted _)

-- there is an optional header
pub some_optional : (t : Bool) (x o : OptionalHeaderView) → (if t then None else Some x) ≡ Some o → (t ≡ false) × (x ≡ o)
some_optional t x o e = grind arith

changed_at : (f b : List ℕ) (mode : ParseMode) (h : HeaderView) (o : OptionalHeaderView) (i at : ℕ) (entry : DataDirectory) → Parsed b mode h → (header b).optional_header ≡ Some o →
    at ≡ (header b).dos_header.pe_pointer + 24 + directories_offset (o.standard_fields.magic == 0x20B) + 8 * i →
    Stays f b ((header b).dos_header.pe_pointer + 88) at (directories_end (header b)) → data_directory f at ≡ entry →
    header_at f mode ≡ Ok (headers_changed i entry (le f ((header b).dos_header.pe_pointer + 88) 4) (header b))
unfolding header
changed_at f b mode h o i at entry a e at_e s is = grind (arith, some_optional, magic_is, again_at)

-- the headers of a file with another checksum and another entry of the directory with this index
pub headers_change : (f b : List ℕ) (mode : ParseMode) (h : HeaderView) (o : OptionalHeaderView) (i at : ℕ) (entry : DataDirectory) → header_at b mode ≡ Ok h → h.optional_header ≡ Some o →
    at ≡ h.dos_header.pe_pointer + 24 + directories_offset (o.standard_fields.magic == 0x20B) + 8 * i →
    Stays f b (h.dos_header.pe_pointer + 88) at (directories_end h) → data_directory f at ≡ entry →
    header_at f mode ≡ Ok (headers_changed i entry (le f (h.dos_header.pe_pointer + 88) 4) h)
headers_change f b mode h o i at entry e some at_e s is = grind (arith, parsed, changed_at)

again : (f b : List ℕ) (mode : ParseMode) (h : HeaderView) (l : LeftOut) (entry : DataDirectory) → Parsed b mode h → left_out_of (header b) ≡ Ok l → l.directory_entry.length ≡ 8 →
    Stays f b l.checksum.offset l.directory_entry.offset (directories_end (header b)) → data_directory f l.directory_entry.offset ≡ entry →
    header_at f mode ≡ Ok (headers_with entry (le f l.checksum.offset 4) (header b))
unfolding header
again f b mode h l entry a e eight s is = grind (arith, fields_at, magic_is, again_at)

pub headers_stay : (f b : List ℕ) (mode : ParseMode) (h : HeaderView) (l : LeftOut) (entry : DataDirectory) → header_at b mode ≡ Ok h → left_out_of h ≡ Ok l → l.directory_entry.length ≡ 8 →
    Stays f b l.checksum.offset l.directory_entry.offset (directories_end h) → data_directory f l.directory_entry.offset ≡ entry →
    header_at f mode ≡ Ok (headers_with entry (le f l.checksum.offset 4) h)
headers_stay f b mode h l entry e i eight s is = grind (arith, parsed, again)

-- ---- a file that ends inside its directories is refused

number_by : (w : Bool) (f b : List ℕ) (c e n : ℕ) → Stays f b c e n → (q : ℕ) → is_pe32_plus b q ≡ w → c ≡ q + 64 → e ≡ q + directories_offset (is_pe32_plus b q) + 32 →
    (optional_header f q).windows_fields.number_of_rva_and_sizes ≡ (optional_header b q).windows_fields.number_of_rva_and_sizes
unfolding optional_header
number_by true f b c e n s q w at_c at =
    let at_e : e ≡ q + 144 = at ∙ (rw w (omega arith)) in
    let magic : is_pe32_plus f q ≡ true = ap (λ (m : ℕ). m == 0x20B) (first f b c e n s q 2 (omega arith)) ∙ w in
    rw (magic, w, windows_stay_64 f b c e n s (q + 24) (omega arith) (omega arith)) refl
number_by false f b c e n s q w at_c at =
    let at_e : e ≡ q + 128 = at ∙ (rw w (omega arith)) in
    let magic : is_pe32_plus f q ≡ false = ap (λ (m : ℕ). m == 0x20B) (first f b c e n s q 2 (omega arith)) ∙ w in
    rw (magic, w, windows_stay_32 f b c e n s (q + 28) (omega arith) (omega arith)) refl

optional_refused : (f b : List ℕ) (q : ℕ) → le f q 2 ≡ le b q 2 → (optional_header f q).windows_fields.number_of_rva_and_sizes ≡ (optional_header b q).windows_fields.number_of_rva_and_sizes →
    (le b q 2 == 0x10B || is_pe32_plus b q) ≡ true → q + directories_offset (is_pe32_plus b q) ≤ length f →
    length f < q + directories_offset (is_pe32_plus b q) + 8 * kept (optional_header b q).windows_fields.number_of_rva_and_sizes → (y : HeaderView) → outcome (optional_header_tests f q) y ≡ Err Short
unfolding optional_header_tests
optional_refused f b q two number magic room less y = grind (arith, le_is, wide, nat_tests)

lost : (f b : List ℕ) (mode : ParseMode) (h : HeaderView) (l : LeftOut) → Parsed b mode h → left_out_of (header b) ≡ Ok l → l.directory_entry.length ≡ 8 →
    Stays f b l.checksum.offset l.directory_entry.offset (length f) → length f < directories_end (header b) → header_at f mode ≡ Err Short
unfolding header_at header_tests header
lost f b mode h l a e eight s less =
    let p : ℕ = (dos_header b 0).pe_pointer in
    let q : ℕ = p + 24 in
    let c : ℕ = l.checksum.offset in
    let at : ℕ = l.directory_entry.offset in
    let n : ℕ = length f in
    let t : Bool = (coff_header b (p + 4)).size_of_optional_header == 0 in
    let fields : Fields t p (optional_header b q) l = fields_at t p (optional_header b q) l e eight in
    let to = end_is t b p fields.some in
    let parsed = optional_parsed t b q (header b) h fields.some a.optional in
    let at_e : at ≡ q + directories_offset (is_pe32_plus b q) + 32 = fields.entry ∙ ap (λ (m : ℕ). p + 24 + directories_offset (m == 0x20B) + 32) (magic_is b q) in
    let at_c : c ≡ q + 64 = omega (arith, fields.checksum) in
    let number = number_by (is_pe32_plus b q) f b c at n s q refl at_c at_e in
    let refused = optional_refused f b q (first f b c at n s q 2 (omega (arith, at_c))) number parsed.magic (omega (arith, at_e, s.entry)) (omega (arith, to, less)) in
    rw (
      dos_stays f b c at n s (omega (arith, at_c)),
      first f b c at n s p 4 (omega (arith, at_c)),
      coff_stays f b c at n s (p + 4) (omega (arith, at_c)),
      fields.some,
      le_is 64 n (omega (arith, at_c, s.apart, s.entry)),
      a.magic,
      a.pointer,
      le_is (p + 4) n (omega (arith, at_c, s.apart, s.entry)),
      a.signature,
      le_is (p + 4 + 20) n (omega (arith, at_c, s.apart, s.entry)),
    ) (refused _)

pub headers_lost : (f b : List ℕ) (mode : ParseMode) (h : HeaderView) (l : LeftOut) → header_at b mode ≡ Ok h → left_out_of h ≡ Ok l → l.directory_entry.length ≡ 8 →
    Stays f b l.checksum.offset l.directory_entry.offset (length f) → length f < directories_end h → header_at f mode ≡ Err Short
headers_lost f b mode h l e i eight s less =
    let a : Parsed b mode h = parsed b mode h e in
    subst (λ (k : HeaderView). left_out_of k ≡ Ok l → length f < directories_end k → header_at f mode ≡ Err Short) a.value (λ j r. lost f b mode h l a j eight s r) i less

-- ---- the directories of a file that is parsed lie in it

end_of_header : (b : List ℕ) (mode : ParseMode) (h : HeaderView) → Parsed b mode h → directories_end (header b) ≤ length b
unfolding header
end_of_header b mode h a = grind (arith, optional_parsed, end_is)

pub directories_inside : (b : List ℕ) (mode : ParseMode) (h : HeaderView) → header_at b mode ≡ Ok h → directories_end h ≤ length b
directories_inside b mode h e = grind (arith, parsed, end_of_header)
