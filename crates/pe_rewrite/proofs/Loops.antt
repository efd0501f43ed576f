-- What the loops over sections and directories have found.
use Rattle.std.proofs.Common.{◌≡◌, ℕ, ◌<◌, ◌≤◌, ◌==◌, ◌&&◌, Bool, true, false, List, length, Some, Ok, Err, refl, ap, sym, ◌∙◌, arith}
use Rattle.pe_rewrite.proofs.Cited.{list_all, position_or_len, nat_tests, position_or_len_is, HeaderView, each, SectionTable, lt_is}
use Rattle.pe_rewrite.proofs.Cited.{lt_is_not, get_or-each, length-each, OptionalHeaderView, DataDirectory, one_fails, debug_apart}
use Rattle.pe_rewrite.proofs.Cited.{entries_apart, entry_apart, grows_clear, index_of, is_alone, is_apart, is_clear, is_outside}
use Rattle.pe_rewrite.proofs.Cited.{leads_out, section_header, sections_apart, debug_moves, entries_lie, entry_moves}
use Rattle.pe_rewrite.proofs.Cited.{is_before_or_same, is_last, NoSection, DebugEntries, Target, LastSection}

-- ---- the first section at an RVA

-- the first section that passes a test, or the number of sections
pub first_by : (p : SectionTable → Bool) (f : ℕ → SectionTable) (n i : ℕ) → i ≤ n → ((k : ℕ) → k < i → p (f k) ≡ false) → (i < n → p (f i) ≡ true) → position_or_len p (each f n) ≡ i
first_by p f n i le none here =
    let size : length (each f n) ≡ n = length-each f n in
    position_or_len_is p (each f n) i (f 0) (omega (arith, size, le))
    (λ k lt. ap p (get_or-each f n k (f 0) (omega (arith, lt, le))) ∙ none k lt)
    (λ lt. let below : i < n = omega (arith, size, lt) in ap p (get_or-each f n i (f 0) below) ∙ here below)

first_at : (f : ℕ → SectionTable) (n rva i : ℕ) → i ≤ n → ((k : ℕ) → k < i → ((f k).virtual_address == rva) ≡ false) → (i < n → ((f i).virtual_address == rva) ≡ true) → position_or_len (λ s. s.virtual_address == rva) (each f n) ≡ i
first_at f n rva i le none here = first_by (λ s. s.virtual_address == rva) f n i le none here

pub index_found : (b : List ℕ) (h : HeaderView) (rva i : ℕ) → 0 < rva → i < h.coff_header.number_of_sections → ((k : ℕ) → k < i → ((section_header b h k).virtual_address == rva) ≡ false) → ((section_header b h i).virtual_address == rva) ≡ true → index_of b h rva ≡ Ok i
index_found b h rva i some lt none here =
    let n : ℕ = h.coff_header.number_of_sections in
    let is = first_at (section_header b h) n rva i (omega (arith, lt)) none (λ x. here) in
    rw (is, lt_is 0 rva some, lt_is i n lt) refl

pub index_missing : (b : List ℕ) (h : HeaderView) (rva : ℕ) → 0 < rva → ((k : ℕ) → k < h.coff_header.number_of_sections → ((section_header b h k).virtual_address == rva) ≡ false) → index_of b h rva ≡ Err NoSection
index_missing b h rva some none = grind (arith, first_at, lt_is, lt_is_not)

pub index_found_at : (b : List ℕ) (h : HeaderView) (rva i : ℕ) (s : SectionTable) → 0 < rva → i < h.coff_header.number_of_sections → ((k : ℕ) → k < i → ((section_header b h k).virtual_address == rva) ≡ false) → s ≡ section_header b h i → s.virtual_address ≡ rva → index_of b h rva ≡ Ok i
index_found_at b h rva i s some lt none is at =
    let same : (section_header b h i).virtual_address ≡ rva = ap (λ (x : SectionTable). x.virtual_address) (sym is) ∙ at in
    index_found b h rva i some lt none (grind (arith, nat_tests, same))

-- ---- what is not apart, not last, or not alone

pub apart_fails : (b : List ℕ) (h : HeaderView) (alignment i k : ℕ) → k < h.coff_header.number_of_sections → is_apart b h alignment i k ≡ false → sections_apart b h alignment i ≡ false
apart_fails b h alignment i k lt e = one_fails (is_apart b h alignment i) (λ j. j) h.coff_header.number_of_sections k lt e

pub clear_fails : (b : List ℕ) (h : HeaderView) (n i k : ℕ) → k < h.coff_header.number_of_sections → is_clear b h n i k ≡ false → grows_clear b h n i ≡ false
clear_fails b h n i k lt e = one_fails (is_clear b h n i) (λ j. j) h.coff_header.number_of_sections k lt e

pub last_fails : (b : List ℕ) (h : HeaderView) (t : Target) (l : LastSection) (k : ℕ) → k < h.coff_header.number_of_sections → is_before_or_same b h t l k ≡ false → is_last b h t l ≡ false
last_fails b h t l k lt e = one_fails (is_before_or_same b h t l) (λ j. j) h.coff_header.number_of_sections k lt e

and_false : (a : Bool) → (a && false) ≡ false
and_false a = grind arith

pub debug_fails : (b : List ℕ) (h : HeaderView) (l : LastSection) (k : ℕ) → k < l.debug.count → entry_moves b l k ≡ false → debug_moves b h l ≡ false
debug_fails b h l k lt e = ap (λ (t : Bool). entries_lie h l && t) (one_fails (entry_moves b l) (λ j. j) l.debug.count k lt e) ∙ and_false (entries_lie h l)

pub beside_fails : (b : List ℕ) (h : HeaderView) (s : SectionTable) (d : DebugEntries) (k : ℕ) → k < d.count → entry_apart b s d k ≡ false → debug_apart b h s d ≡ false
beside_fails b h s d k lt e = ap (λ (t : Bool). entries_apart b h s d && t) (one_fails (entry_apart b s d) (λ j. j) d.count k lt e) ∙ and_false (entries_apart b h s d)

pub alone_fails : (s : SectionTable) (o : OptionalHeaderView) (ds : List DataDirectory) (k : ℕ) → ds ≡ o.data_directories → k < length ds → leads_out s ds k ≡ false → is_alone s (Some o) ≡ false
alone_fails s o ds k is lt e =
    let fails : leads_out s o.data_directories k ≡ false = ap (λ (l : List DataDirectory). leads_out s l k) (sym is) ∙ e in
    let all : list_all (leads_out s o.data_directories) (each (λ j. j) (length o.data_directories)) ≡ false = one_fails (leads_out s o.data_directories) (λ j. j) (length o.data_directories) k (omega (arith, lt, ap length is)) fails in
    ap (λ (t : Bool). is_outside s o.standard_fields.address_of_entry_point && t) all ∙ and_false (is_outside s o.standard_fields.address_of_entry_point)
