-- Version information that is written is read.
use Rattle.std.proofs.Common.{◌≡◌, ℕ, ◌+◌, ◌*◌, ◌<◌, ◌≤◌, Bool, true, false, List, [], ◌∷◌, ◌++◌, length, drop, map, Some, Result, Ok, refl, ap, sym, ◌∙◌, arith, length-append}
use Rattle.pe_version.proofs.Cited.{codes, flat_map, nat_tests, append-nil, drop_at, le, bytes_of, outcome, length-bytes_of, Block}
use Rattle.pe_version.proofs.Cited.{BlockRefusal, blocks, children_with_key, fixed_info_of_block, string_tables, translation_at}
use Rattle.pe_version.proofs.Cited.{translation_of_key, translations, value_with_key, version_block, fixed_info_at, units}
use Rattle.pe_version.proofs.Cited.{VsFixedFileInfo, Translation, Stands, whole, left, number, moved, rest_of_number, block_tests}
use Rattle.pe_version.proofs.Cited.{AllPairs, FixedFits, IsPair, NumbersFit, TableValue, TablesHavePairs, TextValue, Value}
use Rattle.pe_version.proofs.Cited.{VersionRead, all_blocks, as_read, blocks_of_table, fixed_bytes, four_digits, hex_digit, key_of}
use Rattle.pe_version.proofs.Cited.{read_root, read_table, read_text, root_block, strings_block, table_as_read, table_block}
use Rattle.pe_version.proofs.Cited.{table_blocks, text_block, translation_block, translation_bytes, utf16, variables_block}
use Rattle.pe_version.proofs.Cited.{version_of, version_read, AllFit, BlockValue, Fits, blocks_bytes, padded_block, read_block}
use Rattle.pe_version.proofs.Cited.{after-nil}
use Rattle.pe_core.specs.HexDigits.{digit_of, number_after}
use Rattle.pe_core.specs.Rows.{ReadsAfter, whole_entries}
use Rattle.pe_core.proofs.EntryItems.{le_after, whole_entries_more, whole_entries_none}
use Rattle.pe_version.proofs.Blocks.{blocks_read, first_read}
use Rattle.pe_version.proofs.Tests.{fits_if}

-- ---- which blocks fit

-- tests that are passed one after the other
both_passed : {Y R : Type 0} (a b : List (Bool × R)) (x y : Y) → outcome (a ++ b) x ≡ Ok y → (outcome a x ≡ Ok x) × (outcome b x ≡ Ok y)
both_passed [] b x y h = (refl, h)
both_passed ((true, r) ∷ a) b x y h = both_passed a b x y h
both_passed ((false, r) ∷ a) b x y h = absurd cc

pub all_fit : {Y : Type 0} (ks : List BlockValue) (x y : Y) → outcome (flat_map block_tests ks) x ≡ Ok y → AllFit ks
all_fit [] x y h = tt
all_fit (k ∷ ks) x y h =
    let p = both_passed (block_tests k) (flat_map block_tests ks) x y h in
    (fits_if k x x p.0, all_fit ks x y p.1)

pub left_fit : (xs ys : List BlockValue) → AllFit (xs ++ ys) → AllFit xs × AllFit ys
left_fit [] ys f = (tt, f)
left_fit (x ∷ xs) ys f = let p = left_fit xs ys f.1 in ((f.0, p.0), p.1)

-- the strings of each table fit, and the table does
abbrev pub TablesFit : List TableValue → Type 0
TablesFit [] = Unit {0}
TablesFit (t ∷ ts) = AllFit (map text_block t.strings) × Fits (table_block t) × TablesFit ts

pub tables_fit : (ts : List TableValue) → AllFit (flat_map blocks_of_table ts) → TablesFit ts
tables_fit [] f = tt
tables_fit (t ∷ ts) f =
    let p = left_fit (blocks_of_table t) (flat_map blocks_of_table ts) f in
    let q = left_fit (map text_block t.strings) (table_block t ∷ []) p.0 in
    (q.0, q.1.0, tables_fit ts p.1)

pub table_blocks_fit : (ts : List TableValue) → TablesFit ts → AllFit (map table_block ts)
table_blocks_fit [] f = tt
table_blocks_fit (t ∷ ts) f = (f.1, table_blocks_fit ts f.2)

-- ---- strings

texts_as_read : (ss : List TextValue) → map read_text (map (λ k. Ok (read_block k)) (map text_block ss)) ≡ map (λ s. Ok s) ss
texts_as_read [] = refl
texts_as_read (s ∷ ss) = ap (λ (l : List (Result TextValue BlockRefusal)). Ok s ∷ l) (texts_as_read ss)

-- ---- the key of a table

digit_read : (d : ℕ) → d < 16 → digit_of (hex_digit d) ≡ Some d
unfolding digit_of
digit_read d h = grind (arith, nat_tests)

next_digit : (front d : ℕ) (more : List ℕ) → d < 16 → number_after front (hex_digit d ∷ more) ≡ number_after (16 * front + d) more
unfolding number_after
next_digit front d more h = rw (digit_read d h) refl

four_read : (front n : ℕ) (more : List ℕ) → n < 65536 → number_after front (four_digits n ++ more) ≡ number_after (65536 * front + n) more
four_read front n more h = grind (arith, next_digit)

pub units_of : (cs : List ℕ) → units (utf16 cs) ≡ cs
units_of [] = refl
units_of (c ∷ cs) = let e : c + 256 * 0 ≡ c = omega arith in rw (e, units_of cs) refl

key_read : (t : Translation) → IsPair t → translation_of_key (key_of t) ≡ Some t
unfolding translation_of_key
key_read t p =
    let number : number_after 0 (units (key_of t)) ≡ Some (65536 * t.language + t.code_page) =
    ap (number_after 0) (units_of (four_digits t.language ++ four_digits t.code_page))
    ∙ four_read 0 t.language (four_digits t.code_page) p.0
    ∙ ap (λ (l : List ℕ). number_after (65536 * 0 + t.language) l) (sym (append-nil (four_digits t.code_page)))
    ∙ four_read (65536 * 0 + t.language) t.code_page [] p.1
    ∙ ap (λ (m : ℕ). number_after m []) (omega arith) ∙ after-nil (65536 * t.language + t.code_page) in
    rw number (ap (λ (x : Translation). Some x) (grind (arith, p.0, p.1)))

-- ---- tables

table_read : (t : TableValue) → AllFit (map text_block t.strings) → IsPair t.translation → read_table (Ok (read_block (table_block t))) ≡ table_as_read t
table_read t f p = grind (arith, key_read, blocks_read, texts_as_read)

tables_as_read : (ts : List TableValue) → TablesFit ts → TablesHavePairs ts → map read_table (map (λ k. Ok (read_block k)) (map table_block ts)) ≡ map table_as_read ts
tables_as_read [] f p = refl
tables_as_read (t ∷ ts) f p = rw (table_read t f.0 p.0, tables_as_read ts f.2 p.1) refl

pub tables_read : (ts : List TableValue) → TablesFit ts → TablesHavePairs ts → map read_table (blocks (table_blocks ts)) ≡ map table_as_read ts
tables_read ts f p = ap (map read_table) (blocks_read (map table_block ts) (table_blocks_fit ts f)) ∙ tables_as_read ts f p

-- ---- translations

pub length-translation : (t : Translation) → length (translation_bytes t) ≡ 4
length-translation t = length-append (bytes_of 2 t.language) (bytes_of 2 t.code_page) ∙ omega (arith, length-bytes_of 2 t.language, length-bytes_of 2 t.code_page)

translation_read : (t : Translation) (more : List ℕ) → IsPair t → translation_at (translation_bytes t ++ more) 0 ≡ t
translation_read t more p =
    let b : List ℕ = translation_bytes t ++ more in
    let s : Stands b 0 (translation_bytes t) = left b 0 (translation_bytes t) more (whole b) in
    let one : le b 0 2 ≡ t.language = number b 0 2 t.language p.0 (left b 0 (bytes_of 2 t.language) (bytes_of 2 t.code_page) s) in
    let two : le b (0 + 2) 2 ≡ t.code_page = number b (0 + 2) 2 t.code_page p.1 (rest_of_number b 0 2 t.language (bytes_of 2 t.code_page) s) in
    rw (one, two) refl

translations_after : ReadsAfter translation_at 4
translations_after b p q e = simp (le_after b 4 p q 2 e, le_after b 4 (p + 2) (q + 2) 2 (omega arith)) refl

translations_read : (ts : List Translation) → AllPairs ts → whole_entries translation_at 4 (flat_map translation_bytes ts) ≡ ts
translations_read [] p = whole_entries_none translation_at 4 [] (omega arith)
translations_read (t ∷ ts) p =
    let more : List ℕ = flat_map translation_bytes ts in
    let size : 4 ≤ length (translation_bytes t ++ more) = omega (arith, length-append (translation_bytes t) more, length-translation t) in
    whole_entries_more translation_at 4 (translation_bytes t ++ more) translations_after (omega arith) size
    ∙ ap (λ (x : Translation). x ∷ whole_entries translation_at 4 (drop 4 (translation_bytes t ++ more))) (translation_read t more p.0)
    ∙ ap (λ (l : List ℕ). t ∷ whole_entries translation_at 4 l) (drop_at (translation_bytes t) more 4 (length-translation t))
    ∙ ap (λ (l : List Translation). t ∷ l) (translations_read ts p.1)

-- ---- the fixed file information

pub fixed_read : (f : VsFixedFileInfo) → FixedFits f → fixed_info_at (fixed_bytes f) 0 ≡ f
unfolding fixed_bytes fixed_info_at
fixed_read f h =
    let xc : List ℕ = bytes_of 4 f.file_date_ls in
    let xb : List ℕ = bytes_of 4 f.file_date_ms ++ xc in
    let xa : List ℕ = bytes_of 4 f.file_subtype ++ xb in
    let x9 : List ℕ = bytes_of 4 f.file_type ++ xa in
    let x8 : List ℕ = bytes_of 4 f.file_os ++ x9 in
    let x7 : List ℕ = bytes_of 4 f.file_flags ++ x8 in
    let x6 : List ℕ = bytes_of 4 f.file_flags_mask ++ x7 in
    let x5 : List ℕ = bytes_of 4 f.product_version_ls ++ x6 in
    let x4 : List ℕ = bytes_of 4 f.product_version_ms ++ x5 in
    let x3 : List ℕ = bytes_of 4 f.file_version_ls ++ x4 in
    let x2 : List ℕ = bytes_of 4 f.file_version_ms ++ x3 in
    let x1 : List ℕ = bytes_of 4 f.struct_version ++ x2 in
    let b : List ℕ = bytes_of 4 f.signature ++ x1 in
    let s0 : Stands b 0 b = whole b in
    let s1 : Stands b 4 x1 = rest_of_number b 0 4 f.signature x1 s0 in
    let s2 : Stands b 8 x2 = moved b (4 + 4) 8 x2 refl (rest_of_number b 4 4 f.struct_version x2 s1) in
    let s3 : Stands b 12 x3 = moved b (8 + 4) 12 x3 refl (rest_of_number b 8 4 f.file_version_ms x3 s2) in
    let s4 : Stands b 16 x4 = moved b (12 + 4) 16 x4 refl (rest_of_number b 12 4 f.file_version_ls x4 s3) in
    let s5 : Stands b 20 x5 = moved b (16 + 4) 20 x5 refl (rest_of_number b 16 4 f.product_version_ms x5 s4) in
    let s6 : Stands b 24 x6 = moved b (20 + 4) 24 x6 refl (rest_of_number b 20 4 f.product_version_ls x6 s5) in
    let s7 : Stands b 28 x7 = moved b (24 + 4) 28 x7 refl (rest_of_number b 24 4 f.file_flags_mask x7 s6) in
    let s8 : Stands b 32 x8 = moved b (28 + 4) 32 x8 refl (rest_of_number b 28 4 f.file_flags x8 s7) in
    let s9 : Stands b 36 x9 = moved b (32 + 4) 36 x9 refl (rest_of_number b 32 4 f.file_os x9 s8) in
    let sa : Stands b 40 xa = moved b (36 + 4) 40 xa refl (rest_of_number b 36 4 f.file_type xa s9) in
    let sb : Stands b 44 xb = moved b (40 + 4) 44 xb refl (rest_of_number b 40 4 f.file_subtype xb sa) in
    let sc : Stands b 48 xc = moved b (44 + 4) 48 xc refl (rest_of_number b 44 4 f.file_date_ms xc sb) in
    let n0 : le b 0 4 ≡ f.signature = number b 0 4 f.signature h.signature (left b 0 (bytes_of 4 f.signature) x1 s0) in
    let n1 : le b 4 4 ≡ f.struct_version = number b 4 4 f.struct_version h.struct_version (left b 4 (bytes_of 4 f.struct_version) x2 s1) in
    let n2 : le b 8 4 ≡ f.file_version_ms = number b 8 4 f.file_version_ms h.file_version_ms (left b 8 (bytes_of 4 f.file_version_ms) x3 s2) in
    let n3 : le b 12 4 ≡ f.file_version_ls = number b 12 4 f.file_version_ls h.file_version_ls (left b 12 (bytes_of 4 f.file_version_ls) x4 s3) in
    let n4 : le b 16 4 ≡ f.product_version_ms = number b 16 4 f.product_version_ms h.product_version_ms (left b 16 (bytes_of 4 f.product_version_ms) x5 s4) in
    let n5 : le b 20 4 ≡ f.product_version_ls = number b 20 4 f.product_version_ls h.product_version_ls (left b 20 (bytes_of 4 f.product_version_ls) x6 s5) in
    let n6 : le b 24 4 ≡ f.file_flags_mask = number b 24 4 f.file_flags_mask h.file_flags_mask (left b 24 (bytes_of 4 f.file_flags_mask) x7 s6) in
    let n7 : le b 28 4 ≡ f.file_flags = number b 28 4 f.file_flags h.file_flags (left b 28 (bytes_of 4 f.file_flags) x8 s7) in
    let n8 : le b 32 4 ≡ f.file_os = number b 32 4 f.file_os h.file_os (left b 32 (bytes_of 4 f.file_os) x9 s8) in
    let n9 : le b 36 4 ≡ f.file_type = number b 36 4 f.file_type h.file_type (left b 36 (bytes_of 4 f.file_type) xa s9) in
    let na : le b 40 4 ≡ f.file_subtype = number b 40 4 f.file_subtype h.file_subtype (left b 40 (bytes_of 4 f.file_subtype) xb sa) in
    let nb : le b 44 4 ≡ f.file_date_ms = number b 44 4 f.file_date_ms h.file_date_ms (left b 44 (bytes_of 4 f.file_date_ms) xc sb) in
    let nc : le b 48 4 ≡ f.file_date_ls = number b 48 4 f.file_date_ls h.file_date_ls sc in
    rw (n0, n1, n2, n3, n4, n5, n6, n7, n8, n9, na, nb, nc) refl

pub length-fixed : (f : VsFixedFileInfo) → length (fixed_bytes f) ≡ 52
unfolding fixed_bytes
length-fixed f = simp (length-append, length-bytes_of) refl

-- ---- the first block

strings_found : (k : Block) (ts : List TableValue) (ps : List Translation) → blocks k.children ≡ Ok (read_block (strings_block ts)) ∷ Ok (read_block (variables_block ps)) ∷ [] → string_tables k ≡ Ok (table_blocks ts)
unfolding children_with_key
strings_found k ts ps e = rw e refl

variables_found : (k : Block) (ts : List TableValue) (ps : List Translation) → blocks k.children ≡ Ok (read_block (strings_block ts)) ∷ Ok (read_block (variables_block ps)) ∷ [] →
    children_with_key (codes "VarFileInfo") k ≡ Ok (blocks_bytes (translation_block ps ∷ []))
unfolding children_with_key
variables_found k ts ps e = rw e refl

pairs_found : (ps : List Translation) → AllFit (translation_block ps ∷ []) → value_with_key (codes "Translation") (blocks_bytes (translation_block ps ∷ [])) ≡ Ok (flat_map translation_bytes ps)
unfolding value_with_key
pairs_found ps f = let e : blocks (blocks_bytes (translation_block ps ∷ [])) ≡ Ok (read_block (translation_block ps)) ∷ [] = blocks_read (translation_block ps ∷ []) f in rw e refl

translations_found : (k : Block) (ts : List TableValue) (ps : List Translation) → AllFit (translation_block ps ∷ []) → blocks k.children ≡ Ok (read_block (strings_block ts)) ∷ Ok (read_block (variables_block ps)) ∷ [] →
    translations k ≡ Ok (flat_map translation_bytes ps)
translations_found k ts ps f e = rw (variables_found k ts ps e) (pairs_found ps f)

fixed_found : (v : Value) → FixedFits v.fixed → fixed_info_of_block (read_block (root_block v)) ≡ Some v.fixed
unfolding root_block
fixed_found v h = grind (arith, length-fixed, fixed_read)

root_read : (v : Value) → NumbersFit v → TablesFit v.tables → AllFit (strings_block v.tables ∷ variables_block v.translations ∷ []) → AllFit (translation_block v.translations ∷ []) →
    read_root (read_block (root_block v)) ≡ Ok (as_read v)
unfolding read_root as_read root_block
root_read v n t c p =
    let k : Block = read_block (root_block v) in
    let below = blocks_read (strings_block v.tables ∷ variables_block v.translations ∷ []) c in
    rw (strings_found k v.tables v.translations below, translations_found k v.tables v.translations p below)
    (ap (λ (r : VersionRead). Ok r) (rw ((fixed_found v n.fixed), (tables_read v.tables t n.tables), (translations_read v.translations n.translations)) refl))

first_found : (v : Value) → Fits (root_block v) → version_block (padded_block (root_block v)) ≡ Ok (Some (read_block (root_block v)))
first_found v f = grind (arith, append-nil (padded_block (root_block v)), first_read (root_block v) [] f)

whole_read : (v : Value) → NumbersFit v → AllFit (all_blocks v) → version_read (padded_block (root_block v)) ≡ Ok (Some (as_read v))
unfolding all_blocks version_read
whole_read v n f = grind (arith, left_fit, first_found, root_read, tables_fit)

pub value_is : {Y R : Type 0} (tests : List (Bool × R)) (x y : Y) → outcome tests x ≡ Ok y → y ≡ x
value_is [] x y h = cc
value_is ((true, r) ∷ tests) x y h = value_is tests x y h
value_is ((false, r) ∷ tests) x y h = absurd cc

pub version_is_read : (v : Value) (s : List ℕ) → NumbersFit v → version_of v ≡ Ok s → version_read s ≡ Ok (Some (as_read v))
unfolding version_of
version_is_read v s n e = grind (arith, all_fit, value_is, whole_read)
