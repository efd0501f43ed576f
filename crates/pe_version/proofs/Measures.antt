-- The lengths of blocks that are not written yet.
use Rattle.std.proofs.Common.{◌≡◌, ℕ, ◌+◌, ◌*◌, ◌%◌, ◌<◌, ◌≤◌, Bool, true, List, [], ◌∷◌, ◌++◌, length, map, get_or, Result, Ok, Err, refl, ap, sym, ◌∙◌, subst, arith, length-append, rules}
use Rattle.pe_version.proofs.Cited.{codes, nat_lt, flat_map, nat_tests, append-nil, bytes_of, outcome, length-bytes_of, up_to_four}
use Rattle.pe_version.proofs.Cited.{Translation, Measured, capped, capped_length_of, each_made, table_made, tables_made, texts_made}
use Rattle.pe_version.proofs.Cited.{variables_made, VersionRefusal, TooLong, VersionReturns, block_of, block_tests, key_fits}
use Rattle.pe_version.proofs.Cited.{length_of, TableValue, TextValue, Value, all_blocks, blocks_of_table, fixed_bytes, key_of}
use Rattle.pe_version.proofs.Cited.{root_block, strings_block, table_block, table_blocks, text_block, text_blocks}
use Rattle.pe_version.proofs.Cited.{translation_block, translation_bytes, utf16, variables_block, version_of, BlockValue}
use Rattle.pe_version.proofs.Cited.{before_others, block_length, blocks_bytes, padded_block}
use Rattle.std.proofs.lemmas.Grind.{flat_map-append}
use Rattle.pe_version.specs.declared.error.VersionError.{VersionError}
use Rattle.pe_version.proofs.Calls.{padded_size}
use Rattle.pe_version.proofs.Making.{Made, all_made, one_made, one_refused, passes, refused_by_length, stops, value_same}
use Rattle.pe_version.proofs.Tests.{made_fits}

-- ---- sums of at most 65,536

pub capped_more : (a b : ℕ) → capped (capped a + b) ≡ capped (a + b)
capped_more a b = grind (arith, nat_tests)

pub capped_again : (a : ℕ) → capped (capped a + 0) ≡ capped a
capped_again a = let none : a + 0 ≡ a = omega arith in capped_more a 0 ∙ ap capped none

-- ---- what a length is of

pub returns_by : (result : Result ℕ VersionError) (a b : Result ℕ VersionRefusal) → b ≡ a → VersionReturns result a → VersionReturns result b
returns_by result a b e h = subst (λ (d : Result ℕ VersionRefusal). VersionReturns result d) (sym e) h

-- the bytes whose number is known
pub record Counted (made : Result (List ℕ) VersionRefusal) (n : ℕ) : Type 0 where
  pub bytes : List ℕ
  pub is : made ≡ Ok bytes
  pub count : length bytes ≡ n

pub counted : (made : Result (List ℕ) VersionRefusal) (n : ℕ) → length_of made ≡ Ok n → Counted made n
counted made n h = grind arith

pub record CappedTo (made : Result (List ℕ) VersionRefusal) (n : ℕ) : Type 0 where
  pub bytes : List ℕ
  pub is : made ≡ Ok bytes
  pub count : n ≡ capped (length bytes)

pub capped_to : (made : Result (List ℕ) VersionRefusal) (n : ℕ) → capped_length_of made ≡ Ok n → CappedTo made n
capped_to made n h = grind arith

pub refused_by_capped : (made : Result (List ℕ) VersionRefusal) (r : VersionRefusal) → capped_length_of made ≡ Err r → made ≡ Err r
refused_by_capped made r h = grind arith

pub no_length : (made : Result (List ℕ) VersionRefusal) (r : VersionRefusal) → made ≡ Err r → length_of made ≡ Err r
no_length made r e = ap (λ (x : Result (List ℕ) VersionRefusal). length_of x) e

-- ---- elements, one after the other

pub record MeasuredTo {X : Type 0} (tests : X → List (Bool × VersionRefusal)) (bytes : X → List ℕ) (sum i : ℕ) (xs : List X) : Type 0 where
  pub done : List ℕ
  pub made : Made tests bytes done i xs
  pub is : sum ≡ capped (length done)

pub one_measured : {X : Type 0} (tests : X → List (Bool × VersionRefusal)) (bytes : X → List ℕ) (sum size next i : ℕ) (xs : List X) (d : X) → i < length xs →
    length_of (outcome (tests (get_or xs i d)) (bytes (get_or xs i d))) ≡ Ok size → next ≡ capped (sum + size) → MeasuredTo tests bytes sum i xs → MeasuredTo tests bytes next (i + 1) xs
one_measured {X} tests bytes sum size next i xs d h e f m =
    let c : Counted (outcome (tests (get_or xs i d)) (bytes (get_or xs i d))) size = counted _ size e in
    record {
      done = m.done ++ c.bytes;
      made = one_made tests bytes m.done c.bytes (m.done ++ c.bytes) i xs d h c.is refl m.made;
      is = f ∙ ap (λ (n : ℕ). capped (n + size)) m.is ∙ capped_more (length m.done) size ∙ ap capped (sym (length-append m.done c.bytes ∙ ap (λ (n : ℕ). length m.done + n) c.count));
    }

pub one_unmeasured : {X : Type 0} (tests : X → List (Bool × VersionRefusal)) (bytes : X → List ℕ) (sum i : ℕ) (xs : List X) (d : X) (r : VersionRefusal) → i < length xs →
    length_of (outcome (tests (get_or xs i d)) (bytes (get_or xs i d))) ≡ Err r → MeasuredTo tests bytes sum i xs → capped_length_of (each_made tests bytes xs) ≡ Err r
one_unmeasured {X} tests bytes sum i xs d r h e m =
    ap (λ (x : Result (List ℕ) VersionRefusal). capped_length_of x) (one_refused tests bytes m.done i xs d r h (refused_by_length _ r e) m.made)

pub all_measured : {X : Type 0} (tests : X → List (Bool × VersionRefusal)) (bytes : X → List ℕ) (sum i : ℕ) (xs : List X) → length xs ≤ i → MeasuredTo tests bytes sum i xs → capped_length_of (each_made tests bytes xs) ≡ Ok sum
all_measured tests bytes sum i xs h m = grind (arith, all_made)

-- ---- strings and tables, by what they are read of

abbrev pub tests_by : {X : Type 0} → (X → TextValue) → X → List (Bool × VersionRefusal)
tests_by f x = block_tests (text_block (f x))

abbrev pub bytes_by : {X : Type 0} → (X → TextValue) → X → List ℕ
bytes_by f x = padded_block (text_block (f x))

texts_tests : {X : Type 0} (f : X → TextValue) (xs : List X) → flat_map block_tests (map text_block (map f xs)) ≡ flat_map (tests_by f) xs
texts_tests f [] = refl
texts_tests f (x ∷ xs) = ap (λ (l : List (Bool × VersionRefusal)). block_tests (text_block (f x)) ++ l) (texts_tests f xs)

pub texts_bytes : {X : Type 0} (f : X → TextValue) (xs : List X) → text_blocks (map f xs) ≡ flat_map (bytes_by f) xs
unfolding blocks_bytes
texts_bytes f [] = refl
texts_bytes f (x ∷ xs) = ap (λ (l : List ℕ). padded_block (text_block (f x)) ++ l) (texts_bytes f xs)

pub texts_by : {X : Type 0} (f : X → TextValue) (xs : List X) → texts_made (map f xs) ≡ each_made (tests_by f) (bytes_by f) xs
texts_by f xs = grind (arith, texts_tests, texts_bytes)

abbrev pub table_tests_by : {X : Type 0} → (X → TableValue) → X → List (Bool × VersionRefusal)
table_tests_by g x = flat_map block_tests (blocks_of_table (g x))

abbrev pub table_bytes_by : {X : Type 0} → (X → TableValue) → X → List ℕ
table_bytes_by g x = padded_block (table_block (g x))

tables_tests : {X : Type 0} (g : X → TableValue) (xs : List X) → flat_map block_tests (flat_map blocks_of_table (map g xs)) ≡ flat_map (table_tests_by g) xs
tables_tests g [] = refl
tables_tests g (x ∷ xs) = grind (arith, flat_map-append, tables_tests g xs)

pub tables_bytes : {X : Type 0} (g : X → TableValue) (xs : List X) → table_blocks (map g xs) ≡ flat_map (table_bytes_by g) xs
unfolding blocks_bytes
tables_bytes g [] = refl
tables_bytes g (x ∷ xs) = ap (λ (l : List ℕ). padded_block (table_block (g x)) ++ l) (tables_bytes g xs)

pub tables_by : {X : Type 0} (g : X → TableValue) (xs : List X) → tables_made (map g xs) ≡ each_made (table_tests_by g) (table_bytes_by g) xs
tables_by g xs = grind (arith, tables_tests, tables_bytes)

-- ---- a block with a value of a multiple of four

pub before_four : (n : ℕ) (c : List ℕ) → n % 4 ≡ 0 → before_others n c ≡ n
before_four n c e = grind arith

length_by : (k : BlockValue) (key : List ℕ) (value children : ℕ) → Measured k key value children → block_length k ≡ up_to_four (8 + length key) + value + length k.children
length_by k key value children m = grind (arith, before_four)

passed : (k : BlockValue) (key : List ℕ) (value children : ℕ) (t : Bool) (x : List ℕ) → Measured k key value children → key_fits key ≡ true → nat_lt (block_length k) 65536 ≡ t → outcome (block_tests k) x ≡ outcome ((t, TooLong) ∷ []) x
passed k key value children t x m e f = grind (arith, nat_tests)

pub accepted : (k : BlockValue) (key : List ℕ) (value children end n : ℕ) → Measured k key value children → key_fits key ≡ true → end ≡ up_to_four (8 + length key) + value + children → end ≤ 65535 → n ≡ up_to_four end → length_of (block_of k) ≡ Ok n
accepted k key value children end n m e is short up =
    let small : children ≡ length k.children = grind (arith, m.children_are) in
    let size : block_length k ≡ end = omega (arith, length_by k key value children m, is, small) in
    let t : nat_lt (block_length k) 65536 ≡ true = grind (arith, nat_tests, size, short) in
    let made : block_of k ≡ Ok (padded_block k) = passed k key value children true (padded_block k) m e t in
    grind (arith, made, padded_size k (made_fits k (padded_block k) made), size, up)

-- ---- a table

table_parts : (t : TableValue) → flat_map block_tests (blocks_of_table t) ≡ flat_map block_tests (map text_block t.strings) ++ (block_tests (table_block t) ++ [])
table_parts t = flat_map-append block_tests (map text_block t.strings) (table_block t ∷ [])

pub table_refused : (t : TableValue) (r : VersionRefusal) → texts_made t.strings ≡ Err r → table_made t ≡ Err r
table_refused t r e = search (rules, arith, table_parts, stops)

pub table_is : (t : TableValue) (s : List ℕ) → texts_made t.strings ≡ Ok s → table_made t ≡ block_of (table_block t)
table_is t s e = grind (arith, table_parts, passes, append-nil)

pub table_measured : (t : TableValue) (key : List ℕ) (n c : ℕ) → key ≡ key_of t.translation → capped_length_of (texts_made t.strings) ≡ Ok n → c ≡ capped (n + 0) → Measured (table_block t) key 0 c
table_measured t key n c e f g = grind (arith, capped_to, value_same, capped_again)

pub table_returns : (t : TableValue) (key : List ℕ) (n c : ℕ) (result : Result ℕ VersionError) → key ≡ key_of t.translation → capped_length_of (texts_made t.strings) ≡ Ok n → c ≡ capped (n + 0) →
    ((k : BlockValue) → Measured k key 0 c → VersionReturns result (length_of (block_of k))) → VersionReturns result (length_of (table_made t))
table_returns t key n c result e f g h =
    let x : CappedTo (texts_made t.strings) n = capped_to (texts_made t.strings) n f in
    returns_by result (length_of (block_of (table_block t))) (length_of (table_made t)) (ap (λ (r : Result (List ℕ) VersionRefusal). length_of r) (table_is t x.bytes x.is)) (h (table_block t) (table_measured t key n c e f g))

-- ---- the translations

pub length_pairs : (ps : List Translation) → length (flat_map translation_bytes ps) ≡ 4 * length ps
length_pairs [] = refl
length_pairs (p ∷ ps) =
    length-append (translation_bytes p) (flat_map translation_bytes ps)
    ∙ omega (arith, length-append (bytes_of 2 p.language) (bytes_of 2 p.code_page), length-bytes_of 2 p.language, length-bytes_of 2 p.code_page, length_pairs ps)

pub pairs_measured : (ps : List Translation) (key : List ℕ) (n : ℕ) → key ≡ utf16 (codes "Translation") → n ≡ 4 * length ps → Measured (translation_block ps) key n 0
pairs_measured ps key n e f = record { key_is = sym e; value_is = length_pairs ps ∙ sym f; four = omega (arith, f); children_are = refl }

-- a refusal of the inner block is that of both
pairs_stop : (ps : List Translation) (r : VersionRefusal) → block_of (translation_block ps) ≡ Err r → variables_made ps ≡ Err r
pairs_stop ps r e = stops (block_tests (translation_block ps)) (block_tests (variables_block ps) ++ []) (padded_block (translation_block ps)) (padded_block (variables_block ps)) r e

pub many_refused : (ps : List Translation) → 65535 < length ps → length_of (variables_made ps) ≡ Err TooLong
many_refused ps h = grind (arith, pairs_measured, length_by, nat_tests, no_length, pairs_stop, passed)

pub pairs_refused : (ps : List Translation) (r : VersionRefusal) → length_of (block_of (translation_block ps)) ≡ Err r → length_of (variables_made ps) ≡ Err r
pairs_refused ps r e = no_length (variables_made ps) r (pairs_stop ps r (refused_by_length _ r e))

pub variables_return : (ps : List Translation) (key : List ℕ) (n c : ℕ) (result : Result ℕ VersionError) → key ≡ utf16 (codes "VarFileInfo") → length_of (block_of (translation_block ps)) ≡ Ok n → c ≡ capped (n + 0) →
    ((k : BlockValue) → Measured k key 0 c → VersionReturns result (length_of (block_of k))) → VersionReturns result (length_of (variables_made ps))
unfolding blocks_bytes
variables_return ps key n c result e f g h = grind (arith, counted, value_same, append-nil, returns_by, passes)

-- ---- all

abbrev last_blocks : Value → List BlockValue
last_blocks v = strings_block v.tables ∷ translation_block v.translations ∷ variables_block v.translations ∷ root_block v ∷ []

version_parts : (v : Value) → version_of v ≡ outcome (flat_map block_tests (flat_map blocks_of_table v.tables) ++ flat_map block_tests (last_blocks v)) (padded_block (root_block v))
unfolding version_of all_blocks
version_parts v = ap (λ (l : List (Bool × VersionRefusal)). outcome l (padded_block (root_block v))) (flat_map-append block_tests (flat_map blocks_of_table v.tables) (last_blocks v))

pub tables_refused : (v : Value) (r : VersionRefusal) → capped_length_of (tables_made v.tables) ≡ Err r → length_of (version_of v) ≡ Err r
tables_refused v r e = search (rules, arith, no_length, version_parts, stops, refused_by_capped)

after_tables : (v : Value) (t : List ℕ) → tables_made v.tables ≡ Ok t → version_of v ≡ outcome (flat_map block_tests (last_blocks v)) (padded_block (root_block v))
after_tables v t e = version_parts v ∙ passes (flat_map block_tests (flat_map blocks_of_table v.tables)) (flat_map block_tests (last_blocks v)) (table_blocks v.tables) t (padded_block (root_block v)) e

pub strings_measured : (ts : List TableValue) (key : List ℕ) (n c : ℕ) → key ≡ utf16 (codes "StringFileInfo") → capped_length_of (tables_made ts) ≡ Ok n → c ≡ capped (n + 0) → Measured (strings_block ts) key 0 c
strings_measured ts key n c e f g = grind (arith, capped_to, value_same, capped_again)

pub strings_refused : (v : Value) (n : ℕ) (r : VersionRefusal) → capped_length_of (tables_made v.tables) ≡ Ok n → length_of (block_of (strings_block v.tables)) ≡ Err r → length_of (version_of v) ≡ Err r
strings_refused v n r e f = grind (arith, capped_to, no_length, after_tables, stops, refused_by_length)

after_strings : (v : Value) (t s : List ℕ) → tables_made v.tables ≡ Ok t → block_of (strings_block v.tables) ≡ Ok s →
    version_of v ≡ outcome (flat_map block_tests (translation_block v.translations ∷ variables_block v.translations ∷ []) ++ (block_tests (root_block v) ++ [])) (padded_block (root_block v))
after_strings v t s e f =
    let ps : List Translation = v.translations in
    after_tables v t e ∙ passes (block_tests (strings_block v.tables)) (flat_map block_tests ((translation_block ps ∷ variables_block ps ∷ []) ++ (root_block v ∷ []))) (padded_block (strings_block v.tables)) s (padded_block (root_block v)) f
    ∙ ap (λ (l : List (Bool × VersionRefusal)). outcome l (padded_block (root_block v))) (flat_map-append block_tests (translation_block ps ∷ variables_block ps ∷ []) (root_block v ∷ []))

pub variables_refused : (v : Value) (n m : ℕ) (r : VersionRefusal) → capped_length_of (tables_made v.tables) ≡ Ok n → length_of (block_of (strings_block v.tables)) ≡ Ok m → length_of (variables_made v.translations) ≡ Err r → length_of (version_of v) ≡ Err r
variables_refused v n m r e f g = grind (arith, capped_to, counted, no_length, after_strings, stops, refused_by_length)

pub length_fixed : (v : Value) → length (fixed_bytes v.fixed) ≡ 52
unfolding fixed_bytes bytes_of
length_fixed v = refl

pub version_returns : (v : Value) (key : List ℕ) (n a b c : ℕ) (result : Result ℕ VersionError) → key ≡ utf16 (codes "VS_VERSION_INFO") → capped_length_of (tables_made v.tables) ≡ Ok n → length_of (block_of (strings_block v.tables)) ≡ Ok a →
    length_of (variables_made v.translations) ≡ Ok b → c ≡ capped (a + b) → ((k : BlockValue) → Measured k key 52 c → VersionReturns result (length_of (block_of k))) → VersionReturns result (length_of (version_of v))
unfolding root_block blocks_bytes
version_returns v key n a b c result i e f g is h =
    grind (arith, capped_to, counted, value_same, length-append, append-nil, length_fixed, returns_by, after_strings, passes)
