-- What is written of records has at least their least bytes.
use Rattle.std.proofs.Common.{◌≡◌, ℕ, zero, suc, ◌≤◌, Bool, true, List, [], ◌∷◌, map, take, drop, length, Ok, refl, arith, length-append}
use Rattle.pe_version.proofs.Cited.{nat_le, list_all, nat_tests, places, holds, part_of, total, VsFixedFileInfo, least_of_string}
use Rattle.pe_version.proofs.Cited.{least_of_table, string_fits, strings_of, table_fits, table_of, text_of, value_at, version_at}
use Rattle.pe_version.proofs.Cited.{Value, all_blocks, blocks_of_table, key_of, root_block, table_block, table_blocks, text_block}
use Rattle.pe_version.proofs.Cited.{text_blocks, version_of, AllFit, BlockValue, blocks_bytes, padded_block, LanguageRecord}
use Rattle.pe_version.proofs.Cited.{StringRecord, TableRecord, both}
use Rattle.std.specs.Prelude.{flat_map}
use Rattle.pe_edit.specs.declared.record.RecordRange.{RecordRange}
use Rattle.pe_version.proofs.Calls.{padded_size}
use Rattle.pe_version.proofs.Heads.{PartsFit, parts_fit, table_texts, table_whole}
use Rattle.pe_version.proofs.VersionsRead.{all_fit, left_fit}

-- ---- tests of each

all_taken : {X : Type 0} (p : X → Bool) (n : ℕ) (xs : List X) → list_all p xs ≡ true → list_all p (take n xs) ≡ true
all_taken p zero xs e = refl
all_taken p (suc n) [] e = refl
all_taken p (suc n) (x ∷ xs) e =
    let h = both (p x) (list_all p xs) e in
    rw (h.0, all_taken p n xs h.1) refl

all_dropped : {X : Type 0} (p : X → Bool) (n : ℕ) (xs : List X) → list_all p xs ≡ true → list_all p (drop n xs) ≡ true
all_dropped p zero xs e = e
all_dropped p (suc n) [] e = refl
all_dropped p (suc n) (x ∷ xs) e = all_dropped p n xs (both (p x) (list_all p xs) e).1

-- ---- lengths

part_length : (d : List ℕ) (r : RecordRange) → holds d r.offset r.length ≡ true → length (part_of d r) ≡ r.length
part_length d r e = grind (arith, nat_tests, places)

texts_least : (d : List ℕ) (rs : List StringRecord) → list_all (string_fits d) rs ≡ true → AllFit (map text_block (map (text_of d) rs)) → total least_of_string rs ≤ length (text_blocks (map (text_of d) rs))
unfolding total blocks_bytes
texts_least d [] e f = omega arith
texts_least d (r ∷ rs) e f =
    let h = both (string_fits d r) (list_all (string_fits d) rs) e in
    let inside = both (holds d r.name.offset r.name.length) (holds d r.text.offset r.text.length) h.0 in
    let k : BlockValue = text_block (text_of d r) in
    omega (arith, length-append (padded_block k) (text_blocks (map (text_of d) rs)), padded_size k f.0, part_length d r.name inside.0, part_length d r.text inside.1, texts_least d rs h.1 f.1)

tables_least : (d : List ℕ) (rs : List StringRecord) (ts : List TableRecord) → list_all (string_fits d) rs ≡ true → AllFit (flat_map blocks_of_table (map (table_of d rs) ts)) → total (least_of_table rs) ts ≤ length (table_blocks (map (table_of d rs) ts))
unfolding total blocks_bytes
tables_least d rs [] e f = omega arith
tables_least d rs (t ∷ ts) e f =
    let x = table_of d rs t in
    let k : BlockValue = table_block x in
    let own = left_fit (blocks_of_table x) (flat_map blocks_of_table (map (table_of d rs) ts)) f in
    let key : length (key_of x.translation) ≡ 16 = refl in
    let strings : total least_of_string (strings_of rs t) ≤ length (text_blocks x.strings) =
    texts_least d (strings_of rs t) (grind (arith, all_taken, all_dropped)) (table_texts x own.0) in
    omega (arith, length-append (padded_block k) (table_blocks (map (table_of d rs) ts)), padded_size k (table_whole x own.0), key, strings, tables_least d rs ts e own.1)

-- ---- the test

pub short_enough : (fixed : VsFixedFileInfo) (ts : List TableRecord) (rs : List StringRecord) (ps : List LanguageRecord) (d s : List ℕ) → list_all (string_fits d) rs ≡ true → list_all (table_fits (length rs)) ts ≡ true → version_of (value_at fixed ts rs ps d) ≡ Ok s → version_at fixed ts rs ps d ≡ Ok s
unfolding all_blocks version_of
short_enough fixed ts rs ps d s e f made =
    let v : Value = value_at fixed ts rs ps d in
    let p : PartsFit v = parts_fit v (all_fit (all_blocks v) (padded_block (root_block v)) s made) in
    let least : total (least_of_table rs) ts ≤ 65535 = omega (arith, p.strings.short, tables_least d rs ts e p.tables) in
    let short : nat_le (total (least_of_table rs) ts) 65535 ≡ true = grind (arith, nat_tests, least) in
    rw (e, f, short) made
