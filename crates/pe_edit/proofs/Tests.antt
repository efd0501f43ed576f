-- What leaves have to pass, one after the other.
use Rattle.std.proofs.Common.{◌≡◌, ℕ, ◌+◌, ◌-◌, ◌<◌, ◌≤◌, ◌&&◌, Bool, true, false, List, [], ◌∷◌, length, drop, get_or, Option, Some, None, Ok, Err, ap, refl, sym, ◌∙◌, arith, length-drop}
use Rattle.pe_edit.proofs.Cited.{if◌then◌else◌, nat_lt, list_all, nat_tests, drop_all, outcome, Layout, leaf_tests, section_of}
use Rattle.pe_edit.proofs.Cited.{end_below, measured_of, is_sorted, leaf_before, no_leaf, Accepted, Each, Fits, Key, KeyFits, Leaf}
use Rattle.pe_edit.proofs.Cited.{LeafFits, NameFits, NamesFit, KeyNumber, Numbers, layout_of, name_fits, names_fit, padded_length}
use Rattle.pe_edit.proofs.Cited.{padded_size, section, section_length, total, both}
use Rattle.pe_edit.specs.EditRefusals as refusals
use Rattle.pe_edit.proofs.Reading.{padded_more}
use Rattle.pe_edit.proofs.RunsAt.{leaf_at}

-- ---- the tests of each leaf

fit_at : (xs : List Leaf) (i : ℕ) (x : Leaf) → i < length xs → x ≡ get_or xs i no_leaf → list_all names_fit (drop i xs) ≡ (names_fit x && list_all names_fit (drop (i + 1) xs))
fit_at xs i x h q = ap (list_all names_fit) (leaf_at xs i x h q)

pub more_fit : (xs : List Leaf) (i : ℕ) (x : Leaf) → i < length xs → x ≡ get_or xs i no_leaf → names_fit x ≡ true → list_all names_fit (drop i xs) ≡ list_all names_fit xs → list_all names_fit (drop (i + 1) xs) ≡ list_all names_fit xs
more_fit xs i x h q e f = sym (fit_at xs i x h q ∙ ap (λ (t : Bool). t && list_all names_fit (drop (i + 1) xs)) e) ∙ f

pub one_unfit : (xs : List Leaf) (i : ℕ) (x : Leaf) → i < length xs → x ≡ get_or xs i no_leaf → names_fit x ≡ false → list_all names_fit (drop i xs) ≡ list_all names_fit xs → list_all names_fit xs ≡ false
one_unfit xs i x h q e f = sym f ∙ fit_at xs i x h q ∙ ap (λ (t : Bool). t && list_all names_fit (drop (i + 1) xs)) e

pub all_fit : (xs : List Leaf) (i : ℕ) → length xs ≤ i → list_all names_fit (drop i xs) ≡ list_all names_fit xs → list_all names_fit xs ≡ true
all_fit xs i h f = sym f ∙ ap (list_all names_fit) (drop_all i xs h)

-- ---- the order

sorted_cons : (x y : Leaf) (ys zs : List Leaf) → zs ≡ y ∷ ys → is_sorted (x ∷ zs) ≡ (leaf_before x y && is_sorted zs)
unfolding is_sorted
sorted_cons x y ys zs e = ap (λ (l : List Leaf). is_sorted (x ∷ l)) e ∙ ap (λ (l : List Leaf). leaf_before x y && is_sorted l) (sym e)

sorted_at : (xs : List Leaf) (i : ℕ) (x y : Leaf) → 0 < i → i < length xs → x ≡ get_or xs (i - 1) no_leaf → y ≡ get_or xs i no_leaf → is_sorted (drop (i - 1) xs) ≡ (leaf_before x y && is_sorted (drop i xs))
sorted_at xs i x y some h p q =
    ap is_sorted (leaf_at xs (i - 1) x (omega (arith, some, h)) p ∙ ap (λ (k : ℕ). x ∷ drop k xs) (omega (arith, some)))
    ∙ sorted_cons x y (drop (i + 1) xs) (drop i xs) (leaf_at xs i y h q)

pub more_sorted : (xs : List Leaf) (i : ℕ) (x y : Leaf) → 0 < i → i < length xs → x ≡ get_or xs (i - 1) no_leaf → y ≡ get_or xs i no_leaf → leaf_before x y ≡ true → is_sorted (drop (i - 1) xs) ≡ is_sorted xs → is_sorted (drop (i + 1 - 1) xs) ≡ is_sorted xs
more_sorted xs i x y some h p q e f =
    ap (λ (k : ℕ). is_sorted (drop k xs)) (omega arith)
    ∙ sym (sorted_at xs i x y some h p q ∙ ap (λ (t : Bool). t && is_sorted (drop i xs)) e) ∙ f

pub one_unsorted : (xs : List Leaf) (i : ℕ) (x y : Leaf) → 0 < i → i < length xs → x ≡ get_or xs (i - 1) no_leaf → y ≡ get_or xs i no_leaf → leaf_before x y ≡ false → is_sorted (drop (i - 1) xs) ≡ is_sorted xs → is_sorted xs ≡ false
one_unsorted xs i x y some h p q e f = sym f ∙ sorted_at xs i x y some h p q ∙ ap (λ (t : Bool). t && is_sorted (drop i xs)) e

short_sorted : (ys : List Leaf) → length ys ≤ 1 → is_sorted ys ≡ true
unfolding is_sorted
short_sorted [] h = refl
short_sorted (x ∷ []) h = refl
short_sorted (x ∷ y ∷ ys) h = absurd (omega (arith, h))

pub all_sorted : (xs : List Leaf) (i : ℕ) → 0 < i → length xs ≤ i → is_sorted (drop (i - 1) xs) ≡ is_sorted xs → is_sorted xs ≡ true
all_sorted xs i some h f = sym f ∙ short_sorted (drop (i - 1) xs) (omega (arith, length-drop (i - 1) xs, some, h))

-- ---- the end

-- where the contents up to one end, below 2^32
pub more_end : (xs : List Leaf) (i : ℕ) (x : Leaf) → i < length xs → x ≡ get_or xs i no_leaf → total padded_size (drop i xs) ≡ padded_length (length x.content) + total padded_size (drop (i + 1) xs)
unfolding total
more_end xs i x h q = ap (total padded_size) (leaf_at xs i x h q)

pub no_more : (xs : List Leaf) (i : ℕ) → length xs ≤ i → total padded_size (drop i xs) ≡ 0
unfolding total
no_more xs i h = ap (total padded_size) (drop_all i xs h)

pub end_is : (n m : ℕ) → m ≡ n → n < 4294967296 → ◌≡◌ {A = Option ℕ} (Some n) (if nat_lt m 4294967296 then Some m else None)
end_is n m e h = rw e (let t : nat_lt n 4294967296 ≡ true = grind (arith, nat_tests, h) in rw t refl)

pub no_end : (m : ℕ) → 4294967296 ≤ m → ◌≡◌ {A = Option ℕ} None (if nat_lt m 4294967296 then Some m else None)
no_end m h = let t : nat_lt m 4294967296 ≡ false = grind (arith, nat_tests, h) in rw t refl

-- ---- what leaves that pass are

name_passes : (k : Key) → name_fits k ≡ true → NameFits k
name_passes k h = grind (arith, both, nat_tests)

pub each_passes : (xs : List Leaf) → list_all names_fit xs ≡ true → Each NamesFit xs
each_passes [] h = tt
each_passes (x ∷ xs) h =
    let one : names_fit x ≡ true = (both (names_fit x) (list_all names_fit xs) h).0 in (
      (name_passes x.resource_type (both (name_fits x.resource_type) (name_fits x.name) one).0, name_passes x.name (both (name_fits x.resource_type) (name_fits x.name) one).1),
      each_passes xs (both (names_fit x) (list_all names_fit xs) h).1,
    )

-- leaves that pass fit, and are sorted
pub record Passes (rva : ℕ) (xs : List Leaf) : Type 0 where
  pub fit : Accepted rva xs
  pub sorted : is_sorted xs ≡ true

pub tests_pass : {Y : Type 0} (rva : ℕ) (xs : List Leaf) (v w : Y) → outcome (leaf_tests rva xs) v ≡ Ok w → Passes rva xs
tests_pass rva xs v w h = grind (arith, nat_tests, each_passes)

name_tested : (k : Key) → NameFits k → name_fits k ≡ true
name_tested k f = grind (arith, nat_tests)

each_tested : (xs : List Leaf) → Each NamesFit xs → list_all names_fit xs ≡ true
each_tested [] f = refl
each_tested (x ∷ xs) f = rw (name_tested x.resource_type f.0.0, name_tested x.name f.0.1) (each_tested xs f.1)

by_tests : {Y R : Type 0} (a b c d e : Bool) (j k l m n : R) (v : Y) → a ≡ true → b ≡ true → c ≡ true → d ≡ true → e ≡ true → outcome ((a, j) ∷ (b, k) ∷ (c, l) ∷ (d, m) ∷ (e, n) ∷ []) v ≡ Ok v
by_tests a b c d e j k l m n v ha hb hc hd he = rw (ha, hb, hc, hd, he) refl

-- leaves that fit and are sorted pass
pub passes : (rva : ℕ) (xs : List Leaf) → Accepted rva xs → is_sorted xs ≡ true → section_of rva xs ≡ Ok (section rva xs)
passes rva xs f s = grind (arith, by_tests, nat_tests, each_tested)

pub section_fits : (rva : ℕ) (xs : List Leaf) (s : List ℕ) → section_of rva xs ≡ Ok s → Accepted rva xs
section_fits rva xs s h = let p : Passes rva xs = tests_pass rva xs (section rva xs) s h in p.fit

pub section_is_sorted : (rva : ℕ) (xs : List Leaf) (s : List ℕ) → section_of rva xs ≡ Ok s → is_sorted xs ≡ true
section_is_sorted rva xs s h = let p : Passes rva xs = tests_pass rva xs (section rva xs) s h in p.sorted

pub section_is : (rva : ℕ) (xs : List Leaf) (s : List ℕ) → section_of rva xs ≡ Ok s → s ≡ section rva xs
section_is rva xs s h = grind (arith, passes, section_fits, section_is_sorted)

-- accepted leaves whose numbers have as many bits as the types of the code fit
key_numbers : (k : Key) → NameFits k → KeyNumber k → KeyFits k
key_numbers k f h = grind arith

leaf_numbers : (xs : List Leaf) → Each NamesFit xs → Each Numbers xs → Each LeafFits xs
leaf_numbers [] f h = tt
leaf_numbers (x ∷ xs) f h = (
  record {
    resource_type = key_numbers x.resource_type f.0.0 h.0.resource_type;
    name = key_numbers x.name f.0.1 h.0.name;
    language = h.0.language;
    code_page = h.0.code_page;
  },
  leaf_numbers xs f.1 h.1,
)

pub accepted_fit : (rva : ℕ) (xs : List Leaf) → Accepted rva xs → Each Numbers xs → Fits rva xs
accepted_fit rva xs a h = record { few = a.few; each = leaf_numbers xs a.names h; tables = a.tables; end = a.end }

-- ---- the layout that is returned

pub one_test : {Y R : Type 0} (a : Bool) (r : R) (v w : Y) → outcome ((a, r) ∷ []) v ≡ Ok w → a ≡ true
one_test a r v w h = grind arith

pub layout_returned : (rva : ℕ) (xs : List Leaf) (l : Layout) (n : ℕ) → length xs < 65536 → list_all names_fit xs ≡ true → is_sorted xs ≡ true → l ≡ layout_of xs → l.contents < 2147483648 → rva + section_length xs < 4294967296 → n ≡ section_length xs →
    outcome (leaf_tests rva xs) (measured_of xs) ≡ Ok (record { layout = l; length = n })
layout_returned rva xs l n few names sorted is low end size = grind (arith, by_tests, nat_tests)

pub too_large : (rva : ℕ) (xs : List Leaf) (l : Layout) → length xs < 65536 → list_all names_fit xs ≡ true → is_sorted xs ≡ true → l ≡ layout_of xs → l.contents < 2147483648 → 4294967296 ≤ rva + section_length xs →
    outcome (leaf_tests rva xs) (measured_of xs) ≡ Err refusals.TooLarge
too_large rva xs l few names sorted is low end = grind (arith, nat_tests)

-- what the end of the contents says of the length
pub ends_some : (rva start n : ℕ) (xs : List Leaf) (l : Layout) → l ≡ layout_of xs → start ≡ rva + l.contents → Some n ≡ end_below start xs → (rva + section_length xs < 4294967296) × (n ≡ rva + section_length xs)
unfolding section_length
ends_some rva start n xs l is at h = grind (arith, both, nat_tests)

pub ends_none : (rva start : ℕ) (xs : List Leaf) (l : Layout) → l ≡ layout_of xs → start ≡ rva + l.contents → None ≡ end_below start xs → 4294967296 ≤ rva + section_length xs
unfolding section_length
ends_none rva start xs l is at h = grind (arith, nat_tests)

-- the contents end after 4 GB: by one of them, or by those up to one
pub content_too_large : (xs : List Leaf) (start end i : ℕ) (x : Leaf) → i < length xs → x ≡ get_or xs i no_leaf → end + total padded_size (drop i xs) ≡ start + total padded_size xs → 4294967296 ≤ length x.content →
    None ≡ end_below start xs
content_too_large xs start end i x h q e f =
    no_end (start + total padded_size xs) (omega (arith, e, more_end xs i x h q, padded_more (length x.content), f))

pub end_too_large : (xs : List Leaf) (start end i : ℕ) → end + total padded_size (drop i xs) ≡ start + total padded_size xs → 4294967296 ≤ end → None ≡ end_below start xs
end_too_large xs start end i e f = no_end (start + total padded_size xs) (omega (arith, e, f))
