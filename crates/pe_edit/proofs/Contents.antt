-- The loops over contents, data entries and names.
use Rattle.std.proofs.Common.{◌≡◌, ℕ, ◌+◌, ◌-◌, ◌*◌, ◌/◌, ◌<◌, ◌≤◌, List, [], ◌∷◌, ◌++◌, length, drop, get_or, replicate, ap, sym, ◌∙◌, subst, arith, length-append}
use Rattle.pe_edit.proofs.Cited.{append_assoc, drop_all, length-replicate, Bor, bytes_of, splice, length-bytes_of, splice-splice}
use Rattle.pe_edit.proofs.Cited.{key_view, no_leaf, Leaf, contents, data_entries, data_entry, name_bytes, padded_content}
use Rattle.pe_edit.proofs.Cited.{padded_length, padded_size, total}
use Rattle.pe_edit.specs.declared.leaf.ResourceKey.{ResourceKey}
use Rattle.pe_edit.specs.declared.leaf.ResourceKey.TheVariants as keys
use Rattle.pe_edit.proofs.Tests.{more_end}
use Rattle.pe_edit.proofs.Reading.{padded_more}
use Rattle.pe_edit.proofs.RunsAt.{leaf_at}
use Rattle.pe_edit.proofs.SectionRead.{length-data_entries}
use Rattle.pe_edit.proofs.Writing.{Written, all_written, more_written, nothing_written, room_for, splice_none}

-- ---- contents

-- a content and its zeros
pub length_padded : (c : List ℕ) → length (padded_content c) ≡ padded_length (length c)
length_padded c = grind (arith, length-append, length-replicate, padded_more)

pub padded_parts : (b next last c : List ℕ) (p n : ℕ) → p + length (padded_content c) ≤ length b → n ≡ padded_length (length c) - length c → next ≡ splice b p c → last ≡ splice next (p + length c) (replicate n 0) → last ≡ splice b p (padded_content c)
padded_parts b next last c p n h e f i = grind (arith, splice-splice)

contents_at : (xs : List Leaf) (i : ℕ) (x : Leaf) → i < length xs → x ≡ get_or xs i no_leaf → contents (drop i xs) ≡ padded_content x.content ++ contents (drop (i + 1) xs)
unfolding contents
contents_at xs i x h q = ap contents (leaf_at xs i x h q)

-- the contents up to that with an index are written
abbrev pub ContentsWritten : List ℕ → List ℕ → ℕ → ℕ → ℕ → List Leaf → Type 0
ContentsWritten old now at end i xs = Written old now at end (contents xs) (contents (drop i xs))

pub content_room : (old now : List ℕ) (at end i : ℕ) (xs : List Leaf) (x : Leaf) → i < length xs → x ≡ get_or xs i no_leaf → ContentsWritten old now at end i xs → end + length (padded_content x.content) ≤ length now
content_room old now at end i xs x h q w =
    room_for old now at end (contents xs) (padded_content x.content) (contents (drop (i + 1) xs))
    (subst (λ (r : List ℕ). Written old now at end (contents xs) r) (contents_at xs i x h q) w)

pub content_more : (old now next : List ℕ) (at end after i : ℕ) (xs : List Leaf) (x : Leaf) → i < length xs → x ≡ get_or xs i no_leaf → ContentsWritten old now at end i xs →
    next ≡ splice now end (padded_content x.content) → after ≡ end + length (padded_content x.content) → ContentsWritten old next at after (i + 1) xs
content_more old now next at end after i xs x h q w e f =
    more_written old now next at end after (contents xs) (padded_content x.content) (contents (drop (i + 1) xs))
    (subst (λ (r : List ℕ). Written old now at end (contents xs) r) (contents_at xs i x h q) w) e f

pub all_contents_written : (old now : List ℕ) (at end i : ℕ) (xs : List Leaf) → length xs ≤ i → ContentsWritten old now at end i xs → now ≡ splice old at (contents xs)
unfolding contents
all_contents_written old now at end i xs h w =
    all_written old now at end (contents xs) (contents (drop i xs)) (ap contents (drop_all i xs h)) w

-- ---- data entries

-- four numbers, one after the other
pub four_numbers : (b b1 b2 b3 b4 : List ℕ) (p a n g : ℕ) → p + 16 ≤ length b → b1 ≡ splice b p (bytes_of 4 a) → b2 ≡ splice b1 (p + 4) (bytes_of 4 n) → b3 ≡ splice b2 (p + 8) (bytes_of 4 g) → b4 ≡ splice b3 (p + 12) (bytes_of 4 0) → b4 ≡ splice b p (data_entry a n g)
four_numbers b b1 b2 b3 b4 p a n g h e f i j =
    let s : List ℕ = bytes_of 4 a in
    let t : List ℕ = bytes_of 4 n in
    let u : List ℕ = bytes_of 4 g in
    let v : List ℕ = bytes_of 4 0 in
    let one : p + 4 ≡ p + length s = omega (arith, length-bytes_of 4 a) in
    let two : p + 8 ≡ p + length (s ++ t) = omega (arith, length-append s t, length-bytes_of 4 a, length-bytes_of 4 n) in
    let three : p + 12 ≡ p + length ((s ++ t) ++ u) = omega (arith, length-append (s ++ t) u, length-append s t, length-bytes_of 4 a, length-bytes_of 4 n, length-bytes_of 4 g) in
    let low : p ≤ length b = omega (arith, h) in
    let x2 : b2 ≡ splice b p (s ++ t) = f ∙ ap (λ (x : List ℕ). splice x (p + 4) t) e ∙ ap (λ (k : ℕ). splice (splice b p s) k t) one ∙ splice-splice b p s t low in
    let x3 : b3 ≡ splice b p ((s ++ t) ++ u) = i ∙ ap (λ (x : List ℕ). splice x (p + 8) u) x2 ∙ ap (λ (k : ℕ). splice (splice b p (s ++ t)) k u) two ∙ splice-splice b p (s ++ t) u low in
    grind (arith, j, x3, three, splice-splice b p ((s ++ t) ++ u) v low, append_assoc (s ++ t) u v, append_assoc s t (u ++ v))

length-data_entry : (a n g : ℕ) → length (data_entry a n g) ≡ 16
length-data_entry a n g = grind (arith, length-append, length-bytes_of)

entries_cons : (a : ℕ) (x : Leaf) (xs : List Leaf) → data_entries a (x ∷ xs) ≡ data_entry a (length x.content) x.code_page ++ data_entries (a + padded_size x) xs
unfolding data_entries
entries_cons a x xs = grind (arith, append_assoc)

-- the data entries up to that with an index are written; its content is at the RVA a
pub record DataWritten (old now : List ℕ) (at end first a i : ℕ) (xs : List Leaf) : Type 0 where
  pub written : Written old now at end (data_entries first xs) (data_entries a (drop i xs))
  pub sum : a + total padded_size (drop i xs) < 4294967296

pub no_data_written : (old : List ℕ) (at first : ℕ) (xs : List Leaf) → at + 16 * length xs ≤ length old → first + total padded_size xs < 4294967296 → DataWritten old old at at first first 0 xs
no_data_written old at first xs h f = grind (arith, nothing_written, length-data_entries)

pub data_small : (old now : List ℕ) (at end first a i : ℕ) (xs : List Leaf) (x : Leaf) → i < length xs → x ≡ get_or xs i no_leaf → DataWritten old now at end first a i xs → a + padded_length (length x.content) < 4294967296
data_small old now at end first a i xs x h q w = omega (arith, w.sum, more_end xs i x h q)

pub size_small : (old now : List ℕ) (at end first a i : ℕ) (xs : List Leaf) (x : Leaf) → i < length xs → x ≡ get_or xs i no_leaf → DataWritten old now at end first a i xs → length x.content < 4294967296
size_small old now at end first a i xs x h q w = omega (arith, data_small old now at end first a i xs x h q w, padded_more (length x.content))

data_rest : (old now : List ℕ) (at end first a i : ℕ) (xs : List Leaf) (x : Leaf) → i < length xs → x ≡ get_or xs i no_leaf → DataWritten old now at end first a i xs →
    Written old now at end (data_entries first xs) (data_entry a (length x.content) x.code_page ++ data_entries (a + padded_length (length x.content)) (drop (i + 1) xs))
data_rest old now at end first a i xs x h q w =
    subst (λ (r : List ℕ). Written old now at end (data_entries first xs) r) (ap (data_entries a) (leaf_at xs i x h q) ∙ entries_cons a x (drop (i + 1) xs)) w.written

pub data_room : (old now : List ℕ) (at end first a i : ℕ) (xs : List Leaf) (x : Leaf) → i < length xs → x ≡ get_or xs i no_leaf → DataWritten old now at end first a i xs → end + 16 ≤ length now
data_room old now at end first a i xs x h q w =
    let t : List ℕ = data_entry a (length x.content) x.code_page in
    let room : end + length t ≤ length now = room_for old now at end (data_entries first xs) t (data_entries (a + padded_length (length x.content)) (drop (i + 1) xs)) (data_rest old now at end first a i xs x h q w) in
    omega (arith, room, length-data_entry a (length x.content) x.code_page)

pub data_more : (old now next : List ℕ) (at end first a i : ℕ) (xs : List Leaf) (x : Leaf) (after to n g : ℕ) → i < length xs → x ≡ get_or xs i no_leaf → DataWritten old now at end first a i xs →
    n ≡ length x.content → g ≡ x.code_page → next ≡ splice now end (data_entry a n g) → to ≡ a + padded_length n → after ≡ end + 16 →
    DataWritten old next at after first to (i + 1) xs
data_more old now next at end first a i xs x after to n g h q w en eg is et ea =
    let m : ℕ = length x.content in
    let k : ℕ = x.code_page in
    let same : data_entry a n g ≡ data_entry a m k = ap (λ (j : ℕ). data_entry a j g) en ∙ ap (λ (j : ℕ). data_entry a m j) eg in
    let place : to ≡ a + padded_length m = et ∙ ap (λ (j : ℕ). a + padded_length j) en in
    record {
      written = subst (λ (j : ℕ). Written old next at after (data_entries first xs) (data_entries j (drop (i + 1) xs))) (sym place)
          (more_written old now next at end after (data_entries first xs) (data_entry a m k) (data_entries (a + padded_length m) (drop (i + 1) xs)) (data_rest old now at end first a i xs x h q w)
          (is ∙ ap (splice now end) same) (omega (arith, ea, length-data_entry a m k)));
      sum = omega (arith, w.sum, more_end xs i x h q, place);
    }

pub all_data_written : (old now : List ℕ) (at end first a i : ℕ) (xs : List Leaf) → length xs ≤ i → DataWritten old now at end first a i xs → now ≡ splice old at (data_entries first xs)
unfolding data_entries
all_data_written old now at end first a i xs h w =
    all_written old now at end (data_entries first xs) (data_entries a (drop i xs)) (ap (data_entries a) (drop_all i xs h)) w.written

-- ---- names

-- the number of the code units of a name, and the units
pub name_parts : (b next last u : List ℕ) (p n : ℕ) → p + length (bytes_of 2 (length u / 2) ++ u) ≤ length b → n ≡ length u / 2 → next ≡ splice b p (bytes_of 2 n) → last ≡ splice next (p + 2) u → last ≡ splice b p (bytes_of 2 (length u / 2) ++ u)
name_parts b next last u p n h e f g =
    let two : p + 2 ≡ p + length (bytes_of 2 n) = omega (arith, length-bytes_of 2 n) in
    grind (arith, g, f, two, splice-splice b p (bytes_of 2 n) u (omega (arith, h)), e)

pub no_name : (b : List ℕ) (p : ℕ) → p + 0 ≤ length b → b ≡ splice b p []
no_name b p h = sym (splice_none b p (omega (arith, h)))

pub named_length : (key : ResourceKey) (u : Bor (List ℕ)) → key ≡ keys.Name u → length (name_bytes (key_view key)) ≡ 2 + length u.now
named_length key u e = grind (arith, length-append, length-bytes_of)
