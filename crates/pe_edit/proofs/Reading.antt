-- Keys and data that are written are read.
use Rattle.std.proofs.Common.{◌≡◌, ℕ, ◌+◌, ◌-◌, ◌*◌, ◌/◌, ◌<◌, ◌≤◌, Bool, true, List, [], ◌∷◌, ◌++◌, length, replicate, Option, Some, None, Result, Ok, refl, ap, ◌∙◌, subst, arith, length-append, if◌then◌else◌}
use Rattle.pe_edit.proofs.Cited.{length-replicate, nat_tests, le, bytes_of, range, holds, Refusal, Short, outcome, ◌>>=◌}
use Rattle.pe_edit.proofs.Cited.{length-bytes_of, ResourceEntry, leaf_of, name_units, has_name, name_offset, Key, Id, Name, Leaf}
use Rattle.pe_edit.proofs.Cited.{Each, total, name_size, name_bytes, key_number, KeyFits, LeafFits, padded_length, padded_size}
use Rattle.pe_edit.proofs.Cited.{data_entries, contents, key_by, read_key, read_content, read_leaf, read_item}
use Rattle.pe_resource.specs.declared.content.ResourceDataEntry.{ResourceDataEntry}
use Rattle.pe_resource.specs.Contents.{data_entry_at}
use Rattle.pe_edit.proofs.Stands.{Stands, left, right, number, part, inside, moved, rest_of_number}

-- ---- keys

name_by : (t a : Bool) (c : ℕ → Bool) (n m : ℕ) (r : ℕ → List ℕ) (u : List ℕ) → t ≡ true → a ≡ true → n ≡ m → c m ≡ true → r m ≡ u → ◌≡◌ {A = Result (Option (List ℕ)) Refusal} (if t then (outcome ((a, Short) ∷ []) n >>= λ k. outcome ((c k, Short) ∷ []) (Some (r k))) else Ok None) (Ok (Some u))
name_by t a c n m r u h i j k l = rw (h, i, j, k, l) refl

pub key_read : (b : List ℕ) (s : ℕ) (k : Key) (e : ResourceEntry) → KeyFits k → s + name_size k < 2147483648 → e.name_or_id ≡ key_number s k → Stands b s (name_bytes k) → read_key b e ≡ Ok k
unfolding name_units
key_read b s (Id n) e f h is stands = grind (arith, nat_tests)
key_read b s (Name u) e f h is stands =
    let yes : has_name e ≡ true = grind (arith, nat_tests, is, h) in
    let place : name_offset e ≡ s = omega (arith, is, h) in
    let m : ℕ = length u / 2 in
    let twice : 2 * m ≡ length u = omega (arith, f.0) in
    let after : Stands b (s + 2) u = rest_of_number b s 2 m u stands in
    let there : s + 2 + length u ≤ length b = inside b (s + 2) (length u) u refl after in
    let count : le b s 2 ≡ m = number b s 2 m (omega (arith, f.1)) (left b s (bytes_of 2 m) u stands) in
    let units : name_units b e ≡ Ok (Some u) =
    name_by (has_name e) (holds b (name_offset e) 2) (λ n. holds b (name_offset e + 2) (2 * n)) (le b (name_offset e) 2) m (λ n. range b (name_offset e + 2) (2 * n)) u
    yes
    (rw place (grind (arith, nat_tests, there)))
    (rw place count)
    (rw (place, twice) (grind (arith, nat_tests, there)))
    (rw (place, twice) (part b (s + 2) (length u) u refl after)) in
    ap (λ (r : Result (Option (List ℕ)) Refusal). r >>= λ v. Ok (key_by e v)) units

-- ---- data

-- a content with its zeros is as long as the content at least
pub padded_more : (n : ℕ) → n ≤ padded_length n
padded_more n = grind (arith, nat_tests)

abbrev pub entry_with : ℕ → Leaf → ResourceDataEntry
entry_with a x = record { offset_to_data = a; size = length x.content; code_page = x.code_page; reserved = 0 }

-- the data entry of a leaf is at p, and leads to its content at the RVA a
pub record LeafData (b : List ℕ) (rva p a : ℕ) (x : Leaf) : Type 0 where
  pub entry : data_entry_at b p ≡ entry_with a x
  pub head : p + 16 ≤ length b
  pub above : rva ≤ a
  pub content : range b (a - rva) (length x.content) ≡ x.content
  pub inside : a - rva + length x.content ≤ length b

abbrev pub DataStand : List ℕ → ℕ → ℕ → ℕ → List Leaf → Type 0
DataStand b rva p a [] = Unit {0}
DataStand b rva p a (x ∷ xs) = LeafData b rva p a x × DataStand b rva (p + 16) (a + padded_size x) xs

pub data_stand : (b : List ℕ) (rva p a : ℕ) (xs : List Leaf) → rva ≤ a → a + total padded_size xs < 4294967296 → Each LeafFits xs → Stands b p (data_entries a xs) → Stands b (a - rva) (contents xs) → DataStand b rva p a xs
unfolding total data_entries contents data_entry_at
data_stand b rva p a [] h i f e c = tt
data_stand b rva p a (x ∷ xs) h i f e c =
    let n : ℕ = length x.content in
    let g : ℕ = x.code_page in
    let rest : List ℕ = data_entries (a + padded_size x) xs in
    let zeros : List ℕ = replicate (padded_size x - n) 0 in
    let small : n ≤ padded_size x = padded_more n in
    let t4 : List ℕ = bytes_of 4 0 ++ rest in
    let t3 : List ℕ = bytes_of 4 g ++ t4 in
    let t2 : List ℕ = bytes_of 4 n ++ t3 in
    let e2 : Stands b (p + 4) t2 = rest_of_number b p 4 a t2 e in
    let e3 : Stands b (p + 8) t3 = moved b (p + 4 + 4) (p + 8) t3 (omega arith) (rest_of_number b (p + 4) 4 n t3 e2) in
    let e4 : Stands b (p + 12) t4 = moved b (p + 8 + 4) (p + 12) t4 (omega arith) (rest_of_number b (p + 8) 4 g t4 e3) in
    let e5 : Stands b (p + 16) rest = moved b (p + 12 + 4) (p + 16) rest (omega arith) (rest_of_number b (p + 12) 4 0 rest e4) in
    let one : le b p 4 ≡ a = number b p 4 a (omega (arith, i)) (left b p (bytes_of 4 a) t2 e) in
    let two : le b (p + 4) 4 ≡ n = number b (p + 4) 4 n (omega (arith, i, small)) (left b (p + 4) (bytes_of 4 n) t3 e2) in
    let three : le b (p + 8) 4 ≡ g = number b (p + 8) 4 g (omega (arith, f.0.code_page)) (left b (p + 8) (bytes_of 4 g) t4 e3) in
    let four : le b (p + 12) 4 ≡ 0 = number b (p + 12) 4 0 (omega arith) (left b (p + 12) (bytes_of 4 0) rest e4) in
    let room : p + 12 + 4 ≤ length b = inside b (p + 12) 4 (bytes_of 4 0) (length-bytes_of 4 0) (left b (p + 12) (bytes_of 4 0) rest e4) in
    let here : Stands b (a - rva) x.content = left b (a - rva) x.content zeros (left b (a - rva) (x.content ++ zeros) (contents xs) c) in
    let long : length (x.content ++ zeros) ≡ padded_size x = length-append x.content zeros ∙ omega (arith, small, length-replicate {A = ℕ} (padded_size x - n) 0) in
    let more : Stands b (a - rva + padded_size x) (contents xs) = right b (a - rva) (padded_size x) (x.content ++ zeros) (contents xs) long c in
    let next : Stands b (a + padded_size x - rva) (contents xs) = moved b (a - rva + padded_size x) (a + padded_size x - rva) (contents xs) (omega (arith, h)) more in (
      record {
        entry = rw (one, two, three, four) refl;
        head = omega (arith, room);
        above = h;
        content = part b (a - rva) n x.content refl here;
        inside = inside b (a - rva) n x.content refl here;
      },
      data_stand b rva (p + 16) (a + padded_size x) xs (omega (arith, h)) (omega (arith, i)) f.1 e5 next,
    )

pub data_left : (b : List ℕ) (rva p a : ℕ) (xs ys : List Leaf) → DataStand b rva p a (xs ++ ys) → DataStand b rva p a xs
data_left b rva p a [] ys d = tt
data_left b rva p a (x ∷ xs) ys d = (d.0, data_left b rva (p + 16) (a + padded_size x) xs ys d.1)

data_moved : (b : List ℕ) (rva p q a c : ℕ) (xs : List Leaf) → p ≡ q → a ≡ c → DataStand b rva p a xs → DataStand b rva q c xs
data_moved b rva p q a c xs e f d = subst (λ (k : ℕ). DataStand b rva q k xs) f (subst (λ (k : ℕ). DataStand b rva k a xs) e d)

pub data_right : (b : List ℕ) (rva p a : ℕ) (xs ys : List Leaf) → DataStand b rva p a (xs ++ ys) → DataStand b rva (p + 16 * length xs) (a + total padded_size xs) ys
unfolding total
data_right b rva p a [] ys d = data_moved b rva p (p + 16 * 0) a (a + 0) ys (omega arith) (omega arith) d
data_right b rva p a (x ∷ xs) ys d = grind (arith, data_right b rva (p + 16) (a + padded_size x) xs ys d.1)

-- ---- one leaf

content_read : (b : List ℕ) (rva p a : ℕ) (x : Leaf) → LeafData b rva p a x → read_content b rva (entry_with a x) ≡ Ok x.content
content_read b rva p a x d = grind (arith, nat_tests)

leaf_found : (b : List ℕ) (rva p a : ℕ) (x : Leaf) (t n e : ResourceEntry) → e.offset_to_data_or_directory ≡ p → p < 2147483648 → LeafData b rva p a x → leaf_of b t n e ≡ Ok (record { resource_type = t; name = n; language = e; data_entry = entry_with a x })
unfolding leaf_of
leaf_found b rva p a x t n e is low d = grind (arith, nat_tests)

nothing : (b : List ℕ) → Stands b 0 []
nothing b = record { front = []; back = b; is = refl; size = refl }

pub leaf_read : (b : List ℕ) (rva p a : ℕ) (x : Leaf) (t n e : ResourceEntry) → read_key b t ≡ Ok x.resource_type → read_key b n ≡ Ok x.name → e.name_or_id ≡ x.language → e.offset_to_data_or_directory ≡ p → p < 2147483648 → x.language < 65536 → LeafData b rva p a x → read_item b rva (leaf_of b t n e) ≡ Ok x
unfolding read_leaf
leaf_read b rva p a x t n e h i j k low small d =
    ap (read_item b rva) (leaf_found b rva p a x t n e k low d)
    ∙ rw (h, i, (key_read b 0 (Id x.language) e small (omega arith) j (nothing b)), (content_read b rva p a x d)) refl
