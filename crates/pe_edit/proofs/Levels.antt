-- The three levels that are written are read.
use Rattle.std.proofs.Common.{◌≡◌, ℕ, ◌+◌, ◌*◌, ◌<◌, ◌≤◌, true, List, [], ◌∷◌, ◌++◌, length, map, Result, Ok, refl, ap, sym, ◌∙◌, subst, arith, length-append}
use Rattle.pe_edit.proofs.Cited.{flat_map, map-append, false≢true, nat_tests, length-bytes_of, ResourceEntry, TreeRefusal, in_table}
use Rattle.pe_edit.proofs.Cited.{table_below, leaf_of, leaves_of_name, leaves_of_type, tree_leaves, entries, elements, Key, Leaf}
use Rattle.pe_edit.proofs.Cited.{Each, total, name_size, name_bytes, names, key_number, KeyFits, LeafFits, padded_size, entries_to}
use Rattle.pe_edit.proofs.Cited.{directory_to, type_key, name_key, language_key, resources_of, type_size, resource_size, below_size}
use Rattle.pe_edit.proofs.Cited.{names_size, entry_size, type_tables, resource_tables, key_eq, same_type, same_resource}
use Rattle.pe_edit.proofs.Cited.{LeafRefusal, read_key, read_item, both}
use Rattle.std.proofs.lemmas.Slice.Eq.{bytes_eq-Decides}
use Rattle.pe_edit.proofs.Nested.{names_of, all_names, language_tables, names_all}
use Rattle.pe_edit.proofs.Runs.{EachHas, RunsAlike, runs_alike, count_of_runs, some_run, each_left, each_right, each_weaker, each_first}
use Rattle.pe_edit.proofs.Stands.{Stands, left, right}
use Rattle.pe_edit.proofs.Tables.{entry_list, entries_read, entries_fit, length-directory_to, below}
use Rattle.pe_edit.proofs.Reading.{DataStand, data_left, data_right, leaf_read, key_read}

abbrev Item : Type 0
Item = Result Leaf LeafRefusal

abbrev done : List Leaf → List Item
done xs = map (λ x. Ok x) xs

-- ---- languages

languages_read : (b : List ℕ) (rva p a s : ℕ) (t n : ResourceEntry) (kt kn : Key) (xs : List Leaf) →
    read_key b t ≡ Ok kt → read_key b n ≡ Ok kn → EachHas (λ x. x.resource_type) kt xs → EachHas (λ x. x.name) kn xs → Each LeafFits xs →
    p + 16 * length xs < 2147483648 → DataStand b rva p a xs →
    map (read_item b rva) (map (leaf_of b t n) (entry_list language_key entry_size s p xs)) ≡ done xs
languages_read b rva p a s t n kt kn [] h i et en f low d = refl
languages_read b rva p a s t n kt kn (x ∷ xs) h i et en f low d =
    let e : ResourceEntry = record { name_or_id = x.language; offset_to_data_or_directory = p } in
    let one : read_item b rva (leaf_of b t n e) ≡ Ok x =
    leaf_read b rva p a x t n e (h ∙ ap (λ (k : Key). Ok k) (sym et.0)) (i ∙ ap (λ (k : Key). Ok k) (sym en.0)) refl refl (omega (arith, low)) f.0.language d.0 in
    let rest : map (read_item b rva) (map (leaf_of b t n) (entry_list language_key entry_size (s + 0) (p + 16) xs)) ≡ done xs =
    languages_read b rva (p + 16) (a + padded_size x) (s + 0) t n kt kn xs h i et.1 en.1 f.1 (omega (arith, low)) d.1 in
    ap (λ (y : Item). y ∷ map (read_item b rva) (map (leaf_of b t n) (entry_list language_key entry_size (s + 0) (p + 16) xs))) one
    ∙ ap (λ (ys : List Item). Ok x ∷ ys) rest

-- ---- names

pub total_16 : (xs : List Leaf) → total entry_size xs ≡ 16 * length xs
unfolding total
total_16 [] = refl
total_16 (x ∷ xs) = omega (arith, total_16 xs)

pub total_no_names : (xs : List Leaf) → total (λ x. name_size (language_key x)) xs ≡ 0
unfolding total
total_no_names [] = refl
total_no_names (x ∷ xs) = omega (arith, total_no_names xs)

-- the leaves of one name
name_read : (b : List ℕ) (rva q e a s : ℕ) (t n : ResourceEntry) (kt : Key) (r : Leaf × List Leaf) →
    read_key b t ≡ Ok kt → read_key b n ≡ Ok (name_key r) → n.offset_to_data_or_directory ≡ 2147483648 + q → q < 2147483648 →
    EachHas (λ x. x.resource_type) kt (elements r) → EachHas (λ x. x.name) (name_key r) (elements r) → Each LeafFits (elements r) → length (elements r) < 65536 →
    e + 16 * length (elements r) < 2147483648 → Stands b q (directory_to language_key entry_size 0 e (elements r)) → DataStand b rva e a (elements r) →
    map (read_item b rva) (leaves_of_name b t n) ≡ done (elements r)
unfolding leaves_of_name
name_read b rva q e a s t n kt r h i is low et en f few end stands d =
    let xs : List Leaf = elements r in
    let table : table_below b n ≡ Ok (entries_to language_key entry_size 0 e xs) = below language_key entry_size b q 0 e xs n few (omega arith) low is stands in
    let listed : entries (entries_to language_key entry_size 0 e xs) ≡ entry_list language_key entry_size 0 e xs =
    entries_read language_key entry_size 0 e xs (entries_fit language_key entry_size 0 e xs (λ x. omega arith) (each_weaker LeafFits (λ x. KeyFits (language_key x)) xs (λ x g. g.language) f) (omega (arith, total_no_names xs)) (omega (arith, total_16 xs, end))) in
    ap (λ (y : Result (List ℕ) TreeRefusal). map (read_item b rva) (in_table y (λ ls. map (leaf_of b t n) ls))) table
    ∙ ap (λ (ls : List ResourceEntry). map (read_item b rva) (map (leaf_of b t n) ls)) listed
    ∙ languages_read b rva e a 0 t n kt (name_key r) xs h i et en f end d

done_append : (xs ys : List Leaf) → done (xs ++ ys) ≡ done xs ++ done ys
done_append xs ys = map-append (λ x. Ok x) xs ys

pub name_length : (k : Key) → length (name_bytes k) ≡ name_size k
name_length k = grind (arith, length-append, length-bytes_of)

-- what is known of names that are read
pub record NamesStand (b : List ℕ) (rva s q e a : ℕ) (rs : List (Leaf × List Leaf)) : Type 0 where
  pub strings : Stands b s (names name_key rs)
  pub tables : Stands b q (resource_tables e rs)
  pub content : DataStand b rva e a (flat_map elements rs)
  pub alike : RunsAlike (λ x. x.name) rs
  pub fit : Each LeafFits (flat_map elements rs)
  pub few : length (flat_map elements rs) < 65536
  pub strings_end : s + total (λ r. name_size (name_key r)) rs < 2147483648
  pub tables_end : q + total resource_size rs < 2147483648
  pub entries_end : e + 16 * length (flat_map elements rs) < 2147483648

pub more_names : (b : List ℕ) (rva s q e a : ℕ) (r : Leaf × List Leaf) (rs : List (Leaf × List Leaf)) → NamesStand b rva s q e a (r ∷ rs) →
    NamesStand b rva (s + name_size (name_key r)) (q + resource_size r) (e + 16 * length (elements r)) (a + total padded_size (elements r)) rs
unfolding total resource_tables
more_names b rva s q e a r rs k =
    let all : length (flat_map elements (r ∷ rs)) ≡ length (elements r) + length (flat_map elements rs) = length-append (elements r) (flat_map elements rs) in
    record {
      strings = right b s (name_size (name_key r)) (name_bytes (name_key r)) (names name_key rs) (name_length (name_key r)) k.strings;
      tables = right b q (resource_size r) (directory_to language_key entry_size 0 e (elements r)) (resource_tables (e + 16 * length (elements r)) rs) (length-directory_to language_key entry_size 0 e (elements r)) k.tables;
      content = data_right b rva e a (elements r) (flat_map elements rs) k.content;
      alike = k.alike.1;
      fit = each_right LeafFits (elements r) (flat_map elements rs) k.fit;
      few = omega (arith, k.few, all);
      strings_end = omega (arith, k.strings_end);
      tables_end = omega (arith, k.tables_end);
      entries_end = omega (arith, k.entries_end, all);
    }

names_read : (b : List ℕ) (rva s p q e a : ℕ) (t : ResourceEntry) (kt : Key) (rs : List (Leaf × List Leaf)) →
    read_key b t ≡ Ok kt → p ≡ 2147483648 + q → EachHas (λ x. x.resource_type) kt (flat_map elements rs) → NamesStand b rva s q e a rs →
    map (read_item b rva) (flat_map (leaves_of_name b t) (entry_list name_key resource_size s p rs)) ≡ done (flat_map elements rs)
unfolding total resource_tables
names_read b rva s p q e a t kt [] h is et k = refl
names_read b rva s p q e a t kt (r ∷ rs) h is et k =
    let n : ResourceEntry = record { name_or_id = key_number s (name_key r); offset_to_data_or_directory = p } in
    let xs : List Leaf = elements r in
    let ys : List Leaf = flat_map elements rs in
    let all : length (flat_map elements (r ∷ rs)) ≡ length xs + length ys = length-append xs ys in
    let fits : LeafFits r.0 = k.fit.0 in
    let key : read_key b n ≡ Ok (name_key r) =
    key_read b s (name_key r) n fits.name (omega (arith, k.strings_end)) refl (left b s (name_bytes (name_key r)) (names name_key rs) k.strings) in
    let mine : map (read_item b rva) (leaves_of_name b t n) ≡ done xs =
    name_read b rva q e a s t n kt r h key is (omega (arith, k.tables_end)) (each_left (λ x. x.resource_type ≡ kt) xs ys et) (refl, k.alike.0)
    (each_left LeafFits xs ys k.fit) (omega (arith, k.few, all)) (omega (arith, k.entries_end, all))
    (left b q (directory_to language_key entry_size 0 e xs) (resource_tables (e + 16 * length xs) rs) k.tables) (data_left b rva e a xs ys k.content) in
    let others : List ResourceEntry = entry_list name_key resource_size (s + name_size (name_key r)) (p + resource_size r) rs in
    let rest : map (read_item b rva) (flat_map (leaves_of_name b t) others) ≡ done ys =
    names_read b rva (s + name_size (name_key r)) (p + resource_size r) (q + resource_size r) (e + 16 * length xs) (a + total padded_size xs) t kt rs h (omega (arith, is)) (each_right (λ x. x.resource_type ≡ kt) xs ys et) (more_names b rva s q e a r rs k) in
    map-append (read_item b rva) (leaves_of_name b t n) (flat_map (leaves_of_name b t) others)
    ∙ ap (λ (l : List Item). l ++ map (read_item b rva) (flat_map (leaves_of_name b t) others)) mine
    ∙ ap (λ (l : List Item). done xs ++ l) rest
    ∙ sym (done_append xs ys)

-- ---- types

-- what is known of types that are read
pub record TypesStand (b : List ℕ) (rva s q sn q3 e a : ℕ) (ts : List (Leaf × List Leaf)) : Type 0 where
  pub type_strings : Stands b s (names type_key ts)
  pub tables : Stands b q (type_tables sn (2147483648 + q3) ts)
  pub strings : Stands b sn (all_names ts)
  pub languages : Stands b q3 (language_tables e ts)
  pub content : DataStand b rva e a (flat_map elements ts)
  pub alike : RunsAlike (λ x. x.resource_type) ts
  pub fit : Each LeafFits (flat_map elements ts)
  pub few : length (flat_map elements ts) < 65536
  pub type_strings_end : s + total (λ t. name_size (type_key t)) ts < 2147483648
  pub tables_end : q + total type_size ts < 2147483648
  pub strings_end : sn + total (λ t. names_size (names_of t)) ts < 2147483648
  pub languages_end : q3 + total (λ t. below_size (names_of t)) ts < 2147483648
  pub entries_end : e + 16 * length (flat_map elements ts) < 2147483648

pub length-names : {X : Type 0} (key : X → Key) (xs : List X) → length (names key xs) ≡ total (λ x. name_size (key x)) xs
unfolding total
length-names key [] = refl
length-names key (x ∷ xs) = length-append (name_bytes (key x)) (names key xs) ∙ omega (arith, name_length (key x), length-names key xs)

pub length-resource_tables : (p : ℕ) (ns : List (Leaf × List Leaf)) → length (resource_tables p ns) ≡ total resource_size ns
unfolding total resource_tables
length-resource_tables p [] = refl
length-resource_tables p (n ∷ ns) =
    let x : List ℕ = directory_to language_key entry_size 0 p (elements n) in
    length-append x (resource_tables (p + 16 * length (elements n)) ns) ∙ omega (arith, length-directory_to language_key entry_size 0 p (elements n), length-resource_tables (p + 16 * length (elements n)) ns)

pub more_types : (b : List ℕ) (rva s q sn q3 e a : ℕ) (t : Leaf × List Leaf) (ts : List (Leaf × List Leaf)) → TypesStand b rva s q sn q3 e a (t ∷ ts) →
    TypesStand b rva (s + name_size (type_key t)) (q + type_size t) (sn + names_size (names_of t)) (q3 + below_size (names_of t)) (e + 16 * length (elements t)) (a + total padded_size (elements t)) ts
unfolding total type_tables language_tables all_names
more_types b rva s q sn q3 e a t ts k =
    let all : length (flat_map elements (t ∷ ts)) ≡ length (elements t) + length (flat_map elements ts) = length-append (elements t) (flat_map elements ts) in
    record {
      type_strings = right b s (name_size (type_key t)) (name_bytes (type_key t)) (names type_key ts) (name_length (type_key t)) k.type_strings;
      tables = subst (λ (n : ℕ). Stands b (q + type_size t) (type_tables (sn + names_size (names_of t)) n ts)) (omega arith)
          (right b q (type_size t) (directory_to name_key resource_size sn (2147483648 + q3) (names_of t)) (type_tables (sn + names_size (names_of t)) (2147483648 + q3 + below_size (names_of t)) ts) (length-directory_to name_key resource_size sn (2147483648 + q3) (names_of t)) k.tables);
      strings = right b sn (names_size (names_of t)) (names name_key (names_of t)) (all_names ts) (length-names name_key (names_of t)) k.strings;
      languages = right b q3 (below_size (names_of t)) (resource_tables e (names_of t)) (language_tables (e + 16 * length (elements t)) ts) (length-resource_tables e (names_of t)) k.languages;
      content = data_right b rva e a (elements t) (flat_map elements ts) k.content;
      alike = k.alike.1;
      fit = each_right LeafFits (elements t) (flat_map elements ts) k.fit;
      few = omega (arith, k.few, all);
      type_strings_end = omega (arith, k.type_strings_end);
      tables_end = omega (arith, k.tables_end);
      strings_end = omega (arith, k.strings_end);
      languages_end = omega (arith, k.languages_end);
      entries_end = omega (arith, k.entries_end, all);
    }

pub same_keys : (x y : Key) → key_eq x y ≡ true → x ≡ y
same_keys x y h = grind (arith, nat_tests, false≢true, bytes_eq-Decides)

pub names_alike : (t : Leaf × List Leaf) → RunsAlike (λ x. x.name) (names_of t)
unfolding resources_of
names_alike t = runs_alike (λ x. x.name) same_resource (elements t) (λ x y h. same_keys x.name y.name (both (same_type x y) (key_eq x.name y.name) h).1)

pub some_name : (t : Leaf × List Leaf) → 0 < length (names_of t)
unfolding resources_of
some_name t = some_run same_resource t.0 t.1

pub few_names : (t : Leaf × List Leaf) → length (names_of t) ≤ length (elements t)
unfolding resources_of
few_names t = count_of_runs same_resource (elements t)

-- the names of one type
pub names_stand : (b : List ℕ) (rva s q sn q3 e a : ℕ) (t : Leaf × List Leaf) (ts : List (Leaf × List Leaf)) → TypesStand b rva s q sn q3 e a (t ∷ ts) → NamesStand b rva sn q3 e a (names_of t)
unfolding total language_tables all_names
names_stand b rva s q sn q3 e a t ts k =
    grind (arith, length-append, names_of, names_all, left, all_names, language_tables, data_left, names_alike, each_left)

type_read : (b : List ℕ) (rva q sn q3 e a : ℕ) (te : ResourceEntry) (t : Leaf × List Leaf) →
    read_key b te ≡ Ok (type_key t) → te.offset_to_data_or_directory ≡ 2147483648 + q → q < 2147483648 → Stands b q (directory_to name_key resource_size sn (2147483648 + q3) (names_of t)) →
    EachHas (λ x. x.resource_type) (type_key t) (elements t) → NamesStand b rva sn q3 e a (names_of t) →
    map (read_item b rva) (leaves_of_type b te) ≡ done (elements t)
unfolding leaves_of_type
type_read b rva q sn q3 e a te t key is low stands et k =
    let ns : List (Leaf × List Leaf) = names_of t in
    let p : ℕ = 2147483648 + q3 in
    let same : flat_map elements ns ≡ elements t = names_all t in
    let few : length ns < 65536 = omega (arith, few_names t, k.few, ap length same) in
    let table : table_below b te ≡ Ok (entries_to name_key resource_size sn p ns) = below name_key resource_size b q sn p ns te few (some_name t) low is stands in
    let keys : Each (λ r. KeyFits (name_key r)) ns = each_weaker (λ r. LeafFits r.0) (λ r. KeyFits (name_key r)) ns (λ r f. f.name) (each_first LeafFits ns k.fit) in
    let listed : entries (entries_to name_key resource_size sn p ns) ≡ entry_list name_key resource_size sn p ns =
    entries_read name_key resource_size sn p ns (entries_fit name_key resource_size sn p ns (λ r. omega arith) keys k.strings_end (omega (arith, k.tables_end))) in
    ap (λ (y : Result (List ℕ) TreeRefusal). map (read_item b rva) (in_table y (λ ns. flat_map (leaves_of_name b te) ns))) table
    ∙ ap (λ (ls : List ResourceEntry). map (read_item b rva) (flat_map (leaves_of_name b te) ls)) listed
    ∙ names_read b rva sn p q3 e a te (type_key t) ns key refl (subst (λ (l : List Leaf). EachHas (λ x. x.resource_type) (type_key t) l) (sym same) et) k
    ∙ ap done same

pub types_read : (b : List ℕ) (rva s p q sn q3 e a : ℕ) (ts : List (Leaf × List Leaf)) → p ≡ 2147483648 + q → TypesStand b rva s q sn q3 e a ts →
    map (read_item b rva) (tree_leaves b (entry_list type_key type_size s p ts)) ≡ done (flat_map elements ts)
unfolding total type_tables
types_read b rva s p q sn q3 e a [] is k = refl
types_read b rva s p q sn q3 e a (t ∷ ts) is k =
    let te : ResourceEntry = record { name_or_id = key_number s (type_key t); offset_to_data_or_directory = p } in
    let xs : List Leaf = elements t in
    let ys : List Leaf = flat_map elements ts in
    let fits : LeafFits t.0 = k.fit.0 in
    let key : read_key b te ≡ Ok (type_key t) =
    key_read b s (type_key t) te fits.resource_type (omega (arith, k.type_strings_end)) refl (left b s (name_bytes (type_key t)) (names type_key ts) k.type_strings) in
    let mine : map (read_item b rva) (leaves_of_type b te) ≡ done xs =
    type_read b rva q sn q3 e a te t key is (omega (arith, k.tables_end))
    (left b q (directory_to name_key resource_size sn (2147483648 + q3) (names_of t)) (type_tables (sn + names_size (names_of t)) (2147483648 + q3 + below_size (names_of t)) ts) k.tables)
    (refl, k.alike.0) (names_stand b rva s q sn q3 e a t ts k) in
    let others : List ResourceEntry = entry_list type_key type_size (s + name_size (type_key t)) (p + type_size t) ts in
    let rest : map (read_item b rva) (tree_leaves b others) ≡ done ys =
    types_read b rva (s + name_size (type_key t)) (p + type_size t) (q + type_size t) (sn + names_size (names_of t)) (q3 + below_size (names_of t)) (e + 16 * length xs) (a + total padded_size xs) ts (omega (arith, is)) (more_types b rva s q sn q3 e a t ts k) in
    map-append (read_item b rva) (leaves_of_type b te) (tree_leaves b others)
    ∙ ap (λ (l : List Item). l ++ map (read_item b rva) (tree_leaves b others)) mine
    ∙ ap (λ (l : List Item). done xs ++ l) rest
    ∙ sym (done_append xs ys)
