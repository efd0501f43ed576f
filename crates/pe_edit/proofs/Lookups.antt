-- A leaf that is looked for in a section is the first with its keys of the runs.
use Rattle.std.proofs.Common.{◌≡◌, ℕ, ◌+◌, ◌*◌, ◌<◌, ◌==◌, Bool, List, [], ◌∷◌, length, cond, Option, Some, None, Result, Ok, refl, ap, sym, ◌∙◌, subst, arith, length-append}
use Rattle.pe_edit.proofs.Cited.{find, flat_map, false≢true, nat_tests, ResourceEntry, TreeRefusal, leaf_of, name_units}
use Rattle.pe_edit.proofs.Cited.{table_below, entries, has_id, has_name, with_id, Layout, as_read, entries_below, entries_of}
use Rattle.pe_edit.proofs.Cited.{found_language, found_leaf, found_name, found_type, has_key, is_key, with_key, read_item, read_key}
use Rattle.pe_edit.proofs.Cited.{elements, Each, Fits, Id, Key, KeyFits, Leaf, LeafFits, directory_to, entries_to, entry_size}
use Rattle.pe_edit.proofs.Cited.{key_eq, key_number, language_key, layout_of, name_bytes, name_key, name_size, names, padded_size}
use Rattle.pe_edit.proofs.Cited.{resource_size, resource_tables, section, section_at, section_length, total, type_key, type_size}
use Rattle.pe_edit.proofs.Cited.{type_tables, types_of}
use Rattle.pe_edit.proofs.Levels.{NamesStand, TypesStand, few_names, more_names, more_types, names_stand, some_name, total_16, total_no_names}
use Rattle.pe_edit.proofs.Nested.{names_of, names_all}
use Rattle.pe_edit.proofs.Reading.{DataStand, data_left, key_read, leaf_read}
use Rattle.pe_edit.proofs.Runs.{EachHas, each_first, each_left, each_right, each_weaker}
use Rattle.pe_edit.proofs.SectionRead.{first_read, is_layout, parts_stand, types_stand}
use Rattle.pe_edit.proofs.Stands.{Stands, left}
use Rattle.pe_edit.proofs.Tables.{below, entries_fit, entries_read, entry_list}

-- ---- in runs

abbrev pub in_languages : ℕ → List Leaf → Option Leaf
in_languages l xs = find (λ x. x.language == l) xs

abbrev pub in_names : Key → ℕ → List (Leaf × List Leaf) → Option Leaf
in_names n l [] = None
in_names n l (r ∷ rs) = cond (key_eq (name_key r) n) (in_languages l (elements r)) (in_names n l rs)

abbrev pub in_types : Key → Key → ℕ → List (Leaf × List Leaf) → Option Leaf
in_types t n l [] = None
in_types t n l (r ∷ rs) = cond (key_eq (type_key r) t) (in_names n l (names_of r)) (in_types t n l rs)

-- ---- languages

language_at : (b : List ℕ) (rva : ℕ) (t n e : ResourceEntry) (u v : Bool) (f : Option ResourceEntry) (x : Leaf) (g : Option Leaf) → u ≡ v → read_item b rva (leaf_of b t n e) ≡ Ok x → found_language b rva t n f ≡ as_read g →
    found_language b rva t n (cond u (Some e) f) ≡ as_read (cond v (Some x) g)
language_at b rva t n e u v f x g h i j = grind (arith, false≢true)

languages_found : (b : List ℕ) (rva p a s l : ℕ) (t n : ResourceEntry) (kt kn : Key) (xs : List Leaf) →
    read_key b t ≡ Ok kt → read_key b n ≡ Ok kn → EachHas (λ x. x.resource_type) kt xs → EachHas (λ x. x.name) kn xs → Each LeafFits xs →
    p + 16 * length xs < 2147483648 → DataStand b rva p a xs →
    found_language b rva t n (with_id l (entry_list language_key entry_size s p xs)) ≡ as_read (in_languages l xs)
languages_found b rva p a s l t n kt kn [] h i et en f low d = refl
languages_found b rva p a s l t n kt kn (x ∷ xs) h i et en f low d =
    let e : ResourceEntry = record { name_or_id = x.language; offset_to_data_or_directory = p } in
    let one : read_item b rva (leaf_of b t n e) ≡ Ok x =
    leaf_read b rva p a x t n e (h ∙ ap (λ (k : Key). Ok k) (sym et.0)) (i ∙ ap (λ (k : Key). Ok k) (sym en.0)) refl refl (omega (arith, low)) f.0.language d.0 in
    language_at b rva t n e (has_id l e) (x.language == l) (with_id l (entry_list language_key entry_size (s + 0) (p + 16) xs)) x
    (in_languages l xs) (grind (arith, nat_tests, f.0.language)) one
    (languages_found b rva (p + 16) (a + padded_size x) (s + 0) l t n kt kn xs h i et.1 en.1 f.1 (omega (arith, low)) d.1)

-- ---- names

name_found : (b : List ℕ) (rva q e a s l : ℕ) (t n : ResourceEntry) (kt : Key) (r : Leaf × List Leaf) →
    read_key b t ≡ Ok kt → read_key b n ≡ Ok (name_key r) → n.offset_to_data_or_directory ≡ 2147483648 + q → q < 2147483648 →
    EachHas (λ x. x.resource_type) kt (elements r) → EachHas (λ x. x.name) (name_key r) (elements r) → Each LeafFits (elements r) → length (elements r) < 65536 →
    e + 16 * length (elements r) < 2147483648 → Stands b q (directory_to language_key entry_size 0 e (elements r)) → DataStand b rva e a (elements r) →
    found_language b rva t n (with_id l (entries_below b n)) ≡ as_read (in_languages l (elements r))
name_found b rva q e a s l t n kt r h i is low et en f few end stands d =
    let xs : List Leaf = elements r in
    let table : table_below b n ≡ Ok (entries_to language_key entry_size 0 e xs) = below language_key entry_size b q 0 e xs n few (omega arith) low is stands in
    let listed : entries (entries_to language_key entry_size 0 e xs) ≡ entry_list language_key entry_size 0 e xs =
    entries_read language_key entry_size 0 e xs (entries_fit language_key entry_size 0 e xs (λ x. omega arith) (each_weaker LeafFits (λ x. KeyFits (language_key x)) xs (λ x g. g.language) f) (omega (arith, total_no_names xs)) (omega (arith, total_16 xs, end))) in
    ap (λ (y : Result (List ℕ) TreeRefusal). found_language b rva t n (with_id l (entries_of y))) table
    ∙ ap (λ (ls : List ResourceEntry). found_language b rva t n (with_id l ls)) listed
    ∙ languages_found b rva e a 0 l t n kt (name_key r) xs h i et en f end d

name_at : (b : List ℕ) (rva l : ℕ) (t n : ResourceEntry) (u v : Bool) (f : Option ResourceEntry) (x g : Option Leaf) → u ≡ v → found_language b rva t n (with_id l (entries_below b n)) ≡ as_read x → found_name b rva l t f ≡ as_read g →
    found_name b rva l t (cond u (Some n) f) ≡ as_read (cond v x g)
name_at b rva l t n u v f x g h i j = grind (arith, false≢true)

names_found : (b : List ℕ) (rva s p q e a l : ℕ) (t : ResourceEntry) (kt name : Key) (rs : List (Leaf × List Leaf)) →
    read_key b t ≡ Ok kt → p ≡ 2147483648 + q → EachHas (λ x. x.resource_type) kt (flat_map elements rs) → NamesStand b rva s q e a rs →
    found_name b rva l t (with_key b name (entry_list name_key resource_size s p rs)) ≡ as_read (in_names name l rs)
unfolding total resource_tables
names_found b rva s p q e a l t kt name [] h is et k = refl
names_found b rva s p q e a l t kt name (r ∷ rs) h is et k =
    let n : ResourceEntry = record { name_or_id = key_number s (name_key r); offset_to_data_or_directory = p } in
    let xs : List Leaf = elements r in
    let ys : List Leaf = flat_map elements rs in
    let all : length (flat_map elements (r ∷ rs)) ≡ length xs + length ys = length-append xs ys in
    let fits : LeafFits r.0 = k.fit.0 in
    let key : read_key b n ≡ Ok (name_key r) =
    key_read b s (name_key r) n fits.name (omega (arith, k.strings_end)) refl (left b s (name_bytes (name_key r)) (names name_key rs) k.strings) in
    let mine : found_language b rva t n (with_id l (entries_below b n)) ≡ as_read (in_languages l xs) =
    name_found b rva q e a s l t n kt r h key is (omega (arith, k.tables_end)) (each_left (λ x. x.resource_type ≡ kt) xs ys et) (refl, k.alike.0)
    (each_left LeafFits xs ys k.fit) (omega (arith, k.few, all)) (omega (arith, k.entries_end, all))
    (left b q (directory_to language_key entry_size 0 e xs) (resource_tables (e + 16 * length xs) rs) k.tables) (data_left b rva e a xs ys k.content) in
    name_at b rva l t n (has_key b name n) (key_eq (name_key r) name) (with_key b name (entry_list name_key resource_size (s + name_size (name_key r)) (p + resource_size r) rs)) (in_languages l xs) (in_names name l rs)
    (ap (is_key name) key) mine
    (names_found b rva (s + name_size (name_key r)) (p + resource_size r) (q + resource_size r) (e + 16 * length xs) (a + total padded_size xs) l t kt name rs h (omega (arith, is)) (each_right (λ x. x.resource_type ≡ kt) xs ys et) (more_names b rva s q e a r rs k))

-- ---- types

type_found : (b : List ℕ) (rva q sn q3 e a l : ℕ) (name : Key) (te : ResourceEntry) (t : Leaf × List Leaf) →
    read_key b te ≡ Ok (type_key t) → te.offset_to_data_or_directory ≡ 2147483648 + q → q < 2147483648 → Stands b q (directory_to name_key resource_size sn (2147483648 + q3) (names_of t)) →
    EachHas (λ x. x.resource_type) (type_key t) (elements t) → NamesStand b rva sn q3 e a (names_of t) →
    found_name b rva l te (with_key b name (entries_below b te)) ≡ as_read (in_names name l (names_of t))
type_found b rva q sn q3 e a l name te t key is low stands et k =
    let ns : List (Leaf × List Leaf) = names_of t in
    let p : ℕ = 2147483648 + q3 in
    let same : flat_map elements ns ≡ elements t = names_all t in
    let few : length ns < 65536 = omega (arith, few_names t, k.few, ap length same) in
    let table : table_below b te ≡ Ok (entries_to name_key resource_size sn p ns) = below name_key resource_size b q sn p ns te few (some_name t) low is stands in
    let keys : Each (λ r. KeyFits (name_key r)) ns = each_weaker (λ r. LeafFits r.0) (λ r. KeyFits (name_key r)) ns (λ r f. f.name) (each_first LeafFits ns k.fit) in
    let listed : entries (entries_to name_key resource_size sn p ns) ≡ entry_list name_key resource_size sn p ns =
    entries_read name_key resource_size sn p ns (entries_fit name_key resource_size sn p ns (λ r. omega arith) keys k.strings_end (omega (arith, k.tables_end))) in
    ap (λ (y : Result (List ℕ) TreeRefusal). found_name b rva l te (with_key b name (entries_of y))) table
    ∙ ap (λ (ls : List ResourceEntry). found_name b rva l te (with_key b name ls)) listed
    ∙ names_found b rva sn p q3 e a l te (type_key t) name ns key refl (subst (λ (z : List Leaf). EachHas (λ x. x.resource_type) (type_key t) z) (sym same) et) k

type_at : (b : List ℕ) (rva l : ℕ) (name : Key) (t : ResourceEntry) (u v : Bool) (f : Option ResourceEntry) (x g : Option Leaf) → u ≡ v → found_name b rva l t (with_key b name (entries_below b t)) ≡ as_read x → found_type b rva name l f ≡ as_read g →
    found_type b rva name l (cond u (Some t) f) ≡ as_read (cond v x g)
type_at b rva l name t u v f x g h i j = grind (arith, false≢true)

types_found : (b : List ℕ) (rva s p q sn q3 e a l : ℕ) (kind name : Key) (ts : List (Leaf × List Leaf)) → p ≡ 2147483648 + q → TypesStand b rva s q sn q3 e a ts →
    found_type b rva name l (with_key b kind (entry_list type_key type_size s p ts)) ≡ as_read (in_types kind name l ts)
unfolding total type_tables
types_found b rva s p q sn q3 e a l kind name [] is k = refl
types_found b rva s p q sn q3 e a l kind name (t ∷ ts) is k =
    let te : ResourceEntry = record { name_or_id = key_number s (type_key t); offset_to_data_or_directory = p } in
    let xs : List Leaf = elements t in
    let fits : LeafFits t.0 = k.fit.0 in
    let key : read_key b te ≡ Ok (type_key t) =
    key_read b s (type_key t) te fits.resource_type (omega (arith, k.type_strings_end)) refl (left b s (name_bytes (type_key t)) (names type_key ts) k.type_strings) in
    let mine : found_name b rva l te (with_key b name (entries_below b te)) ≡ as_read (in_names name l (names_of t)) =
    type_found b rva q sn q3 e a l name te t key is (omega (arith, k.tables_end))
    (left b q (directory_to name_key resource_size sn (2147483648 + q3) (names_of t)) (type_tables (sn + total (λ n. name_size (name_key n)) (names_of t)) (2147483648 + q3 + total resource_size (names_of t)) ts) k.tables)
    (refl, k.alike.0) (names_stand b rva s q sn q3 e a t ts k) in
    type_at b rva l name te (has_key b kind te) (key_eq (type_key t) kind) (with_key b kind (entry_list type_key type_size (s + name_size (type_key t)) (p + type_size t) ts)) (in_names name l (names_of t)) (in_types kind name l ts)
    (ap (is_key kind) key) mine
    (types_found b rva (s + name_size (type_key t)) (p + type_size t) (q + type_size t) (sn + total (λ n. name_size (name_key n)) (names_of t)) (q3 + total resource_size (names_of t)) (e + 16 * length xs) (a + total padded_size xs) l kind name ts (omega (arith, is)) (more_types b rva s q sn q3 e a t ts k))

pub found_in_runs : (rva : ℕ) (xs : List Leaf) (kind name : Key) (l : ℕ) → Fits rva xs → found_leaf (section rva xs) rva kind name l ≡ as_read (in_types kind name l (types_of xs))
unfolding found_leaf section section_length
found_in_runs rva xs kind name l f =
    let y : Layout = layout_of xs in
    let b : List ℕ = section_at y rva xs in
    ap (λ (es : List ResourceEntry). found_type b rva name l (with_key b kind es)) (first_read b y rva xs (is_layout xs) (parts_stand y rva xs (is_layout xs)) f.few f.each f.tables)
    ∙ types_found b rva y.type_names (2147483648 + y.types) y.types y.names y.languages y.entries (rva + y.contents) l kind name (types_of xs) refl
    (types_stand b y rva xs (is_layout xs) (parts_stand y rva xs (is_layout xs)) f.few f.each f.tables (omega (arith, f.end)))

-- ---- ids

id_key_at : (b : List ℕ) (n : ℕ) (e : ResourceEntry) (t : Bool) → has_name e ≡ t → has_key b (Id n) e ≡ has_id n e
unfolding name_units
id_key_at b n e t h = grind (arith, false≢true)

-- a search by an id is that of pe_resource
pub by_id : (b : List ℕ) (n : ℕ) (es : List ResourceEntry) → with_key b (Id n) es ≡ with_id n es
by_id b n es = grind (arith, id_key_at)
