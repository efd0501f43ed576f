-- A section that is written is read: to the leaves that it was written of.
use Rattle.std.proofs.Common.{◌≡◌, ℕ, ◌+◌, ◌-◌, ◌*◌, ◌<◌, ◌≤◌, List, [], ◌∷◌, ◌++◌, length, map, replicate, Ok, refl, ap, sym, ◌∙◌, subst, arith, length-append}
use Rattle.pe_edit.proofs.Cited.{flat_map, length-replicate, range, bytes_of, rounded_up, length-bytes_of, ResourceEntry}
use Rattle.pe_edit.proofs.Cited.{tree_leaves, entries, elements, Layout, Leaf, Each, total, name_size, names, KeyFits, LeafFits}
use Rattle.pe_edit.proofs.Cited.{Fits, padded_size, entries_to, directory_to, type_key, name_key, types_of, resources_of, type_size}
use Rattle.pe_edit.proofs.Cited.{resource_size, below_size, names_size, type_tables, resource_tables, same_type, data_entries}
use Rattle.pe_edit.proofs.Cited.{contents, layout_of, section_at, section, section_length, read_item, first_entries, leaves_in}
use Rattle.pe_edit.proofs.Nested.{names_of, names_in_types, tables_in_types, sum_in_types}
use Rattle.pe_edit.proofs.Runs.{RunsAlike, runs_all, runs_alike, count_of_runs, each_weaker, each_first}
use Rattle.pe_edit.proofs.Stands.{Stands, whole, left, right, moved}
use Rattle.pe_edit.proofs.Tables.{ReadTable, entry_list, entries_read, entries_fit, length-directory_to, table_read}
use Rattle.pe_edit.proofs.Reading.{DataStand, data_stand, padded_more}
use Rattle.pe_edit.proofs.Levels.{TypesStand, types_read, length-names, length-resource_tables, same_keys}

-- ---- lengths

pub length-type_tables : (s p : ℕ) (ts : List (Leaf × List Leaf)) → length (type_tables s p ts) ≡ total type_size ts
unfolding total type_tables
length-type_tables s p [] = refl
length-type_tables s p (t ∷ ts) =
    length-append (directory_to name_key resource_size s p (names_of t)) (type_tables (s + names_size (names_of t)) (p + below_size (names_of t)) ts)
    ∙ omega (arith, length-directory_to name_key resource_size s p (names_of t), length-type_tables (s + names_size (names_of t)) (p + below_size (names_of t)) ts)

pub length-data_entries : (a : ℕ) (xs : List Leaf) → length (data_entries a xs) ≡ 16 * length xs
unfolding data_entries
length-data_entries a [] = refl
length-data_entries a (x ∷ xs) =
    let rest : List ℕ = data_entries (a + padded_size x) xs in
    let n : ℕ = length x.content in
    let t4 : List ℕ = bytes_of 4 0 ++ rest in
    let t3 : List ℕ = bytes_of 4 x.code_page ++ t4 in
    let t2 : List ℕ = bytes_of 4 n ++ t3 in
    length-append (bytes_of 4 a) t2
    ∙ omega (arith, length-append (bytes_of 4 n) t3, length-append (bytes_of 4 x.code_page) t4, length-append (bytes_of 4 0) rest, length-bytes_of 4 a, length-bytes_of 4 n, length-bytes_of 4 x.code_page, length-bytes_of 4 0, length-data_entries (a + padded_size x) xs)

pub length-contents : (xs : List Leaf) → length (contents xs) ≡ total padded_size xs
unfolding total contents
length-contents [] = refl
length-contents (x ∷ xs) =
    let n : ℕ = length x.content in
    let zeros : List ℕ = replicate (padded_size x - n) 0 in
    length-append (x.content ++ zeros) (contents xs)
    ∙ omega (arith, length-append x.content zeros, length-replicate {A = ℕ} (padded_size x - n) 0, padded_more n, length-contents xs)

-- ---- where the parts are

pub record IsLayout (l : Layout) (xs : List Leaf) : Type 0 where
  pub types : l.types ≡ 16 + 8 * length (types_of xs)
  pub languages : l.languages ≡ l.types + total type_size (types_of xs)
  pub entries : l.entries ≡ l.languages + below_size (resources_of xs)
  pub type_names : l.type_names ≡ l.entries + 16 * length xs
  pub names : l.names ≡ l.type_names + total (λ t. name_size (type_key t)) (types_of xs)
  pub names_end : l.names_end ≡ l.names + names_size (resources_of xs)
  pub contents : l.contents ≡ rounded_up l.names_end 8

pub is_layout : (xs : List Leaf) → IsLayout (layout_of xs) xs
unfolding layout_of
is_layout xs = record { types = refl; languages = refl; entries = refl; type_names = refl; names = refl; names_end = refl; contents = refl }

pub types_all : (xs : List Leaf) → flat_map elements (types_of xs) ≡ xs
unfolding types_of
types_all xs = runs_all same_type xs

pub types_alike : (xs : List Leaf) → RunsAlike (λ x. x.resource_type) (types_of xs)
unfolding types_of
types_alike xs = runs_alike (λ x. x.resource_type) same_type xs (λ x y h. same_keys x.resource_type y.resource_type h)

-- the parts of a section, each at its place
pub record Parts (b : List ℕ) (l : Layout) (rva : ℕ) (xs : List Leaf) : Type 0 where
  pub first : Stands b 0 (directory_to type_key type_size l.type_names (2147483648 + l.types) (types_of xs))
  pub tables : Stands b l.types (type_tables l.names (2147483648 + l.languages) (types_of xs))
  pub languages : Stands b l.languages (resource_tables l.entries (resources_of xs))
  pub entries : Stands b l.entries (data_entries (rva + l.contents) xs)
  pub type_strings : Stands b l.type_names (names type_key (types_of xs))
  pub strings : Stands b l.names (names name_key (resources_of xs))
  pub content : Stands b l.contents (contents xs)

pub parts_stand : (l : Layout) (rva : ℕ) (xs : List Leaf) → IsLayout l xs → Parts (section_at l rva xs) l rva xs
unfolding section_at
parts_stand l rva xs is =
    let ts : List (Leaf × List Leaf) = types_of xs in
    let ns : List (Leaf × List Leaf) = resources_of xs in
    let b : List ℕ = section_at l rva xs in
    let x1 : List ℕ = directory_to type_key type_size l.type_names (2147483648 + l.types) ts in
    let x2 : List ℕ = type_tables l.names (2147483648 + l.languages) ts in
    let x3 : List ℕ = resource_tables l.entries ns in
    let x4 : List ℕ = data_entries (rva + l.contents) xs in
    let x5 : List ℕ = names type_key ts in
    let x6 : List ℕ = names name_key ns in
    let x7 : List ℕ = replicate (l.contents - l.names_end) 0 in
    let x8 : List ℕ = contents xs in
    let y7 : List ℕ = x7 ++ x8 in
    let y6 : List ℕ = x6 ++ y7 in
    let y5 : List ℕ = x5 ++ y6 in
    let y4 : List ℕ = x4 ++ y5 in
    let y3 : List ℕ = x3 ++ y4 in
    let y2 : List ℕ = x2 ++ y3 in
    let s1 : Stands b 0 (x1 ++ y2) = whole b in
    let s2 : Stands b l.types y2 = moved b (0 + (16 + 8 * length ts)) l.types y2 (omega (arith, is.types)) (right b 0 (16 + 8 * length ts) x1 y2 (length-directory_to type_key type_size l.type_names (2147483648 + l.types) ts) s1) in
    let s3 : Stands b l.languages y3 = moved b (l.types + total type_size ts) l.languages y3 (sym is.languages) (right b l.types (total type_size ts) x2 y3 (length-type_tables l.names (2147483648 + l.languages) ts) s2) in
    let s4 : Stands b l.entries y4 = moved b (l.languages + below_size ns) l.entries y4 (sym is.entries) (right b l.languages (below_size ns) x3 y4 (length-resource_tables l.entries ns) s3) in
    let s5 : Stands b l.type_names y5 = moved b (l.entries + 16 * length xs) l.type_names y5 (sym is.type_names) (right b l.entries (16 * length xs) x4 y5 (length-data_entries (rva + l.contents) xs) s4) in
    let s6 : Stands b l.names y6 = moved b (l.type_names + total (λ t. name_size (type_key t)) ts) l.names y6 (sym is.names) (right b l.type_names (total (λ t. name_size (type_key t)) ts) x5 y6 (length-names type_key ts) s5) in
    let s7 : Stands b l.names_end y7 = moved b (l.names + names_size ns) l.names_end y7 (sym is.names_end) (right b l.names (names_size ns) x6 y7 (length-names name_key ns) s6) in
    let s8 : Stands b l.contents x8 = moved b (l.names_end + (l.contents - l.names_end)) l.contents x8 (omega (arith, is.contents)) (right b l.names_end (l.contents - l.names_end) x7 x8 (length-replicate {A = ℕ} (l.contents - l.names_end) 0) s7) in
    record {
      first = left b 0 x1 y2 s1;
      tables = left b l.types x2 y3 s2;
      languages = left b l.languages x3 y4 s3;
      entries = left b l.entries x4 y5 s4;
      type_strings = left b l.type_names x5 y6 s5;
      strings = left b l.names x6 y7 s6;
      content = s8;
    }

pub types_stand : (b : List ℕ) (l : Layout) (rva : ℕ) (xs : List Leaf) → IsLayout l xs → Parts b l rva xs → length xs < 65536 → Each LeafFits xs → l.contents < 2147483648 → rva + l.contents + total padded_size xs < 4294967296 →
    TypesStand b rva l.type_names l.types l.names l.languages l.entries (rva + l.contents) (types_of xs)
types_stand b l rva xs is parts few fit low end =
    let same : flat_map elements (types_of xs) ≡ xs = types_all xs in
    let up : l.names_end ≤ l.contents = omega (arith, is.contents) in
    let below : total (λ t. below_size (names_of t)) (types_of xs) ≡ below_size (resources_of xs) = sum_in_types resource_size xs in
    let named : total (λ t. names_size (names_of t)) (types_of xs) ≡ names_size (resources_of xs) = sum_in_types (λ n. name_size (name_key n)) xs in
    record {
      type_strings = parts.type_strings;
      tables = parts.tables;
      strings = subst (Stands b l.names) (sym (names_in_types xs)) parts.strings;
      languages = subst (Stands b l.languages) (sym (tables_in_types l.entries xs)) parts.languages;
      content = subst (λ (ys : List Leaf). DataStand b rva l.entries (rva + l.contents) ys) (sym same)
          (data_stand b rva l.entries (rva + l.contents) xs (omega arith) end fit parts.entries (moved b l.contents (rva + l.contents - rva) (contents xs) (omega arith) parts.content));
      alike = types_alike xs;
      fit = subst (λ (ys : List Leaf). Each LeafFits ys) (sym same) fit;
      few = rw same few;
      type_strings_end = omega (arith, is.names, is.names_end, up, low);
      tables_end = omega (arith, is.languages, is.entries, is.type_names, is.names, is.names_end, up, low);
      strings_end = omega (arith, is.names_end, up, low, named);
      languages_end = omega (arith, below, is.entries, is.type_names, is.names, is.names_end, up, low);
      entries_end = rw same (omega (arith, is.type_names, is.names, is.names_end, up, low));
    }

pub first_read : (b : List ℕ) (l : Layout) (rva : ℕ) (xs : List Leaf) → IsLayout l xs → Parts b l rva xs → length xs < 65536 → Each LeafFits xs → l.contents < 2147483648 →
    first_entries b ≡ entry_list type_key type_size l.type_names (2147483648 + l.types) (types_of xs)
unfolding types_of
first_read b l rva xs is parts few fit low =
    let ts : List (Leaf × List Leaf) = types_of xs in
    let p : ℕ = 2147483648 + l.types in
    let up : l.names_end ≤ l.contents = omega (arith, is.contents) in
    let read : ReadTable b 0 (length ts) (entries_to type_key type_size l.type_names p ts) =
    table_read type_key type_size b 0 l.type_names p ts (omega (arith, few, count_of_runs same_type xs)) parts.first in
    let same : flat_map elements ts ≡ xs = types_all xs in
    let keys : Each (λ r. KeyFits (type_key r)) ts =
    each_weaker (λ r. LeafFits r.0) (λ r. KeyFits (type_key r)) ts (λ r f. f.resource_type) (each_first LeafFits ts (subst (λ (ys : List Leaf). Each LeafFits ys) (sym same) fit)) in
    ap (λ (n : ℕ). entries (range b 16 (8 * n))) read.counted
    ∙ ap entries read.entries
    ∙ entries_read type_key type_size l.type_names p ts (entries_fit type_key type_size l.type_names p ts (λ r. omega arith) keys (omega (arith, is.names, is.names_end, up, low)) (omega (arith, is.languages, is.entries, is.type_names, is.names, is.names_end, up, low)))

pub parts_read : (b : List ℕ) (l : Layout) (rva : ℕ) (xs : List Leaf) → IsLayout l xs → Parts b l rva xs → length xs < 65536 → Each LeafFits xs → l.contents < 2147483648 → rva + l.contents + total padded_size xs < 4294967296 →
    leaves_in b rva ≡ map (λ x. Ok x) xs
parts_read b l rva xs is parts few fit low end =
    ap (λ (es : List ResourceEntry). map (read_item b rva) (tree_leaves b es)) (first_read b l rva xs is parts few fit low)
    ∙ types_read b rva l.type_names (2147483648 + l.types) l.types l.names l.languages l.entries (rva + l.contents) (types_of xs) refl (types_stand b l rva xs is parts few fit low end)
    ∙ ap (λ (ys : List Leaf). map (λ x. Ok x) ys) (types_all xs)

pub section_read : (rva : ℕ) (xs : List Leaf) → Fits rva xs → leaves_in (section rva xs) rva ≡ map (λ x. Ok x) xs
unfolding section section_length
section_read rva xs f =
    let l : Layout = layout_of xs in
    parts_read (section_at l rva xs) l rva xs (is_layout xs) (parts_stand l rva xs (is_layout xs)) f.few f.each f.tables (omega (arith, f.end))

pub length_of_section : (rva : ℕ) (xs : List Leaf) → length (section rva xs) ≡ section_length xs
unfolding section section_at section_length
length_of_section rva xs =
    grind (arith, is_layout, length-append, length-directory_to, length-type_tables, length-resource_tables, length-data_entries, length-names, length-replicate, length-contents)
