-- The parts of a section, written one after the other, are the section.
use Rattle.std.proofs.Common.{◌≡◌, ℕ, ◌+◌, ◌*◌, ◌-◌, ◌<◌, ◌≤◌, List, [], ◌∷◌, ◌++◌, length, replicate, ap, refl, sym, ◌∙◌, subst, arith, length-append}
use Rattle.pe_edit.proofs.Cited.{flat_map, length-replicate, splice, Layout, AllPartsFit, PartsFit, directories_at, key_at}
use Rattle.pe_edit.proofs.Cited.{names_total, parts_total, runs_of, size_at, elements, Accepted, Leaf, below_size, contents}
use Rattle.pe_edit.proofs.Cited.{data_entries, directory_to, layout_of, name_key, name_size, names, names_size, padded_size}
use Rattle.pe_edit.proofs.Cited.{resource_size, resource_tables, resources_of, same_resource, section, section_at, section_length}
use Rattle.pe_edit.proofs.Cited.{total, type_key, type_size, type_tables, types_of}
use Rattle.pe_edit.specs.declared.level.Level.TheVariants as levels
use Rattle.pe_edit.proofs.DirectoryLoops.{language_parts, no_language_names, resource_tables_are, resources_are, type_tables_are, types_are}
use Rattle.pe_edit.proofs.Levels.{length-names, length-resource_tables}
use Rattle.pe_edit.proofs.Nested.{names_of, sum_in_types}
use Rattle.pe_edit.proofs.Runs.{runs_all}
use Rattle.pe_edit.proofs.SectionRead.{IsLayout, is_layout, length_of_section, length-data_entries, length-type_tables}
use Rattle.pe_edit.proofs.Tables.{length-directory_to}
use Rattle.pe_edit.proofs.Writing.{Written, last_written, length_written, more_written, nothing_written, room_for}

-- what follows each part
abbrev pub after_names : Layout → List Leaf → List ℕ
after_names l xs = replicate (l.contents - l.names_end) 0 ++ contents xs

abbrev pub after_type_names : Layout → List Leaf → List ℕ
after_type_names l xs = names name_key (resources_of xs) ++ after_names l xs

abbrev pub after_entries : Layout → List Leaf → List ℕ
after_entries l xs = names type_key (types_of xs) ++ after_type_names l xs

abbrev pub after_languages : Layout → ℕ → List Leaf → List ℕ
after_languages l rva xs = data_entries (rva + l.contents) xs ++ after_entries l xs

abbrev pub after_types : Layout → ℕ → List Leaf → List ℕ
after_types l rva xs = resource_tables l.entries (resources_of xs) ++ after_languages l rva xs

abbrev pub after_first : Layout → ℕ → List Leaf → List ℕ
after_first l rva xs = type_tables l.names (2147483648 + l.languages) (types_of xs) ++ after_types l rva xs

abbrev pub first : Layout → List Leaf → List ℕ
first l xs = directory_to type_key type_size l.type_names (2147483648 + l.types) (types_of xs)

pub layout_is : (l : Layout) (xs : List Leaf) → l ≡ layout_of xs → IsLayout l xs
layout_is l xs e = subst (λ (k : Layout). IsLayout k xs) (sym e) (is_layout xs)

-- ---- the steps; each has its part, and the room that it needs

pub stage_0 : (b : List ℕ) (l : Layout) (rva : ℕ) (xs : List Leaf) → length (section_at l rva xs) ≤ length b → Written b b 0 0 (section_at l rva xs) (first l xs ++ after_first l rva xs)
unfolding section_at
stage_0 b l rva xs h = nothing_written b 0 (section_at l rva xs) (omega (arith, h))

pub type_tables_by : (s p : ℕ) (xs : List Leaf) → directories_at levels.Names s p (runs_of levels.Types xs) ≡ type_tables s p (types_of xs)
type_tables_by s p xs = ap (directories_at levels.Names s p) (types_are xs) ∙ type_tables_are s p (types_of xs)

pub resource_tables_by : (p : ℕ) (xs : List Leaf) → directories_at levels.Languages 0 p (runs_of levels.Names xs) ≡ resource_tables p (resources_of xs)
resource_tables_by p xs = ap (directories_at levels.Languages 0 p) (resources_are xs) ∙ resource_tables_are 0 p (resources_of xs) refl

pub stage_4 : (b now next : List ℕ) (l : Layout) (rva : ℕ) (xs : List Leaf) → IsLayout l xs → Written b now 0 l.entries (section_at l rva xs) (after_languages l rva xs) →
    next ≡ splice now l.entries (data_entries (rva + l.contents) xs) → Written b next 0 l.type_names (section_at l rva xs) (after_entries l xs)
stage_4 b now next l rva xs is w e = grind (arith, more_written, length-data_entries)

pub stage_5 : (b now next : List ℕ) (l : Layout) (rva : ℕ) (xs : List Leaf) → IsLayout l xs → Written b now 0 l.type_names (section_at l rva xs) (after_entries l xs) →
    next ≡ splice now l.type_names (names (key_at levels.Types) (runs_of levels.Types xs)) → Written b next 0 l.names (section_at l rva xs) (after_type_names l xs)
stage_5 b now next l rva xs is w e = grind (arith, more_written, types_are, length-names)

pub stage_6 : (b now next : List ℕ) (l : Layout) (rva : ℕ) (xs : List Leaf) → IsLayout l xs → Written b now 0 l.names (section_at l rva xs) (after_type_names l xs) →
    next ≡ splice now l.names (names (key_at levels.Names) (runs_of levels.Names xs)) → Written b next 0 l.names_end (section_at l rva xs) (after_names l xs)
stage_6 b now next l rva xs is w e = grind (arith, more_written, resources_are, length-names)

pub stage_7 : (b now next : List ℕ) (l : Layout) (rva : ℕ) (xs : List Leaf) → IsLayout l xs → Written b now 0 l.names_end (section_at l rva xs) (after_names l xs) →
    next ≡ splice now l.names_end (replicate (l.contents - l.names_end) 0) → Written b next 0 l.contents (section_at l rva xs) (contents xs)
stage_7 b now next l rva xs is w e = grind (arith, more_written, length-replicate)

-- the bytes of the section by its layout
section_is : (l : Layout) (rva : ℕ) (xs : List Leaf) → l ≡ layout_of xs → section_at l rva xs ≡ section rva xs
unfolding section
section_is l rva xs e = ap (λ (k : Layout). section_at k rva xs) e

pub stage_8 : (b now next : List ℕ) (l : Layout) (rva : ℕ) (xs : List Leaf) → l ≡ layout_of xs → Written b now 0 l.contents (section_at l rva xs) (contents xs) → next ≡ splice now l.contents (contents xs) → next ≡ splice b 0 (section rva xs)
stage_8 b now next l rva xs is w e = last_written b now next 0 l.contents (section_at l rva xs) (contents xs) w e ∙ ap (splice b 0) (section_is l rva xs is)

-- ---- room

pub room_1 : (b now : List ℕ) (l : Layout) (rva : ℕ) (xs : List Leaf) → IsLayout l xs → Written b now 0 0 (section_at l rva xs) (first l xs ++ after_first l rva xs) → 0 + (16 + 8 * length (runs_of levels.Types xs)) ≤ length now
room_1 b now l rva xs is w =
    omega (arith, ap length (types_are xs), length-directory_to type_key type_size l.type_names (2147483648 + l.types) (types_of xs), room_for b now 0 0 (section_at l rva xs) (first l xs) (after_first l rva xs) w)

pub room_2 : (b now : List ℕ) (l : Layout) (rva : ℕ) (xs : List Leaf) → Written b now 0 l.types (section_at l rva xs) (after_first l rva xs) → l.types + length (directories_at levels.Names l.names (2147483648 + l.languages) (runs_of levels.Types xs)) ≤ length now
room_2 b now l rva xs w =
    omega (arith, ap length (type_tables_by l.names (2147483648 + l.languages) xs), room_for b now 0 l.types (section_at l rva xs) (type_tables l.names (2147483648 + l.languages) (types_of xs)) (after_types l rva xs) w)

pub room_3 : (b now : List ℕ) (l : Layout) (rva : ℕ) (xs : List Leaf) → Written b now 0 l.languages (section_at l rva xs) (after_types l rva xs) → l.languages + length (directories_at levels.Languages 0 l.entries (runs_of levels.Names xs)) ≤ length now
room_3 b now l rva xs w =
    omega (arith, ap length (resource_tables_by l.entries xs), room_for b now 0 l.languages (section_at l rva xs) (resource_tables l.entries (resources_of xs)) (after_languages l rva xs) w)

pub room_4 : (b now : List ℕ) (l : Layout) (rva : ℕ) (xs : List Leaf) → Written b now 0 l.entries (section_at l rva xs) (after_languages l rva xs) → l.entries + 16 * length xs ≤ length now
room_4 b now l rva xs w =
    omega (arith, length-data_entries (rva + l.contents) xs, room_for b now 0 l.entries (section_at l rva xs) (data_entries (rva + l.contents) xs) (after_entries l xs) w)

pub room_5 : (b now : List ℕ) (l : Layout) (rva : ℕ) (xs : List Leaf) → Written b now 0 l.type_names (section_at l rva xs) (after_entries l xs) → l.type_names + length (names (key_at levels.Types) (runs_of levels.Types xs)) ≤ length now
room_5 b now l rva xs w =
    omega (arith, ap (λ (ts : List (Leaf × List Leaf)). length (names type_key ts)) (types_are xs), room_for b now 0 l.type_names (section_at l rva xs) (names type_key (types_of xs)) (after_type_names l xs) w)

pub room_6 : (b now : List ℕ) (l : Layout) (rva : ℕ) (xs : List Leaf) → Written b now 0 l.names (section_at l rva xs) (after_type_names l xs) → l.names + length (names (key_at levels.Names) (runs_of levels.Names xs)) ≤ length now
room_6 b now l rva xs w =
    omega (arith, ap (λ (ns : List (Leaf × List Leaf)). length (names name_key ns)) (resources_are xs), room_for b now 0 l.names (section_at l rva xs) (names name_key (resources_of xs)) (after_names l xs) w)

pub room_7 : (b now : List ℕ) (l : Layout) (rva : ℕ) (xs : List Leaf) → Written b now 0 l.names_end (section_at l rva xs) (after_names l xs) → l.names_end + (l.contents - l.names_end) ≤ length now
room_7 b now l rva xs w =
    omega (arith, length-replicate {A = ℕ} (l.contents - l.names_end) 0, room_for b now 0 l.names_end (section_at l rva xs) (replicate (l.contents - l.names_end) 0) (contents xs) w)

-- ---- the numbers of the entries fit

pub first_fits : (l : Layout) (rva : ℕ) (xs : List Leaf) → l ≡ layout_of xs → Accepted rva xs → PartsFit levels.Types (record { end = 0; name = l.type_names; part = 2147483648 + l.types }) (runs_of levels.Types xs)
first_fits l rva xs e f =
    let is : IsLayout l xs = layout_is l xs e in
    let low : l.contents < 2147483648 = omega (arith, ap (λ (k : Layout). k.contents) e, f.tables) in
    let ts : List (Leaf × List Leaf) = runs_of levels.Types xs in
    let names_same : total (λ t. name_size (type_key t)) ts ≡ total (λ t. name_size (type_key t)) (types_of xs) = ap (total (λ t. name_size (type_key t))) (types_are xs) in
    let parts_same : total type_size ts ≡ total type_size (types_of xs) = ap (total type_size) (types_are xs) in
    record {
      names = omega (arith, names_same, is.names, is.names_end, is.contents, low);
      parts = omega (arith, parts_same, is.languages, is.entries, is.type_names, is.names, is.names_end, is.contents, low);
    }

type_names_by : (xs : List Leaf) → total (λ t. names_total levels.Names (runs_of levels.Names (elements t))) (runs_of levels.Types xs) ≡ total (λ t. names_size (names_of t)) (types_of xs)
unfolding types_of resources_of
type_names_by xs = refl

type_parts_by : (xs : List Leaf) → total (λ t. parts_total levels.Names (runs_of levels.Names (elements t))) (runs_of levels.Types xs) ≡ total (λ t. below_size (names_of t)) (types_of xs)
unfolding types_of resources_of
type_parts_by xs = refl

pub types_fit : (l : Layout) (rva : ℕ) (xs : List Leaf) → l ≡ layout_of xs → Accepted rva xs → AllPartsFit levels.Names (record { end = l.types; name = l.names; part = 2147483648 + l.languages }) (runs_of levels.Types xs)
types_fit l rva xs e f =
    let is : IsLayout l xs = layout_is l xs e in
    let low : l.contents < 2147483648 = omega (arith, ap (λ (k : Layout). k.contents) e, f.tables) in
    record {
      names = omega (arith, type_names_by xs, sum_in_types (λ n. name_size (name_key n)) xs, is.names_end, is.contents, low);
      parts = omega (arith, type_parts_by xs, sum_in_types resource_size xs, is.entries, is.type_names, is.names, is.names_end, is.contents, low);
    }

no_names : (ns : List (Leaf × List Leaf)) → total (λ n. names_total levels.Languages (runs_of levels.Languages (elements n))) ns ≡ 0
unfolding total
no_names [] = refl
no_names (n ∷ ns) = omega (arith, no_language_names (elements n), no_names ns)

all_parts : (ns : List (Leaf × List Leaf)) → total (λ n. parts_total levels.Languages (runs_of levels.Languages (elements n))) ns ≡ 16 * length (flat_map elements ns)
unfolding total
all_parts [] = refl
all_parts (n ∷ ns) = omega (arith, language_parts (elements n), all_parts ns, length-append (elements n) (flat_map elements ns))

pub languages_fit : (l : Layout) (rva : ℕ) (xs : List Leaf) → l ≡ layout_of xs → Accepted rva xs → AllPartsFit levels.Languages (record { end = l.languages; name = 0; part = l.entries }) (runs_of levels.Names xs)
languages_fit l rva xs e f =
    let is : IsLayout l xs = layout_is l xs e in
    let low : l.contents < 2147483648 = omega (arith, ap (λ (k : Layout). k.contents) e, f.tables) in
    record {
      names = omega (arith, no_names (runs_of levels.Names xs));
      parts = omega (arith, all_parts (runs_of levels.Names xs), ap length (runs_all same_resource xs), is.type_names, is.names, is.names_end, is.contents, low);
    }

pub room_8 : (b now : List ℕ) (l : Layout) (rva : ℕ) (xs : List Leaf) → Written b now 0 l.contents (section_at l rva xs) (contents xs) → l.contents + length (contents xs) ≤ length now
room_8 b now l rva xs w =
    let size : length (section_at l rva xs) ≡ length w.done + length (contents xs) = ap length w.joined ∙ length-append w.done (contents xs) in
    omega (arith, length_written b now 0 l.contents (section_at l rva xs) (contents xs) w, size, w.room, w.count)

pub data_fits : (l : Layout) (rva : ℕ) (xs : List Leaf) → l ≡ layout_of xs → Accepted rva xs → rva + l.contents + total padded_size xs < 4294967296
unfolding section_length
data_fits l rva xs e f = omega (arith, f.end, ap (λ (k : Layout). k.contents) e)

-- where the parts start is below 2 GB
pub types_low : (l : Layout) (rva : ℕ) (xs : List Leaf) → l ≡ layout_of xs → Accepted rva xs → l.types < 2147483648
types_low l rva xs e f =
    let is : IsLayout l xs = layout_is l xs e in
    omega (arith, is.languages, is.entries, is.type_names, is.names, is.names_end, is.contents, ap (λ (k : Layout). k.contents) e, f.tables)

pub languages_low : (l : Layout) (rva : ℕ) (xs : List Leaf) → l ≡ layout_of xs → Accepted rva xs → l.languages < 2147483648
languages_low l rva xs e f =
    let is : IsLayout l xs = layout_is l xs e in
    omega (arith, is.entries, is.type_names, is.names, is.names_end, is.contents, ap (λ (k : Layout). k.contents) e, f.tables)

pub names_before : (l : Layout) (xs : List Leaf) → l ≡ layout_of xs → l.names_end ≤ l.contents
names_before l xs e = let is : IsLayout l xs = layout_is l xs e in omega (arith, is.contents)

-- ---- all steps

pub at_0 : (b : List ℕ) (l : Layout) (rva : ℕ) (xs : List Leaf) → l ≡ layout_of xs → section_length xs ≤ length b → Written b b 0 0 (section_at l rva xs) (first l xs ++ after_first l rva xs)
at_0 b l rva xs e r = stage_0 b l rva xs (omega (arith, r, ap length (section_is l rva xs e) ∙ length_of_section rva xs))

pub at_1 : (b b1 : List ℕ) (l : Layout) (rva : ℕ) (xs : List Leaf) → l ≡ layout_of xs → section_length xs ≤ length b →
    b1 ≡ splice b 0 (directory_to (key_at levels.Types) (size_at levels.Types) l.type_names (2147483648 + l.types) (runs_of levels.Types xs)) → Written b b1 0 l.types (section_at l rva xs) (after_first l rva xs)
at_1 b b1 l rva xs e r h1 = grind (arith, more_written, types_are, length-directory_to, layout_is l xs e, at_0 b l rva xs e r)

pub at_2 : (b b1 b2 : List ℕ) (l : Layout) (rva : ℕ) (xs : List Leaf) → l ≡ layout_of xs → section_length xs ≤ length b →
    b1 ≡ splice b 0 (directory_to (key_at levels.Types) (size_at levels.Types) l.type_names (2147483648 + l.types) (runs_of levels.Types xs)) →
    b2 ≡ splice b1 l.types (directories_at levels.Names l.names (2147483648 + l.languages) (runs_of levels.Types xs)) → Written b b2 0 l.languages (section_at l rva xs) (after_types l rva xs)
at_2 b b1 b2 l rva xs e r h1 h2 =
    grind (arith, more_written, type_tables_by, length-type_tables, layout_is l xs e, at_1 b b1 l rva xs e r h1)

pub at_3 : (b b1 b2 b3 : List ℕ) (l : Layout) (rva : ℕ) (xs : List Leaf) → l ≡ layout_of xs → section_length xs ≤ length b →
    b1 ≡ splice b 0 (directory_to (key_at levels.Types) (size_at levels.Types) l.type_names (2147483648 + l.types) (runs_of levels.Types xs)) →
    b2 ≡ splice b1 l.types (directories_at levels.Names l.names (2147483648 + l.languages) (runs_of levels.Types xs)) →
    b3 ≡ splice b2 l.languages (directories_at levels.Languages 0 l.entries (runs_of levels.Names xs)) → Written b b3 0 l.entries (section_at l rva xs) (after_languages l rva xs)
at_3 b b1 b2 b3 l rva xs e r h1 h2 h3 =
    grind (arith, more_written, resource_tables_by, length-resource_tables, layout_is l xs e, at_2 b b1 b2 l rva xs e r h1 h2)
