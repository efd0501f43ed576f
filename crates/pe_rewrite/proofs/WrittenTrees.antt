-- The tree that is read of an image whose resources changed.
use Rattle.std.proofs.Common.{◌≡◌, ℕ, ◌+◌, ◌*◌, ◌^◌, ◌<◌, ◌≤◌, true, List, length, map, Some, Ok, refl, ap, ◌∙◌, arith}
use Rattle.pe_rewrite.proofs.Cited.{AreBytes, le, range, HeaderView, OptionalHeaderView, section_map, DataDirectory, ParseOptions}
use Rattle.pe_rewrite.proofs.Cited.{SectionTable, le_is, le-same, byte_of_range, file_bytes, resource_tree, tree_leaves}
use Rattle.pe_rewrite.proofs.Cited.{first_entries, Each, Leaf, Numbers, layout_of, same_type, section, section_at, type_key}
use Rattle.pe_rewrite.proofs.Cited.{type_size, types_of, is_layout, parts_stand, in_place, place_of, section_headers, entry_of}
use Rattle.pe_rewrite.proofs.Cited.{leaves_of_image, Place}
use Rattle.pe_resource.specs.Directories.{count, directory_at, directory_of}
use Rattle.pe_resource.specs.Resources.{first_directory, first_entries_in}
use Rattle.pe_edit.proofs.Runs.{count_of_runs}
use Rattle.pe_edit.proofs.Tables.{table_read}
use Rattle.pe_rewrite.proofs.Placed.{placed}
use Rattle.pe_rewrite.proofs.WrittenImages.{DirectoryThere, IsFile, directory_there_placed, is_file, leaves_read_placed, size_small}

-- ---- the first directory of a section

few : (xs : List Leaf) → length (types_of xs) ≤ length xs
unfolding types_of
few xs = count_of_runs same_type xs

-- its head and its entries lie in the section
head_inside : (rva : ℕ) (xs : List Leaf) → length xs < 65536 → 16 + 8 * count (directory_of (section rva xs) 0) ≤ length (section rva xs)
unfolding section
head_inside rva xs small =
    let s : List ℕ = section_at (layout_of xs) rva xs in
    let read = table_read type_key type_size s 0 (layout_of xs).type_names (2147483648 + (layout_of xs).types) (types_of xs) (omega (arith, small, few xs)) (parts_stand (layout_of xs) rva xs (is_layout xs)).first in
    omega (arith, read.counted, read.inside)

-- ---- the same directory in the file

number_in : (f s : List ℕ) (p n q w : ℕ) → range f p n ≡ s → q + w ≤ n → le f (p + q) w ≡ le s q w
number_in f s p n q w is h = grind (arith, le-same, byte_of_range)

directory_in : (f s : List ℕ) (p n : ℕ) → range f p n ≡ s → 16 ≤ n → directory_of f p ≡ directory_of s 0
unfolding directory_of
directory_in f s p n is h =
    let start : p ≡ p + 0 = omega arith in
    rw (
      ap (λ (k : ℕ). le f k 4) start ∙ number_in f s p n 0 4 is (omega (arith, h)),
      number_in f s p n 4 4 is (omega (arith, h)),
      number_in f s p n 8 2 is (omega (arith, h)),
      number_in f s p n 10 2 is (omega (arith, h)),
      number_in f s p n 12 2 is (omega (arith, h)),
      number_in f s p n 14 2 is (omega (arith, h)),
    ) refl

-- ---- the tree

tree_by : (o : ParseOptions) (f s : List ℕ) (d : DataDirectory) (ss : List SectionTable) (alignment p : ℕ) → section_map o ss alignment d.virtual_address ≡ Some p → range f p d.size ≡ s → p + d.size ≤ length f → length s ≡ d.size → file_bytes f d.size (section_map o ss alignment d.virtual_address) ≡ Ok s →
    16 + 8 * count (directory_of s 0) ≤ length s → resource_tree o f d ss alignment ≡ Ok (s, tree_leaves s (first_entries s))
unfolding first_directory directory_at first_entries_in
tree_by o f s d ss alignment p at is inside size bytes fits =
    let same : directory_of f p ≡ directory_of s 0 = directory_in f s p d.size is (omega (arith, size, fits)) in
    rw (
      bytes,
      at,
      le_is (p + 16) (length f) (omega (arith, inside, size, fits)),
      same,
      le_is 16 (length s) (omega (arith, fits)),
      le_is (16 + 8 * count (directory_of s 0)) (length s) fits,
    ) refl

tree_read : (o : ParseOptions) (b : List ℕ) (h : HeaderView) (xs : List Leaf) (p : Place) (f : List ℕ) (w : OptionalHeaderView) → p.section.virtual_size < 2 ^ 32 → IsFile b h xs p f → h.optional_header ≡ Some w → o.resolve_rva ≡ true →
    resource_tree o f (entry_of p) (section_headers f h) w.windows_fields.file_alignment ≡ Ok (section p.section.virtual_address xs, tree_leaves (section p.section.virtual_address xs) (first_entries (section p.section.virtual_address xs)))
tree_read o b h xs p f w small y some resolves =
    let t : DirectoryThere o f (section_headers f h) w.windows_fields.file_alignment p (section p.section.virtual_address xs) (length xs) = directory_there_placed o b h xs p f w small y some resolves in
    tree_by o f (section p.section.virtual_address xs) (entry_of p) (section_headers f h) w.windows_fields.file_alignment p.section.pointer_to_raw_data t.mapped t.here t.inside t.size t.bytes (head_inside p.section.virtual_address xs t.few)

pub leaves_found_placed : (o : ParseOptions) (b : List ℕ) (h : HeaderView) (xs : List Leaf) (p : Place) (f : List ℕ) (w : OptionalHeaderView) → p.section.virtual_size < 2 ^ 32 → Each Numbers xs → IsFile b h xs p f → h.optional_header ≡ Some w → o.resolve_rva ≡ true →
    leaves_of_image o f (entry_of p) (section_headers f h) w.windows_fields.file_alignment ≡ Ok (map (λ x. Ok x) xs)
leaves_found_placed o b h xs p f w small numbers y some resolves =
    let s : List ℕ = section p.section.virtual_address xs in
    simp (tree_read o b h xs p f w small y some resolves, leaves_read_placed o b h xs p f s w small numbers y some resolves refl)

pub leaves_found : (o : ParseOptions) (b : List ℕ) (h : HeaderView) (xs : List Leaf) (p : Place) (f : List ℕ) (w : OptionalHeaderView) → AreBytes b → Each Numbers xs → place_of b h xs ≡ Ok p → in_place b h xs ≡ Ok f → h.optional_header ≡ Some w → o.resolve_rva ≡ true →
    leaves_of_image o f (entry_of p) (section_headers f h) w.windows_fields.file_alignment ≡ Ok (map (λ x. Ok x) xs)
leaves_found o b h xs p f w small numbers e j some resolves =
    leaves_found_placed o b h xs p f w (size_small b h xs p small (placed b h xs p e)) numbers (is_file b h xs p f e j) some resolves
