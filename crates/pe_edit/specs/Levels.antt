-- What the functions that write a section go by: levels of the tree, and what the entries of a directory come to.
use Rattle.std.specs.Prelude.{◌≡◌, ℕ, ◌+◌, ◌*◌, ◌<◌, ◌≤◌, Bool, false, Option, Some, None, List, [], ◌∷◌, ◌++◌, length, drop, nat_lt, if◌then◌else◌}
use Rattle.pe_edit.specs.declared.directories.Cursor.{Cursor}
use Rattle.pe_edit.specs.declared.level.Level.{Level}
use Rattle.pe_edit.specs.declared.level.Level.TheVariants as levels
use Rattle.pe_edit.specs.declared.level.Measure.{Measure}
use Rattle.pe_edit.specs.declared.section.Measured.{Measured}
use Rattle.pe_edit.specs.Runs.{elements, runs}
use Rattle.pe_edit.specs.Written.{Key, Id, Leaf, directory_to, entry_size, language_key, layout_of, name_key, name_size, named, padded_size, resource_size, same_resource, same_type, section_length, total, type_key, type_size}

-- leaves that share an entry
abbrev pub alike : Level → Leaf → Leaf → Bool
alike levels.Types = same_type
alike levels.Names = same_resource
alike levels.Languages = λ x y. false

-- the leaves of each entry
abbrev pub runs_of : Level → List Leaf → List (Leaf × List Leaf)
runs_of level xs = runs (alike level) xs

-- the key of an entry, and the size of the part that it leads to
abbrev pub key_at : Level → Leaf × List Leaf → Key
key_at levels.Types = type_key
key_at levels.Names = name_key
key_at levels.Languages = λ r. language_key r.0

abbrev pub size_at : Level → Leaf × List Leaf → ℕ
size_at levels.Types = type_size
size_at levels.Names = resource_size
size_at levels.Languages = λ r. entry_size r.0

-- the same of the leaves themselves
abbrev pub key_of_run : Level → List Leaf → Key
key_of_run level [] = Id 0
key_of_run level (x ∷ xs) = key_at level (x, xs)

abbrev pub size_of_run : Level → List Leaf → ℕ
size_of_run level [] = 0
size_of_run level (x ∷ xs) = size_at level (x, xs)

-- r are the leaves from an index on that share an entry
pub record IsRunAt (level : Level) (xs : List Leaf) (start : ℕ) (r : List Leaf) : Type 0 where
  pub first : Leaf
  pub others : List Leaf
  pub is : r ≡ first ∷ others
  pub inside : start + length r ≤ length xs
  pub left : drop start xs ≡ r ++ drop (start + length r) xs
  pub found : runs_of level (drop start xs) ≡ (first, others) ∷ runs_of level (drop (start + length r) xs)

-- what the entries of these leaves come to
abbrev pub measure_of : Level → List Leaf → Measure
measure_of level xs = record {
  entries = length (runs_of level xs);
  named = total (λ r. named (key_at level r)) (runs_of level xs);
  names_size = total (λ r. name_size (key_at level r)) (runs_of level xs);
}

-- the layout of the section with these leaves, and its length
abbrev pub measured_of : List Leaf → Measured
measured_of xs = record { layout = layout_of xs; length = section_length xs }

-- where contents end that start at an RVA, if that is below 2^32
abbrev pub end_below : ℕ → List Leaf → Option ℕ
end_below start xs =
    if nat_lt (start + total padded_size xs) 4294967296 then Some (start + total padded_size xs) else None

-- ---- directories

-- the level above
abbrev pub above : Level → Level
above levels.Types = levels.Types
above levels.Names = levels.Types
above levels.Languages = levels.Names

-- all names and parts of these entries
abbrev pub names_total : Level → List (Leaf × List Leaf) → ℕ
names_total level rs = total (λ r. name_size (key_at level r)) rs

abbrev pub parts_total : Level → List (Leaf × List Leaf) → ℕ
parts_total level rs = total (size_at level) rs

-- the directories of this level, each of the leaves of one entry of the level above; the first name is at s, the first part at p
unfoldable pub directories_at : Level → ℕ → ℕ → List (Leaf × List Leaf) → List ℕ
directories_at level s p [] = []
directories_at level s p (t ∷ ts) =
    let rs = runs_of level (elements t) in
    directory_to (key_at level) (size_at level) s p rs ++ directories_at level (s + names_total level rs) (p + parts_total level rs) ts

-- what follows the entries of these leaves: where they end, and the next name and part
abbrev pub after_entries : Level → Cursor → List (Leaf × List Leaf) → Cursor
after_entries level c rs = record {
  end = c.end + 8 * length rs;
  name = c.name + names_total level rs;
  part = c.part + parts_total level rs;
}

-- what follows their directory
abbrev pub after_directory : Level → Cursor → List (Leaf × List Leaf) → Cursor
after_directory level c rs = record {
  end = c.end + (16 + 8 * length rs);
  name = c.name + names_total level rs;
  part = c.part + parts_total level rs;
}

-- the names and parts of these entries lie below 2^31 and 2^32
pub record PartsFit (level : Level) (c : Cursor) (rs : List (Leaf × List Leaf)) : Type 0 where
  pub names : c.name + names_total level rs < 2147483648
  pub parts : c.part + parts_total level rs < 4294967296

-- the same of all directories of this level
pub record AllPartsFit (level : Level) (c : Cursor) (ts : List (Leaf × List Leaf)) : Type 0 where
  pub names : c.name + total (λ t. names_total level (runs_of level (elements t))) ts < 2147483648
  pub parts : c.part + total (λ t. parts_total level (runs_of level (elements t))) ts < 4294967296
