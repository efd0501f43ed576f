-- A directory, and the loop over the directories of a level.
use Rattle.std.proofs.Common.{◌≡◌, ℕ, ◌+◌, ◌*◌, ◌-◌, ◌≤◌, false, List, [], ◌∷◌, ◌++◌, length, drop, map, replicate, ap, refl, sym, ◌∙◌, subst, arith, length-append}
use Rattle.pe_edit.proofs.Cited.{append_assoc, length-replicate, bytes_of, splice, length-bytes_of, splice-splice, Cursor, Level}
use Rattle.pe_edit.proofs.Cited.{Measure, AllPartsFit, IsRunAt, PartsFit, above, after_directory, directories_at, key_at}
use Rattle.pe_edit.proofs.Cited.{measure_of, names_total, parts_total, runs_of, size_at, elements, in_front, runs, Leaf}
use Rattle.pe_edit.proofs.Cited.{directory_to, entries_to, entry_size, language_key, name_size, named, resource_tables}
use Rattle.pe_edit.proofs.Cited.{resources_of, total, type_tables, types_of, unnamed}
use Rattle.pe_edit.specs.declared.level.Level.TheVariants as levels
use Rattle.pe_edit.proofs.Entries.{total_from}
use Rattle.pe_edit.proofs.RunsAt.{no_runs_at}
use Rattle.pe_edit.proofs.Tables.{both_kinds, length-directory_to}
use Rattle.pe_edit.proofs.Writing.{Written, all_written, more_written, nothing_written, room_for}
use Rattle.pe_edit.proofs.Levels.{total_16, total_no_names}

-- the head of a directory and its entries, one after the other
directory_bytes : (level : Level) (b b1 b2 b3 b4 : List ℕ) (p s q m n : ℕ) (rs : List (Leaf × List Leaf)) → p ≤ length b →
    m ≡ total (λ r. named (key_at level r)) rs → n ≡ length rs - total (λ r. named (key_at level r)) rs →
    b1 ≡ splice b p (replicate 12 0) → b2 ≡ splice b1 (p + 12) (bytes_of 2 m) → b3 ≡ splice b2 (p + 14) (bytes_of 2 n) → b4 ≡ splice b3 (p + 16) (entries_to (key_at level) (size_at level) s q rs) →
    b4 ≡ splice b p (directory_to (key_at level) (size_at level) s q rs)
unfolding directory_to
directory_bytes level b b1 b2 b3 b4 p s q m n rs h em en e f i j =
    let x : List ℕ = replicate 12 0 in
    let y : List ℕ = bytes_of 2 m in
    let z : List ℕ = bytes_of 2 n in
    let t : List ℕ = entries_to (key_at level) (size_at level) s q rs in
    let rest : n ≡ total (λ r. unnamed (key_at level r)) rs = omega (arith, en, both_kinds (key_at level) rs) in
    let one : p + 12 ≡ p + length x = omega (arith, length-replicate {A = ℕ} 12 0) in
    let two : p + 14 ≡ p + length (x ++ y) = omega (arith, length-append x y, length-replicate {A = ℕ} 12 0, length-bytes_of 2 m) in
    let three : p + 16 ≡ p + length ((x ++ y) ++ z) = omega (arith, length-append (x ++ y) z, length-append x y, length-replicate {A = ℕ} 12 0, length-bytes_of 2 m, length-bytes_of 2 n) in
    let x2 : b2 ≡ splice b p (x ++ y) = f ∙ ap (λ (l : List ℕ). splice l (p + 12) y) e ∙ ap (λ (k : ℕ). splice (splice b p x) k y) one ∙ splice-splice b p x y h in
    let x3 : b3 ≡ splice b p ((x ++ y) ++ z) = i ∙ ap (λ (l : List ℕ). splice l (p + 14) z) x2 ∙ ap (λ (k : ℕ). splice (splice b p (x ++ y)) k z) two ∙ splice-splice b p (x ++ y) z h in
    cc (j, x3, three, splice-splice b p ((x ++ y) ++ z) t h, append_assoc (x ++ y) z t, append_assoc x y (z ++ t), em, rest)

pub directory_parts : (level : Level) (xs : List Leaf) (b b1 b2 b3 b4 : List ℕ) (p s q : ℕ) (x : Measure) → p ≤ length b → x ≡ measure_of level xs →
    b1 ≡ splice b p (replicate 12 0) → b2 ≡ splice b1 (p + 12) (bytes_of 2 x.named) → b3 ≡ splice b2 (p + 14) (bytes_of 2 (x.entries - x.named)) → b4 ≡ splice b3 (p + 16) (entries_to (key_at level) (size_at level) s q (runs_of level xs)) →
    b4 ≡ splice b p (directory_to (key_at level) (size_at level) s q (runs_of level xs))
directory_parts level xs b b1 b2 b3 b4 p s q x h is e f i j = grind (arith, directory_bytes)

-- ---- the loop over directories

directories_from : (level : Level) (xs r : List Leaf) (start s p : ℕ) → IsRunAt (above level) xs start r →
    directories_at level s p (runs_of (above level) (drop start xs))
    ≡ directory_to (key_at level) (size_at level) s p (runs_of level r) ++ directories_at level (s + names_total level (runs_of level r)) (p + parts_total level (runs_of level r)) (runs_of (above level) (drop (start + length r) xs))
unfolding directories_at
directories_from level xs r start s p k = grind arith

-- the directories up to that of the leaves from one on are written
pub record DirectoriesWritten (old now : List ℕ) (at c : Cursor) (level : Level) (xs : List Leaf) (start : ℕ) : Type 0 where
  pub inside : start ≤ length xs
  pub written : Written old now at.end c.end (directories_at level at.name at.part (runs_of (above level) xs)) (directories_at level c.name c.part (runs_of (above level) (drop start xs)))
  pub fit : AllPartsFit level c (runs_of (above level) (drop start xs))

pub no_directories_written : (old : List ℕ) (at : Cursor) (level : Level) (xs : List Leaf) → at.end + length (directories_at level at.name at.part (runs_of (above level) xs)) ≤ length old → AllPartsFit level at (runs_of (above level) xs) → DirectoriesWritten old old at at level xs 0
no_directories_written old at level xs h f = record { inside = omega arith; written = nothing_written old at.end (directories_at level at.name at.part (runs_of (above level) xs)) h; fit = f }

names_of_run : (level : Level) (xs r : List Leaf) (start : ℕ) → IsRunAt (above level) xs start r →
    total (λ t. names_total level (runs_of level (elements t))) (runs_of (above level) (drop start xs)) ≡ names_total level (runs_of level r) + total (λ t. names_total level (runs_of level (elements t))) (runs_of (above level) (drop (start + length r) xs))
names_of_run level xs r start k =
    grind (arith, total_from (λ t. names_total level (runs_of level (elements t))) (above level) xs r start k, k.is)

parts_of_run : (level : Level) (xs r : List Leaf) (start : ℕ) → IsRunAt (above level) xs start r →
    total (λ t. parts_total level (runs_of level (elements t))) (runs_of (above level) (drop start xs)) ≡ parts_total level (runs_of level r) + total (λ t. parts_total level (runs_of level (elements t))) (runs_of (above level) (drop (start + length r) xs))
parts_of_run level xs r start k =
    grind (arith, total_from (λ t. parts_total level (runs_of level (elements t))) (above level) xs r start k, k.is)

pub directory_fits : (old now : List ℕ) (at c : Cursor) (level : Level) (xs r : List Leaf) (start : ℕ) → IsRunAt (above level) xs start r → DirectoriesWritten old now at c level xs start → PartsFit level c (runs_of level r)
directory_fits old now at c level xs r start k w = record {
  names = omega (arith, w.fit.names, names_of_run level xs r start k);
  parts = omega (arith, w.fit.parts, parts_of_run level xs r start k);
}

directories_rest : (old now : List ℕ) (at c : Cursor) (level : Level) (xs r : List Leaf) (start : ℕ) → IsRunAt (above level) xs start r → DirectoriesWritten old now at c level xs start →
    Written old now at.end c.end (directories_at level at.name at.part (runs_of (above level) xs))
    (directory_to (key_at level) (size_at level) c.name c.part (runs_of level r) ++ directories_at level (c.name + names_total level (runs_of level r)) (c.part + parts_total level (runs_of level r)) (runs_of (above level) (drop (start + length r) xs)))
directories_rest old now at c level xs r start k w = grind (arith, directories_from)

pub directory_room : (old now : List ℕ) (at c : Cursor) (level : Level) (xs r : List Leaf) (start : ℕ) → IsRunAt (above level) xs start r → DirectoriesWritten old now at c level xs start → c.end + (16 + 8 * length (runs_of level r)) ≤ length now
directory_room old now at c level xs r start k w =
    let rs : List (Leaf × List Leaf) = runs_of level r in
    omega (
      arith,
      length-directory_to (key_at level) (size_at level) c.name c.part rs,
      room_for old now at.end c.end (directories_at level at.name at.part (runs_of (above level) xs)) (directory_to (key_at level) (size_at level) c.name c.part rs)
          (directories_at level (c.name + names_total level rs) (c.part + parts_total level rs) (runs_of (above level) (drop (start + length r) xs))) (directories_rest old now at c level xs r start k w),
    )

pub more_directories_written : (old now next : List ℕ) (at c d : Cursor) (level : Level) (xs r : List Leaf) (start : ℕ) → IsRunAt (above level) xs start r → DirectoriesWritten old now at c level xs start →
    next ≡ splice now c.end (directory_to (key_at level) (size_at level) c.name c.part (runs_of level r)) → d ≡ after_directory level c (runs_of level r) → DirectoriesWritten old next at d level xs (start + length r)
more_directories_written old now next at c d level xs r start k w e f =
    let rs : List (Leaf × List Leaf) = runs_of level r in
    let after : Cursor = after_directory level c rs in
    let all : List ℕ = directories_at level at.name at.part (runs_of (above level) xs) in
    let made : DirectoriesWritten old next at after level xs (start + length r) = record {
      inside = k.inside;
      written = more_written old now next at.end c.end after.end all (directory_to (key_at level) (size_at level) c.name c.part rs) (directories_at level after.name after.part (runs_of (above level) (drop (start + length r) xs)))
          (directories_rest old now at c level xs r start k w) e (omega (arith, length-directory_to (key_at level) (size_at level) c.name c.part rs));
      fit = record { names = omega (arith, w.fit.names, names_of_run level xs r start k); parts = omega (arith, w.fit.parts, parts_of_run level xs r start k) };
    } in
    subst (λ (x : Cursor). DirectoriesWritten old next at x level xs (start + length r)) (sym f) made

pub all_directories_written : (old now : List ℕ) (at c : Cursor) (level : Level) (xs : List Leaf) (start : ℕ) → length xs ≤ start → DirectoriesWritten old now at c level xs start → now ≡ splice old at.end (directories_at level at.name at.part (runs_of (above level) xs))
unfolding directories_at
all_directories_written old now at c level xs start h w =
    all_written old now at.end c.end (directories_at level at.name at.part (runs_of (above level) xs)) (directories_at level c.name c.part (runs_of (above level) (drop start xs)))
    (ap (directories_at level c.name c.part) (no_runs_at (above level) xs start h)) w.written

-- ---- what the directories of each level are

pub types_are : (xs : List Leaf) → runs_of levels.Types xs ≡ types_of xs
unfolding types_of
types_are xs = refl

pub resources_are : (xs : List Leaf) → runs_of levels.Names xs ≡ resources_of xs
unfolding resources_of
resources_are xs = refl

pub type_tables_are : (s p : ℕ) (ts : List (Leaf × List Leaf)) → directories_at levels.Names s p ts ≡ type_tables s p ts
unfolding directories_at type_tables resources_of
type_tables_are s p ts = grind arith

-- no leaves share a language
pub alone : (xs : List Leaf) → runs_of levels.Languages xs ≡ map (λ x. (x, [])) xs
unfolding runs
alone [] = refl
alone (x ∷ []) = refl
alone (x ∷ y ∷ ys) = ap (in_front (λ x y. false) x) (alone (y ∷ ys))

total_map : {X Y : Type 0} (f : Y → ℕ) (g : X → Y) (xs : List X) → total f (map g xs) ≡ total (λ x. f (g x)) xs
unfolding total
total_map f g [] = refl
total_map f g (x ∷ xs) = ap (λ (n : ℕ). f (g x) + n) (total_map f g xs)

entries_map : (s p : ℕ) (xs : List Leaf) → entries_to (key_at levels.Languages) (size_at levels.Languages) s p (map (λ x. (x, [])) xs) ≡ entries_to language_key entry_size s p xs
unfolding entries_to
entries_map s p [] = refl
entries_map s p (x ∷ xs) = ap (λ (l : List ℕ). bytes_of 4 x.language ++ (bytes_of 4 p ++ l)) (entries_map (s + 0) (p + 16) xs)

language_directory : (p : ℕ) (xs : List Leaf) → directory_to (key_at levels.Languages) (size_at levels.Languages) 0 p (runs_of levels.Languages xs) ≡ directory_to language_key entry_size 0 p xs
unfolding directory_to
language_directory p xs =
    ap (directory_to (key_at levels.Languages) (size_at levels.Languages) 0 p) (alone xs) ∙ grind (arith, total_map, entries_map)

pub no_language_names : (xs : List Leaf) → names_total levels.Languages (runs_of levels.Languages xs) ≡ 0
no_language_names xs = simp (alone xs, total_map (λ r. name_size (key_at levels.Languages r)) (λ x. (x, [])) xs, total_no_names xs)

pub language_parts : (xs : List Leaf) → parts_total levels.Languages (runs_of levels.Languages xs) ≡ 16 * length xs
language_parts xs = ap (parts_total levels.Languages) (alone xs) ∙ total_map (size_at levels.Languages) (λ x. (x, [])) xs ∙ total_16 xs

pub resource_tables_are : (s p : ℕ) (ns : List (Leaf × List Leaf)) → s ≡ 0 → directories_at levels.Languages s p ns ≡ resource_tables p ns
unfolding directories_at resource_tables
resource_tables_are s p [] e = refl
resource_tables_are s p (n ∷ ns) e =
    let rs : List (Leaf × List Leaf) = runs_of levels.Languages (elements n) in
    ap (λ (k : ℕ). directory_to (key_at levels.Languages) (size_at levels.Languages) k p rs ++ directories_at levels.Languages (s + names_total levels.Languages rs) (p + parts_total levels.Languages rs) ns) e
    ∙ ap (λ (l : List ℕ). l ++ directories_at levels.Languages (s + names_total levels.Languages rs) (p + parts_total levels.Languages rs) ns) (language_directory p (elements n))
    ∙ ap (λ (l : List ℕ). directory_to language_key entry_size 0 p (elements n) ++ l) (resource_tables_are (s + names_total levels.Languages rs) (p + parts_total levels.Languages rs) ns (omega (arith, e, no_language_names (elements n))))
    ∙ ap (λ (k : ℕ). directory_to language_key entry_size 0 p (elements n) ++ resource_tables (p + k) ns) (language_parts (elements n))
