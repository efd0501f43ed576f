-- The loops over the entries of directories.
use Rattle.std.proofs.Common.{◌≡◌, ℕ, ◌+◌, ◌*◌, ◌<◌, ◌≤◌, List, ◌++◌, length, drop, ap, sym, ◌∙◌, subst, arith, length-append}
use Rattle.pe_edit.proofs.Cited.{append_assoc, bytes_of, splice, length-bytes_of, splice-splice, Cursor, Level, Measure, IsRunAt}
use Rattle.pe_edit.proofs.Cited.{PartsFit, after_entries, key_at, key_of_run, measure_of, names_total, parts_total, runs_of}
use Rattle.pe_edit.proofs.Cited.{size_at, size_of_run, Key, Leaf, NameFits, entries_to, key_number, name_bytes, name_size, named}
use Rattle.pe_edit.proofs.Cited.{names, resources_of, total}
use Rattle.pe_edit.specs.declared.level.Level.TheVariants as levels
use Rattle.pe_edit.proofs.RunsAt.{no_runs_at}
use Rattle.pe_edit.proofs.Tables.{length-entries_to}
use Rattle.pe_edit.proofs.Writing.{Written, all_written, more_written, nothing_written, room_for}

-- ---- sums

-- a sum over the entries from one on, by the first of them
pub total_from : (f : Leaf × List Leaf → ℕ) (level : Level) (xs r : List Leaf) (start : ℕ) (k : IsRunAt level xs start r) →
    total f (runs_of level (drop start xs)) ≡ f (k.first, k.others) + total f (runs_of level (drop (start + length r) xs))
unfolding total
total_from f level xs r start k = ap (total f) k.found

count_from : (level : Level) (xs r : List Leaf) (start : ℕ) → IsRunAt level xs start r → length (runs_of level (drop start xs)) ≡ 1 + length (runs_of level (drop (start + length r) xs))
count_from level xs r start k = omega (arith, ap length k.found)

none_left : (f : Leaf × List Leaf → ℕ) (level : Level) (xs : List Leaf) (start : ℕ) → length xs ≤ start → total f (runs_of level (drop start xs)) ≡ 0
unfolding total
none_left f level xs start h = ap (total f) (no_runs_at level xs start h)

key_is : (level : Level) (xs r : List Leaf) (start : ℕ) (k : IsRunAt level xs start r) (key : Key) → key ≡ key_of_run level r → key_at level (k.first, k.others) ≡ key
key_is level xs r start k key e = sym (e ∙ ap (key_of_run level) k.is)

size_is : (level : Level) (xs r : List Leaf) (start : ℕ) (k : IsRunAt level xs start r) → size_at level (k.first, k.others) ≡ size_of_run level r
size_is level xs r start k = sym (ap (size_of_run level) k.is)

-- ---- what entries come to

-- what is known in the loop that measures
pub record Measured (level : Level) (xs : List Leaf) (sum : Measure) (start : ℕ) : Type 0 where
  pub inside : start ≤ length xs
  pub entries : sum.entries + length (runs_of level (drop start xs)) ≡ length (runs_of level xs)
  pub named : sum.named + total (λ r. named (key_at level r)) (runs_of level (drop start xs)) ≡ total (λ r. named (key_at level r)) (runs_of level xs)
  pub names_size : sum.names_size + total (λ r. name_size (key_at level r)) (runs_of level (drop start xs)) ≡ total (λ r. name_size (key_at level r)) (runs_of level xs)
  pub few : sum.entries ≤ start
  pub some : sum.named ≤ sum.entries
  pub small : sum.names_size ≤ 131074 * start

pub small_name : (k : Key) → NameFits k → name_size k ≤ 131074
small_name k f = grind arith

pub one_name : (k : Key) → named k ≤ 1
one_name k = grind arith

pub more_measured : (level : Level) (xs r : List Leaf) (start : ℕ) (sum next : Measure) (key : Key) → IsRunAt level xs start r → NameFits key → key ≡ key_of_run level r → Measured level xs sum start →
    next.entries ≡ sum.entries + 1 → next.named ≡ sum.named + named key → next.names_size ≡ sum.names_size + name_size key → Measured level xs next (start + length r)
more_measured level xs r start sum next key k f e m en ed es =
    let same : key_at level (k.first, k.others) ≡ key = key_is level xs r start k key e in
    let one : total (λ r. named (key_at level r)) (runs_of level (drop start xs)) ≡ named (key_at level (k.first, k.others)) + total (λ r. named (key_at level r)) (runs_of level (drop (start + length r) xs)) =
    total_from (λ r. named (key_at level r)) level xs r start k in
    let size : total (λ r. name_size (key_at level r)) (runs_of level (drop start xs)) ≡ name_size (key_at level (k.first, k.others)) + total (λ r. name_size (key_at level r)) (runs_of level (drop (start + length r) xs)) =
    total_from (λ r. name_size (key_at level r)) level xs r start k in
    let some : 1 ≤ length r = omega (arith, ap length k.is) in
    record {
      inside = k.inside;
      entries = omega (arith, en, m.entries, count_from level xs r start k);
      named = omega (arith, ed, m.named, one, ap named same);
      names_size = omega (arith, es, m.names_size, size, ap name_size same);
      few = omega (arith, en, m.few, some);
      some = omega (arith, ed, en, m.some, one_name key);
      small = omega (arith, es, m.small, small_name key f, some);
    }

pub all_measured : (level : Level) (xs : List Leaf) (start : ℕ) (sum : Measure) → length xs ≤ start → Measured level xs sum start → sum ≡ measure_of level xs
all_measured level xs start sum h m = grind (arith, no_runs_at, none_left)

-- ---- names

-- the names up to those of the leaves from one on are written
pub record NamesWritten (old now : List ℕ) (at end : ℕ) (level : Level) (xs : List Leaf) (start : ℕ) : Type 0 where
  pub inside : start ≤ length xs
  pub written : Written old now at end (names (key_at level) (runs_of level xs)) (names (key_at level) (runs_of level (drop start xs)))

pub no_names_written : (old : List ℕ) (at : ℕ) (level : Level) (xs : List Leaf) → at + length (names (key_at level) (runs_of level xs)) ≤ length old → NamesWritten old old at at level xs 0
no_names_written old at level xs h = record { inside = omega arith; written = nothing_written old at (names (key_at level) (runs_of level xs)) h }

names_rest : (old now : List ℕ) (at end : ℕ) (level : Level) (xs r : List Leaf) (start : ℕ) (key : Key) → IsRunAt level xs start r → key ≡ key_of_run level r → NamesWritten old now at end level xs start →
    Written old now at end (names (key_at level) (runs_of level xs)) (name_bytes key ++ names (key_at level) (runs_of level (drop (start + length r) xs)))
names_rest old now at end level xs r start key k e w = grind arith

pub name_room : (old now : List ℕ) (at end : ℕ) (level : Level) (xs r : List Leaf) (start : ℕ) (key : Key) → IsRunAt level xs start r → key ≡ key_of_run level r → NamesWritten old now at end level xs start → end + length (name_bytes key) ≤ length now
name_room old now at end level xs r start key k e w =
    room_for old now at end (names (key_at level) (runs_of level xs)) (name_bytes key) (names (key_at level) (runs_of level (drop (start + length r) xs))) (names_rest old now at end level xs r start key k e w)

pub more_names_written : (old now next : List ℕ) (at end after : ℕ) (level : Level) (xs r : List Leaf) (start : ℕ) (key : Key) → IsRunAt level xs start r → key ≡ key_of_run level r → NamesWritten old now at end level xs start →
    next ≡ splice now end (name_bytes key) → after ≡ end + length (name_bytes key) → NamesWritten old next at after level xs (start + length r)
more_names_written old now next at end after level xs r start key k e w f g = grind (arith, more_written, names_rest)

pub all_names_written : (old now : List ℕ) (at end : ℕ) (level : Level) (xs : List Leaf) (start : ℕ) → length xs ≤ start → NamesWritten old now at end level xs start → now ≡ splice old at (names (key_at level) (runs_of level xs))
all_names_written old now at end level xs start h w =
    all_written old now at end (names (key_at level) (runs_of level xs)) (names (key_at level) (runs_of level (drop start xs))) (ap (names (key_at level)) (no_runs_at level xs start h)) w.written

-- ---- entries

entries_from : (level : Level) (xs r : List Leaf) (start s p : ℕ) (key : Key) → IsRunAt level xs start r → key ≡ key_of_run level r →
    entries_to (key_at level) (size_at level) s p (runs_of level (drop start xs))
    ≡ (bytes_of 4 (key_number s key) ++ bytes_of 4 p) ++ entries_to (key_at level) (size_at level) (s + name_size key) (p + size_of_run level r) (runs_of level (drop (start + length r) xs))
unfolding entries_to
entries_from level xs r start s p key k e = grind (arith, size_is, key_is, append_assoc)

-- the entries up to that of the leaves from one on are written
pub record EntriesWritten (old now : List ℕ) (at c : Cursor) (level : Level) (xs : List Leaf) (start : ℕ) : Type 0 where
  pub inside : start ≤ length xs
  pub written : Written old now at.end c.end (entries_to (key_at level) (size_at level) at.name at.part (runs_of level xs)) (entries_to (key_at level) (size_at level) c.name c.part (runs_of level (drop start xs)))
  pub count : c.end + 8 * length (runs_of level (drop start xs)) ≡ at.end + 8 * length (runs_of level xs)
  pub names : c.name + names_total level (runs_of level (drop start xs)) ≡ at.name + names_total level (runs_of level xs)
  pub parts : c.part + parts_total level (runs_of level (drop start xs)) ≡ at.part + parts_total level (runs_of level xs)
  pub fit : PartsFit level at (runs_of level xs)

pub no_entries_written : (old : List ℕ) (at : Cursor) (level : Level) (xs : List Leaf) → at.end + 8 * length (runs_of level xs) ≤ length old → PartsFit level at (runs_of level xs) → EntriesWritten old old at at level xs 0
no_entries_written old at level xs h f = grind (arith, nothing_written, length-entries_to)

-- the numbers of the next entry fit
pub record EntryFits (c : Cursor) (key : Key) (size : ℕ) : Type 0 where
  pub name : c.name + name_size key < 2147483648
  pub part : c.part + size < 4294967296

pub entry_fits : (old now : List ℕ) (at c : Cursor) (level : Level) (xs r : List Leaf) (start : ℕ) (key : Key) → IsRunAt level xs start r → key ≡ key_of_run level r → EntriesWritten old now at c level xs start → EntryFits c key (size_of_run level r)
entry_fits old now at c level xs r start key k e w = record {
  name = omega (arith, w.names, w.fit.names, total_from (λ r. name_size (key_at level r)) level xs r start k, ap name_size (key_is level xs r start k key e));
  part = omega (arith, w.parts, w.fit.parts, total_from (size_at level) level xs r start k, size_is level xs r start k);
}

entries_rest : (old now : List ℕ) (at c : Cursor) (level : Level) (xs r : List Leaf) (start : ℕ) (key : Key) → IsRunAt level xs start r → key ≡ key_of_run level r → EntriesWritten old now at c level xs start →
    Written old now at.end c.end (entries_to (key_at level) (size_at level) at.name at.part (runs_of level xs))
    ((bytes_of 4 (key_number c.name key) ++ bytes_of 4 c.part) ++ entries_to (key_at level) (size_at level) (c.name + name_size key) (c.part + size_of_run level r) (runs_of level (drop (start + length r) xs)))
entries_rest old now at c level xs r start key k e w = grind (arith, entries_from)

eight : (m n : ℕ) → length (bytes_of 4 m ++ bytes_of 4 n) ≡ 8
eight m n = length-append (bytes_of 4 m) (bytes_of 4 n) ∙ omega (arith, length-bytes_of 4 m, length-bytes_of 4 n)

pub entry_room : (old now : List ℕ) (at c : Cursor) (level : Level) (xs r : List Leaf) (start : ℕ) (key : Key) → IsRunAt level xs start r → key ≡ key_of_run level r → EntriesWritten old now at c level xs start → c.end + 8 ≤ length now
entry_room old now at c level xs r start key k e w =
    let x : List ℕ = bytes_of 4 (key_number c.name key) ++ bytes_of 4 c.part in
    omega (
      arith,
      eight (key_number c.name key) c.part,
      room_for old now at.end c.end (entries_to (key_at level) (size_at level) at.name at.part (runs_of level xs)) x (entries_to (key_at level) (size_at level) (c.name + name_size key) (c.part + size_of_run level r) (runs_of level (drop (start + length r) xs)))
          (entries_rest old now at c level xs r start key k e w),
    )

pub more_entries_written : (old now next : List ℕ) (at c d : Cursor) (level : Level) (xs r : List Leaf) (start m : ℕ) (key : Key) → IsRunAt level xs start r → key ≡ key_of_run level r → EntriesWritten old now at c level xs start →
    m ≡ key_number c.name key → next ≡ splice now c.end (bytes_of 4 m ++ bytes_of 4 c.part) → d.end ≡ c.end + 8 → d.name ≡ c.name + name_size key → d.part ≡ c.part + size_of_run level r → EntriesWritten old next at d level xs (start + length r)
more_entries_written old now next at c d level xs r start m key k e w f g ee en ep =
    let x : List ℕ = bytes_of 4 (key_number c.name key) ++ bytes_of 4 c.part in
    let all : List ℕ = entries_to (key_at level) (size_at level) at.name at.part (runs_of level xs) in
    let rest : Written old next at.end d.end all (entries_to (key_at level) (size_at level) (c.name + name_size key) (c.part + size_of_run level r) (runs_of level (drop (start + length r) xs))) =
    more_written old now next at.end c.end d.end all x (entries_to (key_at level) (size_at level) (c.name + name_size key) (c.part + size_of_run level r) (runs_of level (drop (start + length r) xs)))
    (entries_rest old now at c level xs r start key k e w) (g ∙ ap (λ (n : ℕ). splice now c.end (bytes_of 4 n ++ bytes_of 4 c.part)) f) (omega (arith, ee, eight (key_number c.name key) c.part)) in
    record {
      inside = k.inside;
      written = subst (λ (n : ℕ). Written old next at.end d.end all (entries_to (key_at level) (size_at level) d.name n (runs_of level (drop (start + length r) xs)))) (sym ep)
          (subst (λ (n : ℕ). Written old next at.end d.end all (entries_to (key_at level) (size_at level) n (c.part + size_of_run level r) (runs_of level (drop (start + length r) xs)))) (sym en) rest);
      count = omega (arith, w.count, ee, count_from level xs r start k);
      names = omega (arith, w.names, en, total_from (λ r. name_size (key_at level r)) level xs r start k, ap name_size (key_is level xs r start k key e));
      parts = omega (arith, w.parts, ep, total_from (size_at level) level xs r start k, size_is level xs r start k);
      fit = w.fit;
    }

pub all_entries_written : (old now : List ℕ) (at c : Cursor) (level : Level) (xs : List Leaf) (start : ℕ) → length xs ≤ start → EntriesWritten old now at c level xs start →
    now ≡ splice old at.end (entries_to (key_at level) (size_at level) at.name at.part (runs_of level xs))
unfolding entries_to
all_entries_written old now at c level xs start h w =
    all_written old now at.end c.end (entries_to (key_at level) (size_at level) at.name at.part (runs_of level xs)) (entries_to (key_at level) (size_at level) c.name c.part (runs_of level (drop start xs)))
    (ap (entries_to (key_at level) (size_at level) c.name c.part) (no_runs_at level xs start h)) w.written

pub cursor_after : (old now : List ℕ) (at c : Cursor) (level : Level) (xs : List Leaf) (start : ℕ) → length xs ≤ start → EntriesWritten old now at c level xs start → c ≡ after_entries level at (runs_of level xs)
cursor_after old now at c level xs start h w = grind (arith, no_runs_at, none_left)

-- the two numbers of an entry
pub entry_parts : (b next last : List ℕ) (p m n : ℕ) → p + 8 ≤ length b → next ≡ splice b p (bytes_of 4 m) → last ≡ splice next (p + 4) (bytes_of 4 n) → last ≡ splice b p (bytes_of 4 m ++ bytes_of 4 n)
entry_parts b next last p m n h e f =
    f ∙ ap (λ (l : List ℕ). splice l (p + 4) (bytes_of 4 n)) e ∙ ap (λ (k : ℕ). splice (splice b p (bytes_of 4 m)) k (bytes_of 4 n)) (omega (arith, length-bytes_of 4 m))
    ∙ splice-splice b p (bytes_of 4 m) (bytes_of 4 n) (omega (arith, h))

-- ---- the size of a part

pub size_of_type : (r : List Leaf) (m : Measure) → 0 < length r → m ≡ measure_of levels.Names r → 16 + 8 * m.entries ≡ size_of_run levels.Types r
unfolding resources_of
size_of_type r m h e = grind arith

pub size_of_resource : (r : List Leaf) (n : ℕ) → 0 < length r → n ≡ length r → 16 + 8 * n ≡ size_of_run levels.Names r
size_of_resource r n h e = grind arith

pub size_of_language : (r : List Leaf) → 0 < length r → 16 ≡ size_of_run levels.Languages r
size_of_language r h = grind arith

-- ---- the entry that is written next

pub entry_name : (old now : List ℕ) (at c : Cursor) (level : Level) (xs r : List Leaf) (start : ℕ) (key : Key) → IsRunAt level xs start r → key ≡ key_of_run level r → EntriesWritten old now at c level xs start → c.name + name_size key < 2147483648
entry_name old now at c level xs r start key k e w = let f : EntryFits c key (size_of_run level r) = entry_fits old now at c level xs r start key k e w in f.name

pub entry_part : (old now : List ℕ) (at c : Cursor) (level : Level) (xs r : List Leaf) (start : ℕ) (key : Key) → IsRunAt level xs start r → key ≡ key_of_run level r → EntriesWritten old now at c level xs start → c.part + size_of_run level r < 4294967296
entry_part old now at c level xs r start key k e w = let f : EntryFits c key (size_of_run level r) = entry_fits old now at c level xs r start key k e w in f.part
