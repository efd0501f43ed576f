-- One turn of each loop over the leaves of entries.
use Rattle.std.proofs.Common.{◌≡◌, ℕ, ◌+◌, List, length, subst, sym, arith}
use Rattle.std.proofs.Common.{◌++◌}
use Rattle.pe_edit.proofs.Cited.{bytes_of, splice, Cursor, Level, Measure, IsRunAt, above, after_directory, key_at, key_of_run}
use Rattle.pe_edit.proofs.Cited.{runs_of, size_at, size_of_run, Each, Key, Leaf, NameFits, NamesFit, directory_to, key_number}
use Rattle.pe_edit.proofs.Cited.{name_bytes, name_size, named}
use Rattle.pe_edit.proofs.DirectoryLoops.{DirectoriesWritten, more_directories_written}
use Rattle.pe_edit.proofs.Entries.{EntriesWritten, Measured, NamesWritten, more_entries_written, more_measured, more_names_written}
use Rattle.pe_edit.proofs.RunsAt.{run_key_fits}

pub measure_turn : (level : Level) (xs run : List Leaf) (size start : ℕ) (sum next : Measure) (key : Key) → size ≡ length run → IsRunAt level xs start run → Each NamesFit xs → key ≡ key_of_run level run → Measured level xs sum start →
    next.entries ≡ sum.entries + 1 → next.named ≡ sum.named + named key → next.names_size ≡ sum.names_size + name_size key → Measured level xs next (start + size)
measure_turn level xs run size start sum next key z k f e m en ed es =
    subst (λ (n : ℕ). Measured level xs next (start + n)) (sym z)
    (more_measured level xs run start sum next key k (subst NameFits (sym e) (run_key_fits level xs run start k f)) e m en ed es)

pub names_turn : (old now next : List ℕ) (at end after : ℕ) (level : Level) (xs run : List Leaf) (size start : ℕ) (key : Key) → size ≡ length run → IsRunAt level xs start run → key ≡ key_of_run level run → NamesWritten old now at end level xs start →
    next ≡ splice now end (name_bytes key) → after ≡ end + length (name_bytes key) → NamesWritten old next at after level xs (start + size)
names_turn old now next at end after level xs run size start key z k e w f g = grind (arith, more_names_written)

pub entries_turn : (old now next : List ℕ) (at c d : Cursor) (level : Level) (xs run : List Leaf) (size start m : ℕ) (key : Key) → size ≡ length run → IsRunAt level xs start run → key ≡ key_of_run level run → EntriesWritten old now at c level xs start →
    m ≡ key_number c.name key → next ≡ splice now c.end (bytes_of 4 m ++ bytes_of 4 c.part) → d.end ≡ c.end + 8 → d.name ≡ c.name + name_size key → d.part ≡ c.part + size_of_run level run →
    EntriesWritten old next at d level xs (start + size)
entries_turn old now next at c d level xs run size start m key z k e w f g ee en ep =
    subst (λ (n : ℕ). EntriesWritten old next at d level xs (start + n)) (sym z)
    (more_entries_written old now next at c d level xs run start m key k e w f g ee en ep)

pub directories_turn : (old now next : List ℕ) (at c d : Cursor) (level : Level) (xs run : List Leaf) (size start : ℕ) → size ≡ length run → IsRunAt (above level) xs start run → DirectoriesWritten old now at c level xs start →
    next ≡ splice now c.end (directory_to (key_at level) (size_at level) c.name c.part (runs_of level run)) → d ≡ after_directory level c (runs_of level run) → DirectoriesWritten old next at d level xs (start + size)
directories_turn old now next at c d level xs run size start z k w e f =
    subst (λ (n : ℕ). DirectoriesWritten old next at d level xs (start + n)) (sym z)
    (more_directories_written old now next at c d level xs run start k w e f)
