-- The leaves that a walk has left, by what it takes next: a language, a name, a type.
use Rattle.std.proofs.Common.{◌≡◌, ℕ, ◌+◌, ◌-◌, ◌*◌, ◌<◌, ◌≤◌, List, [], ◌∷◌, ◌++◌, length, map, Result, Ok, refl, arith}
use Rattle.pe_resource.proofs.Cited.{flat_map, append_assoc, nat_tests, length_range, rest_of_range, range, record_at, ResourceEntry}
use Rattle.pe_resource.proofs.Cited.{ResourceLeaf, entry_at, entries, TreeRefusal, leaf_of, leaves_of_name, leaves_of_type, leaves_from}
use Rattle.pe_resource.proofs.Entries.{entries_count, entries_more, entries_none}

abbrev Item : Type 0
Item = Result ResourceLeaf TreeRefusal

pub no_leaf : (b : List ℕ) (t n : ResourceEntry) (ls ns ts : List ResourceEntry) → ls ≡ [] → ns ≡ [] → ts ≡ [] → leaves_from b t n ls ns ts ≡ []
no_leaf b t n ls ns ts l m k = rw l (rw m (rw k refl))

pub next_language : (b : List ℕ) (t n e : ResourceEntry) (ls more ns ts : List ResourceEntry) → ls ≡ e ∷ more → leaves_from b t n ls ns ts ≡ leaf_of b t n e ∷ leaves_from b t n more ns ts
next_language b t n e ls more ns ts l = rw l refl

pub next_name : (b : List ℕ) (t n e : ResourceEntry) (x : Result ResourceLeaf TreeRefusal) (ls more ns names ts : List ResourceEntry) → ls ≡ [] → ns ≡ e ∷ names → leaves_of_name b t e ≡ x ∷ map (leaf_of b t e) more → leaves_from b t n ls ns ts ≡ x ∷ leaves_from b t e more names ts
next_name b t n e x ls more ns names ts l m k = grind (arith, append_assoc)

pub next_type : (b : List ℕ) (t n e f : ResourceEntry) (x : Result ResourceLeaf TreeRefusal) (ls more ns names ts types : List ResourceEntry) → ls ≡ [] → ns ≡ [] → ts ≡ e ∷ types → leaves_of_type b e ≡ x ∷ (map (leaf_of b e f) more ++ flat_map (leaves_of_name b e) names) → leaves_from b t n ls ns ts ≡ x ∷ leaves_from b e f more names types
next_type b t n e f x ls more ns names ts types l m k h = grind (arith, append_assoc)

-- ---- entries in ranges of the data

pub entries_of_range : (b : List ℕ) (p n : ℕ) → p + n ≤ length b → 8 ≤ n → entries (range b p n) ≡ entry_at (range b p n) 0 ∷ entries (range b (p + 8) (n - 8))
entries_of_range b p n h some = grind (arith, entries_more, length_range, rest_of_range)

pub no_entry_in_range : (b : List ℕ) (p n : ℕ) → p + n ≤ length b → n < 8 → entries (range b p n) ≡ []
no_entry_in_range b p n h few = entries_none (range b p n) (let size : length (range b p n) ≡ n = length_range b p n h in omega (arith, size))

pub whole_table : (b t : List ℕ) (p n : ℕ) → record_at b p (8 * n) (range b p (8 * n)) ≡ Ok t → 8 * length (entries t) ≡ length t
whole_table b t p n e = grind (arith, nat_tests, length_range, entries_count)
