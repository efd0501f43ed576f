-- Whole walks over the entries of a guard table return the entries that pe_directories defines.
use Rattle.std.proofs.Common.{◌≡◌, ◌⊎◌, inl, inr, ℕ, ◌+◌, ◌-◌, ◌≤◌, ◌==◌, Bool, false, List, [], ◌∷◌, length, drop, Option, Some, None, Result, Ok, Err, refl, sym, ap, subst, ◌∙◌, arith}
use Rattle.calls_directories.proofs.Cited.{if◌then◌else◌, nat_tests, length_range, range_in_range, holds, range, Short, ◌>>=◌}
use Rattle.calls_directories.proofs.Cited.{SectionTable, DirectoryRefusal, Image, First, Items, size_of, there, first_of}
use Rattle.calls_directories.proofs.Cited.{image_parts, range_left, directory, is_absent, IsRange, bytes_at, range_after}
use Rattle.calls_directories.proofs.Cited.{ReturnsItems, Range}
use Rattle.pe_directories.specs.GuardTables.{Guarded, first_guarded, guard_table}
use Rattle.pe_directories.specs.LoadConfig.{load_config}
use Rattle.pe_directories.specs.declared.load_config.LoadConfig.{LoadConfig}
use Rattle.calls_directories.proofs.DirectoryLists.{held}
use Rattle.calls_directories.proofs.DirectoryRuns.{IsWalk, each_has, goes_on, in_turn, makes_reported, moved, no_bytes_at, refused}
use Rattle.calls_directories.proofs.NumberLists.{tail_from, tail_there}
use Rattle.calls_directories.specs.GuardTables.{HasGuarded, ReturnsEntries, StepsGuardEntries, after_entry, entries_after, entries_in, entries_of, entry_reported, first_entry_in, guard_table_at, no_entries, place_of}
use Rattle.calls_directories.specs.declared.directories.guard_tables.GuardEntries.{GuardEntries}
use Rattle.calls_directories.specs.declared.directories.guard_tables.GuardEntry.{GuardEntry}
use Rattle.calls_directories.specs.declared.directories.guard_tables.Place.{Place}
use Rattle.calls_base.specs.declared.image.Image as images

-- ---- what stands first, and what it leaves

-- an entry takes its RVA and its flags from the front
abbrev pub IsTaken : ℕ → ℕ × List ℕ → Guarded → ℕ × List ℕ → Type 0
IsTaken n s x t = (t.0 ≡ s.0 - 1) × (t.1 ≡ drop (4 + n) s.1) × (4 + n ≤ length s.1) × (x.flags ≡ range s.1 4 n)

pub first_taken : (n : ℕ) (s : ℕ × List ℕ) (x : Guarded) (t : ℕ × List ℕ) → first_guarded n s ≡ Some (Ok (x, t)) → IsTaken n s x t
unfolding first_guarded
first_taken n s x t e = grind (arith, held)

-- ---- the walk

-- a walk has so many entries left, with these bytes from the next of them on, and n bytes of flags each
abbrev HoldsEntries : ℕ → List ℕ → GuardEntries → ℕ × List ℕ → Type 0
HoldsEntries n b w s = (bytes_at b w.entries ≡ Ok s.1) × (w.count ≡ s.0) × (w.flag_size ≡ n)

sees : (n : ℕ) (b : List ℕ) (w : GuardEntries) (s : ℕ × List ℕ) → HoldsEntries n b w s → first_entry_in b w ≡ first_guarded n s
sees n b w s h = grind arith

abbrev next_entries : GuardEntries → Guarded → ℕ × List ℕ → GuardEntries
next_entries w x t = record w { entries = range_left w.entries (length t.1); count = t.0 }

abbrev over_entries : GuardEntries → GuardEntries
over_entries w = no_entries

entries_move : (w : GuardEntries) (f : First Guarded (ℕ × List ℕ)) → entries_after w f ≡ moved (λ (x : Guarded). Ok (entry_reported w x)) (next_entries w) no_entries w f
entries_move w f = grind arith

entries_go_on : (n : ℕ) (b : List ℕ) (w : GuardEntries) (s : ℕ × List ℕ) (x : Guarded) (t : ℕ × List ℕ) → HoldsEntries n b w s → first_guarded n s ≡ Some (Ok (x, t)) →
    (next_entries w x t ≡ after_entry w x) × HoldsEntries n b (after_entry w x) t
entries_go_on n b w s x t h e =
    let taken = first_taken n s x t e in
    let flags : 4 + n ≡ 4 + w.flag_size = ap (λ (k : ℕ). 4 + k) (sym h.2) in
    let rest : t.1 ≡ drop (4 + w.flag_size) s.1 = taken.1 ∙ ap (λ (k : ℕ). drop k s.1) flags in
    let some : 4 + w.flag_size ≤ length s.1 = subst (λ (k : ℕ). k ≤ length s.1) flags taken.2 in
    let on = goes_on b w.entries s.1 t.1 (4 + w.flag_size) h.0 rest some in
    let count : w.count - 1 ≡ t.0 = ap (λ (k : ℕ). k - 1) h.1 ∙ sym taken.0 in (
      ap (λ (r : Range). record w { entries = r; count = t.0 }) on.0 ∙ ap (λ (k : ℕ). record w { entries = range_after w.entries (4 + w.flag_size); count = k }) (sym count),
      (on.1, count, h.2),
    )

none_of : (n : ℕ) (s : ℕ × List ℕ) → s.0 ≡ 0 → first_guarded n s ≡ None
unfolding first_guarded
none_of n s e = rw e refl

entry_walk : (n : ℕ) (b : List ℕ) → IsWalk (StepsGuardEntries b) (first_guarded n) (first_entry_in b) (λ w x. Ok (entry_reported w x)) after_entry next_entries over_entries (HoldsEntries n b)
entry_walk n b = record {
  sees = sees n b;
  makes = makes_reported entry_reported (first_entry_in b) entries_after next_entries over_entries entries_move;
  goes_on = entries_go_on n b;
  ends = λ w. (sees 0 b no_entries (0, []) (no_bytes_at b, refl, refl) ∙ none_of 0 (0, []) refl);
}

-- ---- the parts of an entry

flags_stand : (n : ℕ) (b : List ℕ) (w : GuardEntries) (s : ℕ × List ℕ) (x : Guarded) (t : ℕ × List ℕ) → HoldsEntries n b w s → IsTaken n s x t → IsRange b (record { offset = w.entries.offset + 4; length = length x.flags }) x.flags
flags_stand n b w s x t h taken =
    let in_b = there b w.entries s.1 (holds b w.entries.offset w.entries.length) refl h.0 in
    let size : length s.1 ≡ w.entries.length = size_of b w.entries s.1 h.0 in
    let whole : 4 + n ≤ w.entries.length = subst (λ (k : ℕ). 4 + n ≤ k) size taken.2 in
    let same : x.flags ≡ range b (w.entries.offset + 4) n = taken.3 ∙ ap (λ (d : List ℕ). range d 4 n) in_b.1 ∙ sym (range_in_range b w.entries.offset w.entries.length 4 n in_b.0 whole) in
    let inside : w.entries.offset + w.entries.length ≤ length b = in_b.0 in
    let held_there : w.entries.offset + 4 + n ≤ length b = omega (arith, whole, inside) in
    let many : length x.flags ≡ n = ap length same ∙ length_range b (w.entries.offset + 4) n held_there in
    record { inside = subst (λ (k : ℕ). w.entries.offset + 4 + k ≤ length b) (sym many) held_there; same = ap (range b (w.entries.offset + 4)) many ∙ sym same }

entry_has : (n : ℕ) (b : List ℕ) (w : GuardEntries) (s : ℕ × List ℕ) (x : Guarded) (t : ℕ × List ℕ) (y : GuardEntry) → HoldsEntries n b w s → first_guarded n s ≡ Some (Ok (x, t)) →
    ◌≡◌ {A = Result GuardEntry DirectoryRefusal} (Ok (entry_reported w x)) (Ok y) → HasGuarded b y x
entry_has n b w s x t y h e r =
    let same : entry_reported w x ≡ y = cc (r) in
    subst (λ (z : GuardEntry). HasGuarded b z x) same
    (record { rva = refl; flags = flags_stand n b w s x t h (first_taken n s x t e) })

pub entries_in_turn : (b : List ℕ) (w : GuardEntries) (left : List ℕ) (items : List (Result Guarded DirectoryRefusal)) → bytes_at b w.entries ≡ Ok left → Items (first_guarded w.flag_size) (w.count, left) items → ReturnsEntries b w items
entries_in_turn b w left items e f = (
  in_turn _ _ _ _ _ _ _ _ (entry_walk w.flag_size b) w (w.count, left) items (e, refl, refl) f,
  each_has _ _ _ _ _ _ _ _ (entry_walk w.flag_size b) (HasGuarded b) (entry_has w.flag_size b) w (w.count, left) items (e, refl, refl) f,
)

pub entries_outside : (b : List ℕ) (w : GuardEntries) (r : DirectoryRefusal) → entries_in b w ≡ Err r → ReturnsItems (StepsGuardEntries b) w (Err r ∷ [])
entries_outside b w r e = refused _ _ _ _ _ _ _ _ (entry_walk w.flag_size b) w r (ap (first_of (first_guarded w.flag_size)) e)

-- ---- the walk over a table of an image, which starts at an offset and has no length

-- the list of no bytes is one refusal, unless no entries are left
none_by : (n count : ℕ) (items : List (Result Guarded DirectoryRefusal)) → (count == 0) ≡ false → Items (first_guarded n) (count, []) items → first_guarded n (count, []) ≡ Some (Err (Image Short)) → items ≡ Err (Image Short) ∷ []
none_by n count [] some f e = absurd (let none : ◌≡◌ {A = First Guarded (ℕ × List ℕ)} (Some (Err (Image Short))) None = sym e ∙ f in cc)
none_by n count (Ok x ∷ items) some f e = absurd (let none : ◌≡◌ {A = First Guarded (ℕ × List ℕ)} (Some (Err (Image Short))) (Some (Ok (x, f.0))) = sym e ∙ f.1 in cc)
none_by n count (Err r ∷ items) some f e = grind (arith)

truncated : (n count : ℕ) (items : List (Result Guarded DirectoryRefusal)) → (count == 0) ≡ false → Items (first_guarded n) (count, []) items → items ≡ Err (Image Short) ∷ []
unfolding first_guarded
truncated n count items some f = none_by n count items some f (grind (arith, nat_tests))

abbrev walk_from : List ℕ → ℕ → ℕ → ℕ → GuardEntries
walk_from b p count n = record { entries = tail_from b p; count = count; flag_size = n; spare = 0 }

from_offset : (b : List ℕ) (p count n : ℕ) (items : List (Result Guarded DirectoryRefusal)) → (count == 0) ≡ false → Items (first_guarded n) (count, drop p b) items →
    ((bytes_at b (tail_from b p) ≡ Ok (drop p b)) ⊎ ((bytes_at b (tail_from b p) ≡ Err Short) × (drop p b ≡ []))) → ReturnsEntries b (walk_from b p count n) items
from_offset b p count n items some f (inl h) = entries_in_turn b (walk_from b p count n) (drop p b) items h f
from_offset b p count n items some f (inr h) =
    subst (λ (xs : List (Result Guarded DirectoryRefusal)). ReturnsEntries b (walk_from b p count n) xs)
    (sym (truncated n count items some (subst (λ (d : List ℕ). Items (first_guarded n) (count, d) items) h.1 f)))
    (entries_outside b (walk_from b p count n) (Image Short) (rw h.0 refl), tt)

of_config : (entries : Place → Result (Option GuardEntries) DirectoryRefusal) (absent : Bool) (n : ℕ) (c : LoadConfig) (read : Result LoadConfig DirectoryRefusal) (w : GuardEntries) → read ≡ Ok c →
    ◌≡◌ {A = Result (Option GuardEntries) DirectoryRefusal} (if absent then Ok None else (read >>= λ d. entries (place_of n d))) (Ok (Some w)) → entries (place_of n c) ≡ Ok (Some w)
of_config entries absent n c read w h e = grind arith

pub entries_of_image : (n : ℕ) (b : List ℕ) (image : images.Image) (sections : List SectionTable) (w : GuardEntries) (c : LoadConfig) (s : ℕ × List ℕ) (items : List (Result Guarded DirectoryRefusal)) →
    guard_table_at n b image (λ _. sections) ≡ Ok (Some w) → load_config (image_parts b image sections) (directory image 10) ≡ Ok c → guard_table (image_parts b image sections) (place_of n c).va (place_of n c).count ≡ Ok (Some s) →
    Items (first_guarded (place_of n c).flag_size) s items → ReturnsEntries b w items
unfolding guard_table
entries_of_image n b image sections w c s items e h g f =
    grind (arith, from_offset, tail_there, of_config (entries_of b image (λ _. sections)) (is_absent (directory image 10)) n c (load_config (image_parts b image sections) (directory image 10)) w h e)
