-- How the imports are read, step by step. Only private contracts cite this.
use Rattle.std.specs.Prelude.{◌≡◌, ℕ, ◌+◌, ◌*◌, ◌-◌, ◌%◌, ◌^◌, ◌<◌, ◌≤◌, true, false, min, List, length, Option, slice_index_or, if◌then◌else◌}
use Rattle.std.specs.Borrow.{Bor}
use Rattle.std.specs.List.{All, Contains}
use Rattle.std.specs.Option.{option_and_then, option_map}
use Rattle.pe_core.specs.Records.{import_entry}
use Rattle.pe_core.specs.Bytes.{le}
use Rattle.pe_core.specs.declared.import_list.Entry.{Entry}
use Rattle.pe_core.specs.declared.many_lists.Entries.{Entries}
use Rattle.pe_core.specs.Imports.{EntryView, is_last, is_ordinal}
use Rattle.pe_core.specs.SectionIndex.{offset_or_end}
use Rattle.pe_core.specs.Text.{text_at}

-- exactly `count` whole records stand from offset p on, before the one that ends the directory or before the end of the
-- bytes
pub record StandInFront (b : List ℕ) (p count : ℕ) : Type 0 where
  pub there : (k : ℕ) → k < count → p + 20 * k + 20 ≤ length b
  pub go_on : (k : ℕ) → k < count → is_last (import_entry b (p + 20 * k)) ≡ false
  pub last : p + 20 * count + 20 ≤ length b → is_last (import_entry b (p + 20 * count)) ≡ true

-- these are the names of the first records from offset p on
pub record AreNames (offset : ℕ → Option ℕ) (b : List ℕ) (p : ℕ) (names : List (Option (Bor (List ℕ)))) : Type 0 where
  pub are : (i : ℕ) (d : Option (Bor (List ℕ))) → i < length names → option_map (λ s. s.now) (slice_index_or names i d) ≡ option_and_then (text_at b) (offset (import_entry b (p + 20 * i)).name_rva)

-- what is seen of a lookup entry
abbrev pub entry_view : Entry → EntryView
entry_view e = record { dll = e.dll.now; entry = e.entry; rva = e.rva }

-- the offset of an entry's name, after its hint; for an ordinal an offset at which no byte is
abbrev pub hint_offset_of : (ℕ → Option ℕ) → ℕ → EntryView → ℕ
hint_offset_of offset w e = if is_ordinal w e then 2 ^ 64 - 1 else min (offset_or_end (offset (e.entry % 2 ^ 31)) + 2) (2 ^ 64 - 1)

-- these are the texts at the offsets of the entries' names
pub record AreEntryNames (offset : ℕ → Option ℕ) (w : ℕ) (b : List ℕ) (entries : List Entry) (names : List (Option (Bor (List ℕ)))) : Type 0 where
  pub are : (i : ℕ) (d : Option (Bor (List ℕ))) (e : Entry) → i < length names →
      option_map (λ s. s.now) (slice_index_or names i d) ≡ text_at b (hint_offset_of offset w (entry_view (slice_index_or entries i e)))

-- these are the same numbers, whatever their order and however often
pub record AreSameNumbers (xs ys : List ℕ) : Type 0 where
  pub kept : All (Contains ys) xs
  pub only : All (Contains xs) ys

-- the entries of w bytes from `start` on are there and not zero, up to the zero one at `end`; each is some entries before it
pub record IsList (w : ℕ) (b : List ℕ) (list : Entries) : Type 0 where
  pub inside : list.end + w ≤ length b
  pub last : le b list.end w ≡ 0
  pub before : (k : ℕ) → 0 < k → list.start + w * k ≤ list.end → 0 < le b (list.end - w * k) w
