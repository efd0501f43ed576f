-- An index of the lines of a module by their RVAs, and the line of an RVA.
use Rattle.std.specs.Prelude.{◌≡◌, ℕ, ◌-◌, ◌^◌, ◌<◌, ◌≤◌, ◌==◌, ◌&&◌, ◌||◌, not, Bool, List, [], ◌∷◌, drop, length, take, nat_le, nat_lt, slice_index_or, Option, Some, None, Result, Ok, Err, if◌then◌else◌}
use Rattle.std.specs.List.{All}
use Rattle.std.specs.List.Sorted.{IsNonDecreasingBy, IsPermutation}
use Rattle.pe_core.specs.Refusals.{outcome, ◌>>=◌}
use Rattle.pe_pdb.specs.LineEntries.{entries_from}
use Rattle.pe_pdb.specs.LineKeys.{line_key}
use Rattle.pe_pdb.specs.Refusals.{PdbRefusal, Room, pdb_kind_of}
use Rattle.pe_pdb.specs.declared.error.PdbError.{PdbError}
use Rattle.pe_pdb.specs.declared.line_entries.CodeLine.{CodeLine}
use Rattle.pe_pdb.specs.declared.line_entries.LineEntry.{LineEntry}
use Rattle.pe_pdb.specs.declared.line_index.LineIndex.{LineIndex}

-- lines for which a room of n has place
abbrev pub in_room : ℕ → Result (List CodeLine) PdbRefusal → Result (List CodeLine) PdbRefusal
in_room n defined = defined >>= λ xs. outcome ((nat_le (length xs) n, Room) ∷ []) xs

-- the entries are those of these lines, in some order
abbrev pub AreEntries : List CodeLine → List LineEntry → Type 0
AreEntries xs entries = (length xs ≤ 2 ^ 32) × IsPermutation (entries_from 0 xs) entries

-- the index has these lines
abbrev pub IndexesLines : Result (List CodeLine) PdbRefusal → Result LineIndex PdbError → Type 0
IndexesLines defined (Ok index) = (xs : List CodeLine) × (defined ≡ Ok xs) × AreEntries xs index.entries.now
IndexesLines defined (Err e) = defined ≡ Err (pdb_kind_of e)

-- the entries, sorted, at the start of a room, whose rest is unchanged; where there is no room for them, and after a refusal, nothing
-- changes
abbrev pub PutsLineIndex : Result (List CodeLine) PdbRefusal → List LineEntry → List LineEntry → Result (Result ℕ ℕ) PdbError → Type 0
PutsLineIndex defined old new (Ok (Ok n)) =
    (xs : List CodeLine) × (defined ≡ Ok xs) × (n ≡ length xs) × (n ≤ length old) × AreEntries xs (take n new)
    × IsNonDecreasingBy line_key (take n new)
    × (length new ≡ length old) × (drop n new ≡ drop n old)
PutsLineIndex defined old new (Ok (Err n)) = (xs : List CodeLine) × (defined ≡ Ok xs) × (n ≡ length xs) × (length old < n) × (new ≡ old)
PutsLineIndex defined old new (Err e) = (defined ≡ Err (pdb_kind_of e)) × (new ≡ old)

-- the same of a room of as many entries
abbrev pub PutsSortedLines : Result (List CodeLine) PdbRefusal → List LineEntry → List LineEntry → Type 0
PutsSortedLines defined old new =
    (xs : List CodeLine) × (defined ≡ Ok xs) × AreEntries xs new × IsNonDecreasingBy line_key new × (length new ≡ length old)

-- of these lines the one with an index is the last by RVA at or before an RVA, and of those at one RVA the last in order
pub record IsLastBefore (xs : List CodeLine) (rva i : ℕ) : Type 0 where
  pub listed : i < length xs
  pub before : (d : CodeLine) → (slice_index_or xs i d).rva ≤ rva
  pub last : (k : ℕ) (d : CodeLine) → k < length xs → (slice_index_or xs k d).rva ≤ rva → (slice_index_or xs k d).rva ≤ (slice_index_or xs i d).rva
  pub latest : (k : ℕ) (d : CodeLine) → k < length xs → (slice_index_or xs k d).rva ≡ (slice_index_or xs i d).rva → k ≤ i

-- that line; there is none where all are after the RVA
abbrev pub LastBefore : List CodeLine → ℕ → Option CodeLine → Type 0
LastBefore xs rva None = All (λ x. rva < x.rva) xs
LastBefore xs rva (Some line) = (i : ℕ) × IsLastBefore xs rva i × ((d : CodeLine) → slice_index_or xs i d ≡ line)

-- the numbers that stand for no line: 0, and those of code that a debugger steps over or into
abbrev pub is_line : ℕ → Bool
is_line n = not (n == 0 || n == 0xF00F00 || n == 0xFEEFEE)

-- a line, if its code reaches an RVA, and it is one
abbrev pub if_covers : ℕ → Option CodeLine → Option CodeLine
if_covers rva None = None
if_covers rva (Some x) = if nat_lt (rva - x.rva) x.code_size && is_line x.line then Some x else None

-- the line of an RVA
abbrev pub LineAt : List CodeLine → ℕ → Option CodeLine → Type 0
LineAt xs rva found = (last : Option CodeLine) × LastBefore xs rva last × (found ≡ if_covers rva last)

-- ---- what a law says of them

-- no line starts after one RVA up to another
abbrev pub NoneStarts : List CodeLine → ℕ → ℕ → Type 0
NoneStarts xs rva x = (k : ℕ) (d : CodeLine) → k < length xs → (slice_index_or xs k d).rva ≤ x → (slice_index_or xs k d).rva ≤ rva
