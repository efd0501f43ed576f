-- The x64 function table, and what lookup finds in it. (x64 exception handling: function table.)
use Rattle.std.specs.Prelude.{◌≡◌, ℕ, ◌+◌, ◌<◌, ◌≤◌, List, Option, Some, None, Result, if◌then◌else◌, nat_lt, length, Contains, IfSome}
use Rattle.std.specs.List.{AllAdjacentBelow}
use Rattle.pe_core.specs.Bytes.{le}
use Rattle.pe_core.specs.Refusals.{Refusal}
use Rattle.pe_unwind.specs.declared.function_table.RuntimeFunction.{RuntimeFunction}
use Rattle.pe_core.specs.EntriesLeft.{items_left}
use Rattle.pe_core.specs.declared.table_entries.TableEntries.{TableEntries}
use Rattle.pe_core.specs.Rows.{whole_entries, entry_items}
use Rattle.pe_unwind.specs.Lookup.{IsSortedBy, StopsAfter, last_start}

-- the entry of 12 bytes at offset p
abbrev pub function_at : List ℕ → ℕ → RuntimeFunction
function_at b p = record {
  begin_address = le b p 4;
  end_address = le b (p + 4) 4;
  unwind_info_address = le b (p + 8) 4;
}

-- the whole entries of a table
unfoldable pub functions : List ℕ → List RuntimeFunction
functions b = whole_entries function_at 12 b

-- the whole entries, and one `Short` for a truncated last entry
abbrev pub function_items : List ℕ → List (Result RuntimeFunction Refusal)
function_items b = entry_items function_at 12 b

-- the items that an iterator has left
abbrev pub items_of_functions : TableEntries RuntimeFunction → List (Result RuntimeFunction Refusal)
items_of_functions s = items_left function_at 12 s

-- the table is sorted by start RVA
abbrev pub NeverFalls : List RuntimeFunction → Type 0
NeverFalls fs = IsSortedBy (λ f. f.begin_address) fs

-- no end passes the next start
abbrev pub NoEndPassesNext : List RuntimeFunction → Type 0
NoEndPassesNext fs = AllAdjacentBelow (λ e f. e.end_address ≤ f.begin_address) fs (length fs)

-- the function covers the RVA
abbrev pub Covers : ℕ → RuntimeFunction → Type 0
Covers a f = (f.begin_address ≤ a) × (a < f.end_address)

-- the entry, if the RVA is before its end
abbrev pub if_before_end : ℕ → Option RuntimeFunction → Option RuntimeFunction
if_before_end a None = None
if_before_end a (Some f) = if nat_lt a f.end_address then Some f else None

-- the last entry that starts at or before the RVA, if the RVA is before its end
unfoldable pub scan : List RuntimeFunction → ℕ → Option RuntimeFunction
scan fs a = if_before_end a (last_start (λ f. f.begin_address) fs a)

-- where lookup stops, in any table: the entry before that position starts at or before the RVA, the entry after it starts
-- after the RVA, and lookup finds the one before it, if the RVA is before its end. A table sorted by start RVA has one
-- such position.
unfoldable pub StopsBetween : List RuntimeFunction → ℕ → Option RuntimeFunction → Type 0
StopsBetween fs a found = (last : Option RuntimeFunction) × StopsAfter (λ f. f.begin_address) fs a last × (found ≡ if_before_end a last)

-- what lookup finds: an entry that covers the RVA, or none; in a table sorted by start RVA, what a linear scan finds
pub record Finds (fs : List RuntimeFunction) (a : ℕ) (found : Option RuntimeFunction) : Type 0 where
  pub entry : IfSome found (Contains fs)
  pub covers : IfSome found (Covers a)
  pub stops : StopsBetween fs a found
  pub scanned : NeverFalls fs → found ≡ scan fs a
