-- The scope table of an exception handler for C. (x64 exception handling: the language-specific handler's data.)
use Rattle.std.specs.Prelude.{ℕ, ◌+◌, List}
use Rattle.pe_core.specs.Bytes.{le}
use Rattle.pe_unwind.specs.declared.scope_table.ScopeTableEntry.{ScopeTableEntry}
use Rattle.pe_core.specs.EntriesLeft.{whole_left}
use Rattle.pe_core.specs.Rows.{whole_entries}
use Rattle.pe_core.specs.declared.table_entries.WholeEntries.{WholeEntries}

-- the entry of 16 bytes at offset p
abbrev pub scope_at : List ℕ → ℕ → ScopeTableEntry
scope_at b p = record {
  begin = le b p 4;
  end = le b (p + 4) 4;
  handler = le b (p + 8) 4;
  target = le b (p + 12) 4;
}

-- the whole entries of a table
abbrev pub scopes : List ℕ → List ScopeTableEntry
scopes b = whole_entries scope_at 16 b

-- the entries that an iterator has left
abbrev pub scopes_left : WholeEntries ScopeTableEntry → List ScopeTableEntry
scopes_left s = whole_left scope_at 16 s
