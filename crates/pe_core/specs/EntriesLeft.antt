-- The entries that an iterator has left of a table, and the whole ones alone.
use Rattle.std.specs.Prelude.{ℕ, List, Result}
use Rattle.pe_core.specs.Refusals.{Refusal}
use Rattle.pe_core.specs.Rows.{entry_items, whole_entries}
use Rattle.pe_core.specs.declared.table_entries.TableEntries.{TableEntries}
use Rattle.pe_core.specs.declared.table_entries.WholeEntries.{WholeEntries}

-- the bytes that are left
abbrev pub bytes_left : {E : Type 0} → TableEntries E → List ℕ
bytes_left s = s.bytes.now

-- the whole entries that are left, each read by `entry_at`, and one `Short` for a truncated last entry
abbrev pub items_left : {E : Type 0} → (List ℕ → ℕ → E) → ℕ → TableEntries E → List (Result E Refusal)
items_left entry_at width s = entry_items entry_at width (bytes_left s)

-- the bytes that are left of a table whose whole entries are read
abbrev pub whole_bytes_left : {E : Type 0} → WholeEntries E → List ℕ
whole_bytes_left s = s.bytes.now

-- the whole entries that are left, each read by `entry_at`
abbrev pub whole_left : {E : Type 0} → (List ℕ → ℕ → E) → ℕ → WholeEntries E → List E
whole_left entry_at width s = whole_entries entry_at width (whole_bytes_left s)
