-- The words of ARM64 exception data. Bit 0 is the lowest. (ARM64 exception handling: .xdata records, epilog scopes.)
use Rattle.std.specs.Prelude.{ℕ, ◌/◌, ◌%◌, ◌^◌, ◌==◌, ◌&&◌, Bool, List, Result}
use Rattle.pe_core.specs.Bytes.{le}
use Rattle.pe_core.specs.Refusals.{Refusal}
use Rattle.pe_unwind.specs.declared.arm64.words.Arm64EpilogScope.{Arm64EpilogScope}
use Rattle.pe_core.specs.EntriesLeft.{items_left}
use Rattle.pe_core.specs.declared.table_entries.TableEntries.{TableEntries}
use Rattle.pe_core.specs.Rows.{entry_items}

-- the number in this many bits of a word, from bit `first` on
abbrev pub bits : ℕ → ℕ → ℕ → ℕ
bits word first count = word / 2 ^ first % 2 ^ count

-- bit X of a header: the record ends in the RVA of a handler
abbrev pub has_handler : ℕ → Bool
has_handler header = bits header 20 1 == 1

-- bit E of a header: it describes the only epilog, and no scopes follow
abbrev pub has_epilog : ℕ → Bool
has_epilog header = bits header 21 1 == 1

-- both counts of a header are 0: an extension word has them
abbrev pub has_extension : ℕ → Bool
has_extension header = bits header 22 5 == 0 && bits header 27 5 == 0

-- the epilog scope of 4 bytes at offset p
abbrev pub epilog_scope_at : List ℕ → ℕ → Arm64EpilogScope
epilog_scope_at b p = record { 0 = le b p 4 }

-- the whole scopes of these bytes, and one `Short` for a truncated last scope
abbrev pub epilog_scope_items : List ℕ → List (Result Arm64EpilogScope Refusal)
epilog_scope_items b = entry_items epilog_scope_at 4 b

-- the items that an iterator has left
abbrev pub epilog_scopes_left : TableEntries Arm64EpilogScope → List (Result Arm64EpilogScope Refusal)
epilog_scopes_left s = items_left epilog_scope_at 4 s
