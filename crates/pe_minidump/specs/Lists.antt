-- The two forms of lists that streams have; `width` is how many bytes the fields of an entry have.
use Rattle.std.specs.Prelude.{ℕ, ◌+◌, ◌-◌, ◌*◌, ◌==◌, ◌&&◌, ◌||◌, List, [], ◌∷◌, length, drop, nat_le, Result, Err, if◌then◌else◌}
use Rattle.pe_core.specs.Bytes.{le, holds}
use Rattle.pe_core.specs.Refusals.{outcome}
use Rattle.pe_minidump.specs.Refusals.{DumpRefusal, Short, EntrySize, ListSize}
use Rattle.pe_minidump.specs.Tables.{records}

-- a list whose number of entries comes first: the entries end with the stream, and start 4 or 8 bytes after its start
unfoldable pub counted_list : {X : Type 0} → (List ℕ → ℕ → X) → ℕ → List ℕ → Result (List X) DumpRefusal
counted_list record_at width b =
    outcome (
    (holds b 0 4, Short)
    ∷ (length b == width * le b 0 4 + 4 || length b == width * le b 0 4 + 8, ListSize) ∷ []
    ) (records record_at (drop (length b - width * le b 0 4) b) width (le b 0 4))

-- n entries after a header of at least `head` bytes, which starts with its own size and that of an entry
unfoldable pub list_with : {X : Type 0} → (List ℕ → ℕ → X) → ℕ → ℕ → ℕ → List ℕ → Result (List X) DumpRefusal
list_with record_at width head n b =
    outcome (
    (nat_le width (le b 4 4), EntrySize)
    ∷ (nat_le head (le b 0 4) && nat_le (le b 0 4 + le b 4 4 * n) (length b), ListSize) ∷ []
    ) (records record_at (drop (le b 0 4) b) (le b 4 4) n)

-- the same, where the number of entries has so many bytes, from offset 8 on
unfoldable pub headed_list : {X : Type 0} → (List ℕ → ℕ → X) → ℕ → ℕ → ℕ → List ℕ → Result (List X) DumpRefusal
headed_list record_at width head digits b =
    if holds b 0 head then list_with record_at width head (le b 8 digits) b else Err Short
