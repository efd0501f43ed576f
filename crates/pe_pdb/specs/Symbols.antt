-- Symbol records: each is the number of the bytes after that number, 2 bytes, its kind, 2 bytes, and what its kind says.
use Rattle.std.specs.Prelude.{ℕ, ◌+◌, ◌-◌, List, [], ◌∷◌, length, nat_le, Result}
use Rattle.pe_core.specs.Bytes.{le, range, holds}
use Rattle.pe_core.specs.Refusals.{outcome}
use Rattle.pe_pdb.specs.Refusals.{PdbRefusal, Short, RecordSize, RecordTruncated}
use Rattle.pe_pdb.specs.Walks.{items, with_end}
use Rattle.pe_pdb.specs.declared.symbol.SymbolRecord.{SymbolRecord}
use Rattle.pe_pdb.specs.declared.symbol.SymbolRecords.{SymbolRecords}

-- what callers see of a record
pub record Symbol : Type 0 where
  pub offset : ℕ
  pub kind : ℕ
  pub content : List ℕ

abbrev pub symbol_view : SymbolRecord → Symbol
symbol_view r = record { offset = r.offset; kind = r.kind; content = r.content.now }

-- the record that stands at an offset
unfoldable pub symbol_at : List ℕ → ℕ → Result Symbol PdbRefusal
symbol_at b p =
    outcome (
    (holds b p 4, Short) ∷ (nat_le 2 (le b p 2), RecordSize) ∷ (holds b p (2 + le b p 2), RecordTruncated) ∷ []
    ) (record { offset = p; kind = le b (p + 2) 2; content = range b (p + 4) (le b p 2 - 2) })

-- where the next one starts
abbrev pub symbol_end : Symbol → ℕ
symbol_end s = s.offset + 4 + length s.content

-- the records from an offset on
abbrev pub symbols : List ℕ → ℕ → List (Result Symbol PdbRefusal)
symbols b p = items (with_end symbol_end (symbol_at b)) (length b) p

-- what a walk has left
abbrev pub symbols_left : SymbolRecords → List (Result Symbol PdbRefusal)
symbols_left s = symbols s.bytes.now s.next
