-- The streams of types and of ids: records that are known by their indexes. And the names of functions that are ids.
use Rattle.std.specs.Prelude.{◌≡◌, ℕ, zero, suc, ◌-◌, ◌<◌, ◌&&◌, List, [], ◌∷◌, nat_le, nat_lt, slice_get, slice_index_or, Option, Some, None, Result, Ok, if◌then◌else◌}
use Rattle.pe_core.specs.Bytes.{le, range, holds}
use Rattle.pe_core.specs.Refusals.{outcome, ◌>>=◌}
use Rattle.pe_core.specs.Text.{text_at}
use Rattle.pe_pdb.specs.Publics.{named}
use Rattle.pe_pdb.specs.Refusals.{PdbRefusal, Short, RecordTruncated, Room}
use Rattle.pe_pdb.specs.Symbols.{Symbol, symbol_at, symbol_end}
use Rattle.pe_pdb.specs.declared.ids.FunctionId.{FunctionId}
use Rattle.pe_pdb.specs.declared.ids.TypeRecords.{TypeRecords}

-- what callers see of a stream: the index of its first record, that after its last, and the records, with their offset
pub record TypesView : Type 0 where
  pub first : ℕ
  pub end : ℕ
  pub offset : ℕ
  pub records : List ℕ

abbrev pub types_view : TypeRecords → TypesView
types_view t = record { first = t.first; end = t.end; offset = t.offset; records = t.records.now }

-- the records of the stream that has these bytes
unfoldable pub types_of : List ℕ → Result TypesView PdbRefusal
types_of b =
    outcome (
    (holds b 0 56, Short) ∷ (holds b (le b 4 4) (le b 16 4), RecordTruncated) ∷ []
    ) (record { first = le b 8 4; end = le b 12 4; offset = le b 4 4; records = range b (le b 4 4) (le b 16 4) })

-- how many records a stream says that it has
abbrev pub count_of : TypesView → ℕ
count_of t = t.end - t.first

-- where the record with an index among them starts; each record before it has to be whole
unfoldable pub start_of : List ℕ → ℕ → Result ℕ PdbRefusal
start_of b zero = Ok 0
start_of b (suc k) = start_of b k >>= λ p. symbol_at b p >>= λ s. Ok (symbol_end s)

-- that number, if all of these records are whole
abbrev pub whole_count : TypesView → Result ℕ PdbRefusal
whole_count t = start_of t.records (count_of t) >>= λ end. Ok (count_of t)

-- how many starts a room of n has to take, if all of these records are whole
abbrev pub starts_in : ℕ → TypesView → Result ℕ PdbRefusal
starts_in n t = outcome ((nat_le (count_of t) n, Room) ∷ []) (count_of t) >>= λ count. start_of t.records count >>= λ end. Ok count

-- the first n entries of a room are the starts of records
abbrev pub AreStarts : List ℕ → List ℕ → ℕ → Type 0
AreStarts b room n = (k d : ℕ) → k < n → start_of b k ≡ Ok (slice_index_or room k d)

-- where the record with an index starts, by these starts
abbrev pub start_by : TypesView → List ℕ → ℕ → Option ℕ
start_by t starts i = if nat_le t.first i && nat_lt i t.end then slice_get starts (i - t.first) else None

-- the record at a start, if there is one
abbrev pub record_from : List ℕ → Option ℕ → Result (Option Symbol) PdbRefusal
record_from b None = Ok None
record_from b (Some p) = symbol_at b p >>= λ s. Ok (Some s)

-- the record with an index, by these starts
abbrev pub record_by : TypesView → List ℕ → ℕ → Result (Option Symbol) PdbRefusal
record_by t starts i = record_from t.records (start_by t starts i)

-- ---- functions

-- what callers see of one
pub record FunctionIdView : Type 0 where
  pub scope : ℕ
  pub type_index : ℕ
  pub name : List ℕ

abbrev pub function_id_view : FunctionId → FunctionIdView
function_id_view f = record { scope = f.scope; type_index = f.type_index; name = f.name.now }

-- the function of a record with this content
unfoldable pub function_id_of : List ℕ → Result FunctionIdView PdbRefusal
function_id_of b = do
  start ← outcome ((holds b 0 8, Short) ∷ []) b
  text ← named (text_at b 8)
  Ok (record { scope = le b 0 4; type_index = le b 4 4; name = text })

-- the text of a record with this content
unfoldable pub string_id_of : List ℕ → Result (List ℕ) PdbRefusal
string_id_of b = do
  start ← outcome ((holds b 0 4, Short) ∷ []) b
  named (text_at b 4)
