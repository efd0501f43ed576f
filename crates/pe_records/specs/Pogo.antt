-- The entries of a POGO record. (The layout is this project's profile.)
use Rattle.std.specs.Prelude.{◌≡◌, ℕ, ◌+◌, ◌-◌, ◌<◌, ◌≤◌, ◌≢◌, List, [], ◌∷◌, length, take, drop, slice_index, Option, Some, None, Result, Ok, Err, nat_lt, if◌then◌else◌}
use Rattle.pe_core.specs.Bytes.{le}
use Rattle.pe_core.specs.Refusals.{Refusal, Short, PogoName, kind_of}
use Rattle.pe_core.specs.SectionMap.{rounded_up}
use Rattle.pe_core.specs.declared.error.Error.{Error}
use Rattle.pe_records.specs.declared.debug.pogo.POGOInfoEntry.{POGOInfoEntry}
use Rattle.pe_records.specs.declared.debug.pogo.POGOEntryIterator.{POGOEntryIterator}

-- what callers see of an entry
pub record Entry : Type 0 where
  pub rva : ℕ
  pub size : ℕ
  pub name : List ℕ

-- this entry as callers see it
abbrev pub pogo_entry_of : POGOInfoEntry → Entry
pogo_entry_of e = record { rva = e.rva; size = e.size; name = e.name.now }

-- a name's last byte is its only zero
pub record IsName (name : List ℕ) : Type 0 where
  pub some : 0 < length name
  pub last : slice_index name (length name - 1) ≡ 0
  pub only : (k : ℕ) → k + 1 < length name → slice_index name k ≢ 0

-- the bytes start with the n bytes of an entry: two numbers, the name, and any bytes up to a multiple of four
pub record StartsWith (b : List ℕ) (e : Entry) (n : ℕ) : Type 0 where
  pub rva : e.rva ≡ le b 0 4
  pub size : e.size ≡ le b 4 4
  pub named : IsName e.name
  pub name : e.name ≡ take (length e.name) (drop 8 b)
  pub padded : n ≡ rounded_up (8 + length e.name) 4
  pub whole : n ≤ length b

-- the bytes start with no entry
abbrev pub StartsWithNone : List ℕ → Type 0
StartsWithNone b = (e : Entry) (n : ℕ) → StartsWith b e n → ⊥

-- the refusal of a rest that starts with no entry
abbrev pub refusal : List ℕ → Refusal
refusal b = if nat_lt (length b) 8 then Short else PogoName

-- these are the entries of a stream, and one refusal for a rest that starts with no entry
abbrev pub Entries : List ℕ → List (Result Entry Refusal) → Type 0
Entries b [] = b ≡ []
Entries b (Ok e ∷ more) = (b ≢ []) × (n : ℕ) × StartsWith b e n × Entries (drop n b) more
Entries b (Err r ∷ more) = (b ≢ []) × StartsWithNone b × (r ≡ refusal b) × (more ≡ [])

-- what one call of next returns, and the bytes that it leaves
abbrev pub ReturnsPogoEntry : List ℕ → Option (Result POGOInfoEntry Error) → List ℕ → Type 0
ReturnsPogoEntry b None left = (b ≡ []) × (left ≡ [])
ReturnsPogoEntry b (Some (Ok e)) left = (b ≢ []) × (n : ℕ) × StartsWith b (pogo_entry_of e) n × (left ≡ drop n b)
ReturnsPogoEntry b (Some (Err e)) left = (b ≢ []) × StartsWithNone b × (kind_of e ≡ refusal b) × (left ≡ [])

-- what reading the entry at the start of the bytes returns
abbrev pub Reads : List ℕ → Result (POGOInfoEntry × ℕ) Error → Type 0
Reads b (Ok x) = StartsWith b (pogo_entry_of x.0) x.1
Reads b (Err e) = StartsWithNone b × (kind_of e ≡ refusal b)

-- the bytes that an iterator has left
abbrev pub pogo_bytes_left : POGOEntryIterator → List ℕ
pogo_bytes_left s = s.bytes.now

-- an item, with its error as a refusal
abbrev pub stream_item_of : Result POGOInfoEntry Error → Result Entry Refusal
stream_item_of (Ok e) = Ok (pogo_entry_of e)
stream_item_of (Err e) = Err (kind_of e)
