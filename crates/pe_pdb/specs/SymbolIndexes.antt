-- An index of symbols by their RVAs: its entries in ascending order.
use Rattle.std.specs.Prelude.{◌≡◌, ℕ, ◌-◌, ◌%◌, ◌^◌, ◌<◌, ◌≤◌, List, [], ◌∷◌, drop, length, take, nat_le, nat_lt, Option, Some, None, Result, Ok, Err, if◌then◌else◌}
use Rattle.std.specs.List.{All, Contains}
use Rattle.std.specs.List.Sorted.{IsNonDecreasing, IsPermutation}
use Rattle.pe_core.specs.Refusals.{outcome, ◌>>=◌}
use Rattle.pe_pdb.specs.Refusals.{PdbRefusal, Room, pdb_kind_of}
use Rattle.pe_pdb.specs.Procedures.{code_size_of}
use Rattle.pe_pdb.specs.SymbolEntries.{rva_in}
use Rattle.pe_pdb.specs.Symbols.{Symbol, symbol_at}
use Rattle.pe_pdb.specs.declared.error.PdbError.{PdbError}
use Rattle.pe_pdb.specs.declared.symbol_index.SymbolIndex.{SymbolIndex}
use Rattle.pe_pdb.specs.declared.symbol_lookup.SymbolAddress.{SymbolAddress}

-- entries for which a room of n has place
abbrev pub in_room : ℕ → Result (List ℕ) PdbRefusal → Result (List ℕ) PdbRefusal
in_room n defined = defined >>= λ xs. outcome ((nat_le (length xs) n, Room) ∷ []) xs

-- the index has these entries
abbrev pub Indexes : Result (List ℕ) PdbRefusal → Result SymbolIndex PdbError → Type 0
Indexes defined (Ok index) = (xs : List ℕ) × (defined ≡ Ok xs) × IsPermutation xs index.addresses.now
Indexes defined (Err e) = defined ≡ Err (pdb_kind_of e)

-- the entries, sorted, at the start of a room, whose rest is unchanged; where there is no room for them, and after a refusal, nothing
-- changes
abbrev pub PutsIndex : Result (List ℕ) PdbRefusal → List ℕ → List ℕ → Result (Result ℕ ℕ) PdbError → Type 0
PutsIndex defined old new (Ok (Ok n)) =
    (xs : List ℕ) × (defined ≡ Ok xs) × (n ≡ length xs) × (n ≤ length old) × IsPermutation xs (take n new) × IsNonDecreasing (take n new)
    × (length new ≡ length old) × (drop n new ≡ drop n old)
PutsIndex defined old new (Ok (Err n)) = (xs : List ℕ) × (defined ≡ Ok xs) × (n ≡ length xs) × (length old < n) × (new ≡ old)
PutsIndex defined old new (Err e) = (defined ≡ Err (pdb_kind_of e)) × (new ≡ old)

-- the same of a room of as many entries
abbrev pub PutsSorted : Result (List ℕ) PdbRefusal → List ℕ → List ℕ → Type 0
PutsSorted defined old new = (xs : List ℕ) × (defined ≡ Ok xs) × IsPermutation xs new × IsNonDecreasing new × (length new ≡ length old)

-- the symbol of an entry
abbrev pub symbol_address : ℕ → SymbolAddress
symbol_address a = record { rva = rva_in a; record_offset = a % 2 ^ 32 }

-- the greatest of the entries whose RVA is at or before an RVA
pub record IsNearest (xs : List ℕ) (rva a : ℕ) : Type 0 where
  pub listed : Contains xs a
  pub before : rva_in a ≤ rva
  pub last : All (λ k. rva_in k ≤ rva → k ≤ a) xs

-- the symbol of that entry; there is none where all are after the RVA
abbrev pub Nearest : List ℕ → ℕ → Option SymbolAddress → Type 0
Nearest xs rva None = All (λ k. rva < rva_in k) xs
Nearest xs rva (Some found) = (a : ℕ) × IsNearest xs rva a × (found ≡ symbol_address a)

-- how many bytes of code the procedure of a record has, if the record is there
abbrev pub code_size : Result Symbol PdbRefusal → ℕ
code_size (Ok s) = code_size_of s
code_size (Err r) = 0

-- a procedure, if its code reaches an RVA after its start
abbrev pub if_reaches : List ℕ → ℕ → Option SymbolAddress → Option SymbolAddress
if_reaches b rva None = None
if_reaches b rva (Some a) = if nat_lt (rva - a.rva) (code_size (symbol_at b a.record_offset)) then Some a else None

-- the nearest procedure, if its code has the RVA
abbrev pub Covering : List ℕ → List ℕ → ℕ → Option SymbolAddress → Type 0
Covering xs b rva found = (near : Option SymbolAddress) × Nearest xs rva near × (found ≡ if_reaches b rva near)
