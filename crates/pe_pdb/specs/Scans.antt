-- Lookups without an index: lists are read from their start, and what is found so far is kept.
use Rattle.std.specs.Prelude.{◌≡◌, ◌==◌, ℕ, ◌+◌, ◌-◌, Bool, List, ◌++◌, Option, Some, None, Result, Ok, Err}
use Rattle.pe_core.specs.Bytes.{le, range}
use Rattle.pe_core.specs.Refusals.{◌>>=◌}
use Rattle.pe_pdb.specs.Procedures.{is_procedure}
use Rattle.pe_pdb.specs.Refusals.{PdbRefusal, pdb_kind_of}
use Rattle.pe_pdb.specs.SymbolEntries.{addresses_of, rva_by}
use Rattle.pe_pdb.specs.Symbols.{Symbol, symbols}
use Rattle.pe_pdb.specs.declared.error.PdbError.{PdbError}
use Rattle.pe_pdb.specs.declared.line_entries.CodeLine.{CodeLine}
use Rattle.pe_pdb.specs.declared.public.TheConstants.{S_PUB32}
use Rattle.pe_pdb.specs.declared.symbol_entries.SymbolClass.TheVariants.{PublicFunctions, Procedures}
use Rattle.pe_pdb.specs.declared.symbol_entries.SymbolClass.{SymbolClass}

-- what is found in items that may be refused
abbrev pub found_in : {X Y : Type 0} → (List X → Option Y) → Result (List X) PdbRefusal → Result (Option Y) PdbRefusal
found_in find items = items >>= λ xs. Ok (find xs)

-- from what is found in a list to what is found where it goes on by these items
abbrev pub Finds : {X Y : Type 0} → (List X → Option Y) → List X → Option Y → Option Y → Type 0
Finds {X} find ys old new = (xs : List X) → old ≡ find xs → new ≡ find (xs ++ ys)

-- the same of items that may be refused
abbrev pub FindsDefined : {X Y : Type 0} → (List X → Option Y) → Result (List X) PdbRefusal → Option Y → Result (Option Y) PdbError → Type 0
FindsDefined {X} find defined old (Ok new) = (ys : List X) × (defined ≡ Ok ys) × Finds find ys old new
FindsDefined find defined old (Err e) = defined ≡ Err (pdb_kind_of e)

-- whether records of a kind may be symbols of a class
abbrev pub is_of : SymbolClass → ℕ → Bool
is_of PublicFunctions kind = kind == S_PUB32
is_of Procedures kind = is_procedure kind

-- the record at an offset, where it is whole
abbrev pub symbol_in : List ℕ → ℕ → Symbol
symbol_in b p = record { offset = p; kind = le b (p + 2) 2; content = range b (p + 4) (le b p 2 - 2) }

-- the records from p on have the entries of a class that those from q on have
abbrev pub HasSameEntries : SymbolClass → List ℕ → ℕ → ℕ → Type 0
HasSameEntries class b p q = (sections : List ℕ) → addresses_of (rva_by class sections) (symbols b p) ≡ addresses_of (rva_by class sections) (symbols b q)

-- from which offset on a row of code that starts at an RVA is not before what was found
abbrev pub least_of : ℕ → Option CodeLine → ℕ
least_of start None = 0
least_of start (Some x) = x.rva - start
