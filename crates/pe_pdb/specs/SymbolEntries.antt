-- The entries of an index of symbols: the RVA of each symbol of a class, with the offset of its record.
use Rattle.std.specs.Prelude.{◌≡◌, ℕ, ◌+◌, ◌*◌, ◌/◌, ◌^◌, List, [], ◌∷◌, length, take, nat_lt, slice_set, Option, Some, None, Result, Ok, Err, if◌then◌else◌}
use Rattle.std.specs.List.{Contains}
use Rattle.std.specs.Option.{option_map, option_to_list}
use Rattle.pe_core.specs.Gathered.{with_rest}
use Rattle.pe_pdb.specs.Procedures.{procedure_rva}
use Rattle.pe_pdb.specs.Publics.{public_function_rva}
use Rattle.pe_pdb.specs.Refusals.{PdbRefusal, SymbolsSize, pdb_kind_of}
use Rattle.pe_pdb.specs.Symbols.{Symbol, symbols}
use Rattle.pe_pdb.specs.declared.error.PdbError.{PdbError}
use Rattle.pe_pdb.specs.declared.symbol_entries.SymbolClass.{SymbolClass}
use Rattle.pe_pdb.specs.declared.symbol_entries.SymbolClass.TheVariants.{PublicFunctions, Procedures}

-- An entry as one number: an RVA, and below that the offset of the record that has it. So the order of the numbers is that of the
-- RVAs, and at one RVA that of the records.
abbrev pub address : ℕ → ℕ → ℕ
address rva record_offset = rva * 2 ^ 32 + record_offset

abbrev pub rva_in : ℕ → ℕ
rva_in a = a / 2 ^ 32

-- the RVA of a symbol of a class
abbrev pub rva_by : SymbolClass → List ℕ → Symbol → Option ℕ
rva_by PublicFunctions sections s = public_function_rva sections s
rva_by Procedures sections s = procedure_rva sections s

-- the entries of records, in their order, where `rva` says which RVA each has, if any; or the refusal of a record
unfoldable pub addresses_of : (Symbol → Option ℕ) → List (Result Symbol PdbRefusal) → Result (List ℕ) PdbRefusal
addresses_of rva [] = Ok []
addresses_of rva (Ok s ∷ more) = with_rest (option_to_list (option_map (λ x. address x s.offset) (rva s))) (addresses_of rva more)
addresses_of rva (Err r ∷ more) = Err r

-- the entries of the symbols of a class; offsets of records have 32 bits
abbrev pub addresses : SymbolClass → List ℕ → ℕ → List ℕ → Result (List ℕ) PdbRefusal
addresses class b start sections =
    if nat_lt (length b) (2 ^ 32) then addresses_of (rva_by class sections) (symbols b start) else Err SymbolsSize

-- how many they are
abbrev pub count_of : Result (List ℕ) PdbRefusal → Result ℕ PdbRefusal
count_of (Ok xs) = Ok (length xs)
count_of (Err r) = Err r

-- ---- a room for them

-- a room with one more entry, if there is one, and place for it
abbrev pub address_put : List ℕ → ℕ → Option ℕ → List ℕ
address_put room n None = room
address_put room n (Some a) = slice_set room n a

-- so many entries there are; as many as a room has place for are written to it
abbrev pub PutsAddresses : Result (List ℕ) PdbRefusal → List ℕ → Result ℕ PdbError → Type 0
PutsAddresses defined room (Ok n) = (xs : List ℕ) × (defined ≡ Ok xs) × (n ≡ length xs) × (take n room ≡ take (length room) xs)
PutsAddresses defined room (Err e) = defined ≡ Err (pdb_kind_of e)

-- ---- what a law says of them

-- a record of a walk has this entry
abbrev pub HasEntry : (Symbol → Option ℕ) → List (Result Symbol PdbRefusal) → ℕ → Type 0
HasEntry rva items a = (s : Symbol) × (x : ℕ) × Contains items (Ok s) × (rva s ≡ Some x) × (a ≡ address x s.offset)
