-- Indexes of the symbols of a PDB, which a caller keeps, and what is found by them. Every list of entries is legal.
use Rattle.std.specs.Prelude.{◌≡◌, ℕ, ◌+◌, ◌==◌, Bool, true, false, List, drop, length, nat_le, take, Option, Some, None, Result, Ok, Err, if◌then◌else◌}
use Rattle.std.specs.List.Sorted.{IsNonDecreasing, IsPermutation}
use Rattle.pe_core.specs.Refusals.{◌>>=◌}
use Rattle.pe_pdb.specs.Frames.{procedure_with, symbol_before}
use Rattle.pe_pdb.specs.Refusals.{PdbRefusal}
use Rattle.pe_pdb.specs.SectionHeaders.{headers_of}
use Rattle.pe_pdb.specs.SymbolEntries.{addresses}
use Rattle.pe_pdb.specs.SymbolIndexes.{Covering, Nearest}
use Rattle.pe_pdb.specs.Symbols.{symbol_at}
use Rattle.pe_pdb.specs.declared.symbol_entries.SymbolClass.{SymbolClass}
use Rattle.pe_pdb.specs.declared.symbol_entries.SymbolClass.TheVariants.{PublicFunctions, Procedures}
use Rattle.pe_pdb.specs.declared.symbol_lookup.SymbolAddress.{SymbolAddress}
use Rattle.calls_pdb.specs.Pdbs.{PdbHandsOut, part_of, pdb_number}
use Rattle.calls_pdb.specs.PdbSymbols.{symbol_reported}
use Rattle.calls_pdb.specs.declared.symbols.PdbSymbol.{PdbSymbol}
use Rattle.calls_base.specs.declared.ranges.Range.{Range}
use Rattle.calls_base.specs.declared.results.TheConstants.{DONE, NOTHING, ROOM}

-- the class with a number
abbrev pub class_of : ℕ → SymbolClass
class_of n = if n == 0 then PublicFunctions else Procedures

-- the bytes up to the end of a range, which has to be inside
abbrev pub up_to : List ℕ → Range → Result (List ℕ) PdbRefusal
up_to b r = part_of b r >>= λ part. Ok (take (r.offset + r.length) b)

-- the entries of the records in a range; the offset of a record counts from the start of the bytes
abbrev pub indexed : SymbolClass → List ℕ → Range → List ℕ → Result (List ℕ) PdbRefusal
indexed class b r sections = do
  headers ← headers_of sections
  records ← up_to b r
  addresses class records r.offset headers

-- by whether there is room: the entries in ascending order, at the start of the room; else it is unchanged
abbrev pub PutsEntriesIf : Bool → List ℕ → ℕ → List ℕ → List ℕ → Type 0
PutsEntriesIf true xs number old new =
    (number ≡ DONE) × IsPermutation xs (take (length xs) new) × IsNonDecreasing (take (length xs) new)
    × (length new ≡ length old) × (drop (length xs) new ≡ drop (length xs) old)
PutsEntriesIf false xs number old new = (number ≡ ROOM) × (new ≡ old)

-- how many there are, whether there is room or not; else the number of the refusal, and all is unchanged
abbrev pub HandsOutIndex : Result (List ℕ) PdbRefusal → ℕ → List ℕ → List ℕ → ℕ → ℕ → Type 0
HandsOutIndex (Ok xs) number old new before written = PutsEntriesIf (nat_le (length xs) (length old)) xs number old new × (written ≡ length xs)
HandsOutIndex (Err refusal) number old new before written = (number ≡ pdb_number refusal) × (new ≡ old) × (written ≡ before)

-- ---- lookup

-- what is found by entries in ascending order: of public functions the nearest, of procedures the one that covers the RVA. By others it
-- is left open
abbrev pub FindsAddress : SymbolClass → List ℕ → List ℕ → ℕ → Option SymbolAddress → Type 0
FindsAddress PublicFunctions index b rva found = IsNonDecreasing index → (xs : List ℕ) → IsPermutation xs index → Nearest xs rva found
FindsAddress Procedures index b rva found = IsNonDecreasing index → (xs : List ℕ) → IsPermutation xs index → Covering xs b rva found

-- the record at an offset as callers get it
abbrev pub symbol_found : List ℕ → List ℕ → ℕ → Result PdbSymbol PdbRefusal
symbol_found b sections p = do
  headers ← headers_of sections
  s ← symbol_at b p
  Ok (symbol_reported headers p s)

-- the record of what is found; else NOTHING, and `out` is unchanged
abbrev pub HandsOutFound : List ℕ → List ℕ → ℕ → PdbSymbol → PdbSymbol → Option SymbolAddress → Type 0
HandsOutFound b sections number old new None = (number ≡ NOTHING) × (new ≡ old)
HandsOutFound b sections number old new (Some a) = PdbHandsOut number old new (symbol_found b sections a.record_offset)

abbrev pub FindsSymbol : SymbolClass → List ℕ → List ℕ → List ℕ → ℕ → ℕ → PdbSymbol → PdbSymbol → Type 0
FindsSymbol class b sections index rva number old new =
    (found : Option SymbolAddress) × FindsAddress class index b rva found × HandsOutFound b sections number old new found

-- ---- without an index

-- the symbol of an RVA, of the entries of all records
abbrev pub symbol_with : SymbolClass → List ℕ → List ℕ → ℕ → Option SymbolAddress
symbol_with PublicFunctions xs b rva = symbol_before xs rva
symbol_with Procedures xs b rva = procedure_with xs b rva

-- the record of that; or the number of the refusal of one of the records
abbrev pub ReadsSymbol : SymbolClass → List ℕ → Result (List ℕ) PdbRefusal → List ℕ → ℕ → ℕ → PdbSymbol → PdbSymbol → Type 0
ReadsSymbol class b (Ok xs) sections rva number old new = HandsOutFound b sections number old new (symbol_with class xs b rva)
ReadsSymbol class b (Err refusal) sections rva number old new = (number ≡ pdb_number refusal) × (new ≡ old)
