-- Lookups in PDB files by an index return what those without one return.
use Rattle.std.proofs.Common.{◌≡◌, ℕ, List, Option, Result, Ok, sym, subst}
use Rattle.std.specs.List.Sorted.{IsNonDecreasing, IsNonDecreasingBy, IsPermutation}
use Rattle.pe_pdb.specs.LineIndexes.{AreEntries}
use Rattle.pe_pdb.specs.LineKeys.{line_key}
use Rattle.pe_pdb.specs.Refusals.{PdbRefusal}
use Rattle.pe_pdb.specs.declared.line_entries.CodeLine.{CodeLine}
use Rattle.pe_pdb.specs.declared.line_entries.LineEntry.{LineEntry}
use Rattle.pe_pdb.specs.declared.symbol_entries.SymbolClass.{SymbolClass}
use Rattle.pe_pdb.specs.declared.symbol_entries.SymbolClass.TheVariants.{PublicFunctions, Procedures}
use Rattle.pe_pdb.specs.declared.symbol_lookup.SymbolAddress.{SymbolAddress}
use Rattle.pe_pdb.proofs.Frames.{covering_is, line_is, nearest_is}
use Rattle.calls_pdb.specs.PdbIndexes.{FindsAddress, FindsSymbol, HandsOutFound, ReadsSymbol, indexed, symbol_with}
use Rattle.calls_pdb.specs.PdbLines.{FindsLine, HandsOutLine, ReadsLine, indexed_lines}
use Rattle.calls_base.specs.declared.ranges.Range.{Range}
use Rattle.calls_pdb.specs.declared.symbols.PdbSymbol.{PdbSymbol}

found_is : (class : SymbolClass) (xs index b : List ℕ) (rva : ℕ) (found : Option SymbolAddress) → IsPermutation xs index → IsNonDecreasing index → FindsAddress class index b rva found → found ≡ symbol_with class xs b rva
found_is PublicFunctions xs index b rva found same ascend finds = (nearest_is xs rva found).0 (finds ascend xs same)
found_is Procedures xs index b rva found same ascend finds = (covering_is xs b rva found).0 (finds ascend xs same)

pub symbol_is_read : (class : SymbolClass) (b : List ℕ) (r : Range) (sections xs index : List ℕ) (rva number : ℕ) (old new : PdbSymbol) →
    indexed class b r sections ≡ Ok xs → IsPermutation xs index → IsNonDecreasing index →
    FindsSymbol class b sections index rva number old new → ReadsSymbol class b (indexed class b r sections) sections rva number old new
symbol_is_read class b r sections xs index rva number old new is same ascend finds =
    subst (λ (all : Result (List ℕ) PdbRefusal). ReadsSymbol class b all sections rva number old new) (sym is)
    (subst (λ (o : Option SymbolAddress). HandsOutFound b sections number old new o) (found_is class xs index b rva finds.0 same ascend finds.1) finds.2)

pub line_is_read : (b : List ℕ) (r : Range) (sections : List ℕ) (xs : List CodeLine) (index : List LineEntry) (rva number : ℕ) (old new : CodeLine) →
    indexed_lines b r sections ≡ Ok xs → AreEntries xs index → IsNonDecreasingBy line_key index →
    FindsLine index rva number old new → ReadsLine (indexed_lines b r sections) rva number old new
line_is_read b r sections xs index rva number old new is same ascend finds =
    subst (λ (all : Result (List CodeLine) PdbRefusal). ReadsLine all rva number old new) (sym is)
    (subst (λ (o : Option CodeLine). HandsOutLine number old new o) ((line_is xs rva finds.0).0 (finds.1 ascend xs same)) finds.2)
