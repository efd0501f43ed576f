-- What calls return of the records of symbols of a PDB.
use Rattle.std.specs.Prelude.{◌≡◌, ℕ, ◌+◌, ◌==◌, List, length, Option, Some, None, Result, Ok, Err, if◌then◌else◌}
use Rattle.pe_core.specs.Refusals.{◌>>=◌}
use Rattle.pe_pdb.specs.Procedures.{Procedure, is_procedure, procedure_of}
use Rattle.pe_pdb.specs.Publics.{Public, public_of}
use Rattle.pe_pdb.specs.Refusals.{PdbRefusal}
use Rattle.pe_pdb.specs.SectionHeaders.{headers_of, rva_of}
use Rattle.pe_pdb.specs.Symbols.{Symbol, symbol_at}
use Rattle.pe_pdb.specs.declared.public.TheConstants.{S_PUB32}
use Rattle.calls_pdb.specs.Pdbs.{part_of, pdb_number}
use Rattle.calls_base.specs.Ranges.{no_bytes, range_after}
use Rattle.calls_pdb.specs.declared.symbols.PdbSymbol.{PdbSymbol}
use Rattle.calls_base.specs.declared.ranges.Range.{Range}
use Rattle.calls_base.specs.declared.results.TheConstants.{DONE, NOTHING}

-- a record that starts at an offset, without what it says
abbrev pub record_reported : ℕ → Symbol → ℕ → PdbSymbol
record_reported p s result = record {
  range = record { offset = p; length = 4 + length s.content };
  name = no_bytes;
  rva = 0;
  size = 0;
  section_offset = 0;
  flags = 0;
  section = 0;
  kind = s.kind;
  result = result;
}

-- the same with the RVA of its place, if that is in a section of the image
abbrev pub rva_put : PdbSymbol → Option ℕ → PdbSymbol
rva_put x None = x
rva_put x (Some rva) = record x { rva = rva; result = DONE }

abbrev pub with_rva : List ℕ → PdbSymbol → PdbSymbol
with_rva sections x = rva_put x (rva_of sections x.section x.section_offset)

-- what a public symbol says, whose name starts 14 bytes after its record
abbrev pub public_reported : PdbSymbol → Public → PdbSymbol
public_reported x s = record x {
  name = record { offset = x.range.offset + 14; length = length s.name };
  section_offset = s.offset;
  flags = s.flags;
  section = s.section;
}

-- the same of a procedure: 39 bytes after it
abbrev pub procedure_reported : PdbSymbol → Procedure → PdbSymbol
procedure_reported x s = record x {
  name = record { offset = x.range.offset + 39; length = length s.name };
  size = s.size;
  section_offset = s.offset;
  flags = s.flags;
  section = s.section;
}

-- a record by what is read of its content
abbrev pub of_public : List ℕ → ℕ → Symbol → Result Public PdbRefusal → PdbSymbol
of_public sections p s (Ok x) = with_rva sections (public_reported (record_reported p s NOTHING) x)
of_public sections p s (Err refusal) = record_reported p s (pdb_number refusal)

abbrev pub of_procedure : List ℕ → ℕ → Symbol → Result Procedure PdbRefusal → PdbSymbol
of_procedure sections p s (Ok x) = with_rva sections (procedure_reported (record_reported p s NOTHING) x)
of_procedure sections p s (Err refusal) = record_reported p s (pdb_number refusal)

unfoldable pub symbol_reported : List ℕ → ℕ → Symbol → PdbSymbol
symbol_reported sections p s =
    if s.kind == S_PUB32 then of_public sections p s (public_of s.content)
    else (if is_procedure s.kind then of_procedure sections p s (procedure_of s.content) else record_reported p s NOTHING)

-- the record that stands first in what is left; none where nothing is left
abbrev pub first_symbol : List ℕ → ℕ → List ℕ → Result (Option PdbSymbol) PdbRefusal
first_symbol sections p left = if length left == 0 then Ok None else (symbol_at left 0 >>= λ s. Ok (Some (symbol_reported sections p s)))

-- what a step returns
abbrev pub symbol_step : List ℕ → List ℕ → Range → Result (Option PdbSymbol) PdbRefusal
symbol_step b sections r = do
  headers ← headers_of sections
  left ← part_of b r
  first_symbol headers r.offset left

-- the walk after it: over after an error, and unchanged where nothing is left
abbrev pub walk_by : Range → Result (Option PdbSymbol) PdbRefusal → Range
walk_by r (Ok None) = r
walk_by r (Ok (Some x)) = range_after r x.range.length
walk_by r (Err refusal) = no_bytes

abbrev pub symbol_walk : List ℕ → List ℕ → Range → Range
symbol_walk b sections r = walk_by r (symbol_step b sections r)

-- a step over the records of symbols
abbrev pub StepsPdbSymbols : List ℕ → List ℕ → Range → Result (Option PdbSymbol) PdbRefusal → Range → Type 0
StepsPdbSymbols b sections old answer new = (answer ≡ symbol_step b sections old) × (new ≡ symbol_walk b sections old)
