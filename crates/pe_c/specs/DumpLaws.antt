-- What ranges of a minidump have to do with its streams and its pieces.
use Rattle.std.specs.Prelude.{◌≡◌, ℕ, List, Some, Result, Ok, map}
use Rattle.pe_core.specs.Refusals.{◌>>=◌}
use Rattle.pe_minidump.specs.Dumps.{stream}
use Rattle.pe_minidump.specs.Refusals.{DumpRefusal}
use Rattle.pe_minidump.specs.declared.dump.DumpHeader.{DumpHeader}
use Rattle.pe_frame.specs.declared.memory_list.MemoryPiece.{MemoryPiece}
use Rattle.calls_base.specs.Ranges.{IsRange}
use Rattle.calls_base.specs.declared.ranges.Range.{Range}
use Rattle.pe_pdb.specs.Refusals.{PdbRefusal}
use Rattle.calls_pdb.specs.declared.inlined.PdbInlined.{PdbInlined}
use Rattle.calls_pdb.specs.declared.modules.PdbModule.{PdbModule}

-- the range of a piece of memory in the bytes of a dump
abbrev pub memory_range : MemoryPiece → Range
memory_range p = record { offset = p.offset; length = p.length }

-- the range is that of the stream of a kind in a dump with this directory
abbrev pub IsStreamOf : List ℕ → DumpHeader → List ℕ → ℕ → Range → Type 0
IsStreamOf b header directory kind r =
    (bytes : List ℕ) × (stream (record { bytes = b; header = header; directory = directory }) kind ≡ Ok (Some bytes)) × IsRange b r bytes

-- what is read, as callers get it
abbrev pub as_reported : {C D : Type 0} → (C → D) → Result C DumpRefusal → Result D DumpRefusal
as_reported reported r = r >>= λ c. Ok (reported c)

-- ---- what laws say of the frames of a PDB

-- where an inlined function is: all of it but its name
pub record Placed : Type 0 where
  pub id : ℕ
  pub file : ℕ
  pub line : ℕ
  pub code_offset : ℕ
  pub code_size : ℕ
  pub line_result : ℕ

abbrev pub placed : PdbInlined → Placed
placed x = record { id = x.id; file = x.file; line = x.line; code_offset = x.code_offset; code_size = x.code_size; line_result = x.line_result }

abbrev pub all_placed : Result (List PdbInlined) PdbRefusal → Result (List Placed) PdbRefusal
all_placed found = found >>= λ xs. Ok (map placed xs)

-- which one it is: its name, and where its code is
pub record Named : Type 0 where
  pub id : ℕ
  pub name : Range
  pub scope : Range
  pub class_type : ℕ
  pub code_offset : ℕ
  pub code_size : ℕ
  pub name_result : ℕ

abbrev pub named : PdbInlined → Named
named x = record { id = x.id; name = x.name; scope = x.scope; class_type = x.class_type; code_offset = x.code_offset; code_size = x.code_size; name_result = x.name_result }

abbrev pub all_named : Result (List PdbInlined) PdbRefusal → Result (List Named) PdbRefusal
all_named found = found >>= λ xs. Ok (map named xs)

-- a module with other lines
abbrev pub with_lines : PdbModule → Range → PdbModule
with_lines m lines = record m { lines = lines }
