-- Procedures (S_GPROC32, S_LPROC32): functions that have code in a module.
use Rattle.std.specs.Prelude.{ℕ, ◌==◌, ◌&&◌, ◌||◌, Bool, List, [], ◌∷◌, nat_lt, Option, None, Result, Ok, if◌then◌else◌}
use Rattle.pe_core.specs.Bytes.{le, holds}
use Rattle.pe_core.specs.Refusals.{outcome, ◌>>=◌}
use Rattle.pe_core.specs.Text.{text_at}
use Rattle.pe_pdb.specs.Publics.{named}
use Rattle.pe_pdb.specs.Refusals.{PdbRefusal, Short}
use Rattle.pe_pdb.specs.SectionHeaders.{rva_of}
use Rattle.pe_pdb.specs.Symbols.{Symbol}
use Rattle.pe_pdb.specs.declared.procedure.ProcedureSymbol.{ProcedureSymbol}
use Rattle.pe_pdb.specs.declared.procedure.TheConstants.{S_LPROC32, S_GPROC32, S_LPROC32_ID, S_GPROC32_ID}

-- what callers see of it
pub record Procedure : Type 0 where
  pub parent : ℕ
  pub end : ℕ
  pub next : ℕ
  pub size : ℕ
  pub debug_start : ℕ
  pub debug_end : ℕ
  pub type_index : ℕ
  pub offset : ℕ
  pub section : ℕ
  pub flags : ℕ
  pub name : List ℕ

abbrev pub procedure_view : ProcedureSymbol → Procedure
procedure_view p = record {
  parent = p.parent;
  end = p.end;
  next = p.next;
  size = p.size;
  debug_start = p.debug_start;
  debug_end = p.debug_end;
  type_index = p.type_index;
  offset = p.offset;
  section = p.section;
  flags = p.flags;
  name = p.name.now;
}

-- the procedure of a record with this content
unfoldable pub procedure_of : List ℕ → Result Procedure PdbRefusal
procedure_of b = do
  start ← outcome ((holds b 0 35, Short) ∷ []) b
  text ← named (text_at b 35)
  Ok (record {
    parent = le b 0 4;
    end = le b 4 4;
    next = le b 8 4;
    size = le b 12 4;
    debug_start = le b 16 4;
    debug_end = le b 20 4;
    type_index = le b 24 4;
    offset = le b 28 4;
    section = le b 32 2;
    flags = le b 34 1;
    name = text;
  })

-- the kinds of records of procedures
abbrev pub is_procedure : ℕ → Bool
is_procedure kind = kind == S_LPROC32 || kind == S_GPROC32 || kind == S_LPROC32_ID || kind == S_GPROC32_ID

-- the RVA of a procedure that has code
unfoldable pub procedure_rva : List ℕ → Symbol → Option ℕ
procedure_rva sections s =
    if is_procedure s.kind && holds s.content 0 35 && nat_lt 0 (le s.content 12 4)
    then rva_of sections (le s.content 32 2) (le s.content 28 4)
    else None

-- the size of its code, of a record that has it
abbrev pub code_size_of : Symbol → ℕ
code_size_of s = if holds s.content 0 35 then le s.content 12 4 else 0
