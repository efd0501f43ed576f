-- The modules of the DBI stream: each is a record of 64 bytes and two names, up to a multiple of four.
use Rattle.std.specs.Prelude.{ℕ, ◌+◌, ◌*◌, ◌==◌, ◌||◌, List, [], ◌∷◌, length, take, drop, nat_le, position, Option, Some, None, Result, Ok, Err}
use Rattle.std.specs.Int.{div_ceil}
use Rattle.pe_core.specs.Bytes.{le, holds}
use Rattle.pe_core.specs.Refusals.{outcome, ◌>>=◌}
use Rattle.pe_pdb.specs.Refusals.{PdbRefusal, Short, Name, ModuleSymbols, ModuleSignature}
use Rattle.pe_pdb.specs.Walks.{items, with_end}
use Rattle.pe_pdb.specs.declared.module.Module.{Module}
use Rattle.pe_pdb.specs.declared.module.ModuleRecord.{ModuleRecord}
use Rattle.pe_pdb.specs.declared.module.Modules.{Modules}
use Rattle.pe_pdb.specs.declared.module.TheConstants.{SIGNATURE}

unfoldable pub module_record : List ℕ → ℕ → ModuleRecord
module_record b p = record {
  section = le b (p + 4) 2;
  code_offset = le b (p + 8) 4;
  code_size = le b (p + 12) 4;
  flags = le b (p + 32) 2;
  stream = le b (p + 34) 2;
  symbols_size = le b (p + 36) 4;
  c11_size = le b (p + 40) 4;
  c13_size = le b (p + 44) 4;
  files = le b (p + 48) 2;
}

-- the bytes before the first zero, which has to be there
abbrev pub named_by : List ℕ → Option ℕ → Result (List ℕ) PdbRefusal
named_by b None = Err Name
named_by b (Some n) = Ok (take n b)

abbrev pub name_at : List ℕ → ℕ → Result (List ℕ) PdbRefusal
name_at b p = named_by (drop p b) (position (λ c. c == 0) (drop p b))

-- what callers see of a module
pub record ModuleView : Type 0 where
  pub offset : ℕ
  pub header : ModuleRecord
  pub name : List ℕ
  pub file : List ℕ

abbrev pub module_view : Module → ModuleView
module_view m = record { offset = m.offset; header = m.header; name = m.name.now; file = m.file.now }

-- the module whose record is at an offset
unfoldable pub module_at : List ℕ → ℕ → Result ModuleView PdbRefusal
module_at b p = do
  start ← outcome ((holds b p 64, Short) ∷ []) b
  name ← name_at b (p + 64)
  file ← name_at b (p + 64 + length name + 1)
  Ok (record { offset = p; header = module_record b p; name = name; file = file })

-- where the next one starts
abbrev pub module_end : ModuleView → ℕ
module_end m = div_ceil (m.offset + 64 + length m.name + length m.file + 2) 4 * 4

-- the modules from an offset on
abbrev pub modules : List ℕ → ℕ → List (Result ModuleView PdbRefusal)
modules b p = items (with_end module_end (module_at b)) (length b) p

-- what a walk has left
abbrev pub modules_left : Modules → List (Result ModuleView PdbRefusal)
modules_left s = modules s.bytes.now s.next

-- the symbols of a module in its stream, with the number before them
unfoldable pub symbol_bytes_of : ModuleRecord → List ℕ → Result (List ℕ) PdbRefusal
symbol_bytes_of m b =
    outcome (
    (nat_le m.symbols_size (length b), ModuleSymbols)
    ∷ (m.symbols_size == 0 || nat_le 4 m.symbols_size, Short)
    ∷ (m.symbols_size == 0 || le b 0 4 == SIGNATURE, ModuleSignature) ∷ []
    ) (take m.symbols_size b)
