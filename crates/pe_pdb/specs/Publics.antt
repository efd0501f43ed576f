-- Public symbols (S_PUB32): flags, offset, section, and a name up to a zero.
use Rattle.std.specs.Prelude.{ℕ, ◌/◌, ◌%◌, ◌==◌, ◌&&◌, List, [], ◌∷◌, Option, Some, None, Result, Ok, Err, if◌then◌else◌}
use Rattle.pe_core.specs.Bytes.{le, holds}
use Rattle.pe_core.specs.Refusals.{outcome, ◌>>=◌}
use Rattle.pe_core.specs.Text.{text_at}
use Rattle.pe_pdb.specs.Refusals.{PdbRefusal, Short, Name}
use Rattle.pe_pdb.specs.SectionHeaders.{rva_of}
use Rattle.pe_pdb.specs.Symbols.{Symbol}
use Rattle.pe_pdb.specs.declared.public.PublicSymbol.{PublicSymbol}
use Rattle.pe_pdb.specs.declared.public.TheConstants.{S_PUB32}

-- what callers see of it
pub record Public : Type 0 where
  pub flags : ℕ
  pub offset : ℕ
  pub section : ℕ
  pub name : List ℕ

abbrev pub public_view : PublicSymbol → Public
public_view p = record { flags = p.flags; offset = p.offset; section = p.section; name = p.name.now }

-- a name, or the refusal of a record without one
abbrev pub named : Option (List ℕ) → Result (List ℕ) PdbRefusal
named None = Err Name
named (Some text) = Ok text

-- the symbol of a record with this content
unfoldable pub public_of : List ℕ → Result Public PdbRefusal
public_of b = do
  start ← outcome ((holds b 0 10, Short) ∷ []) b
  text ← named (text_at b 10)
  Ok (record { flags = le b 0 4; offset = le b 4 4; section = le b 8 2; name = text })

-- the RVA of a public function, which has bit 1 of the flags
unfoldable pub public_function_rva : List ℕ → Symbol → Option ℕ
public_function_rva sections s =
    if s.kind == S_PUB32 && holds s.content 0 10 && le s.content 0 4 / 2 % 2 == 1
    then rva_of sections (le s.content 8 2) (le s.content 4 4)
    else None
