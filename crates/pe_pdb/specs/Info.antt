-- The head of the info stream: which PDB this is.
use Rattle.std.specs.Prelude.{ℕ, ◌==◌, ◌||◌, Bool, List, [], ◌∷◌, Result}
use Rattle.pe_core.specs.Bytes.{le, range, holds}
use Rattle.pe_core.specs.Refusals.{outcome}
use Rattle.pe_pdb.specs.Refusals.{PdbRefusal, Short, InfoVersion}
use Rattle.pe_pdb.specs.declared.info.PdbInfo.{PdbInfo}

-- the versions of Visual C++ 7, 8, 11 and 14; streams before these have no GUID
abbrev pub is_info_version : ℕ → Bool
is_info_version n = n == 20000404 || n == 20030901 || n == 20091201 || n == 20140508

unfoldable pub info_at : List ℕ → PdbInfo
info_at b = record { version = le b 0 4; time_stamp = le b 4 4; age = le b 8 4; guid = range b 12 16 }

-- the head of the stream that has these bytes
abbrev pub info_of : List ℕ → Result PdbInfo PdbRefusal
info_of b = outcome ((holds b 0 28, Short) ∷ (is_info_version (le b 0 4), InfoVersion) ∷ []) (info_at b)
