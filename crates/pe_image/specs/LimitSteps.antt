-- How the limit is tested, step by step. Only private contracts cite this.
use Rattle.std.specs.Prelude.{ℕ, Bool, List, Option, None, Some, Result, Ok, Err, nat_lt, if◌then◌else◌}
use Rattle.pe_core.specs.Imports.{ImportRecordView, ImportView}
use Rattle.pe_core.specs.Refusals.{Refusal, ImportsLimit, ◌>>=◌}
use Rattle.pe_core.specs.declared.data_directories.DataDirectory.{DataDirectory}
use Rattle.pe_image.specs.Core.{import_data_of, imports_of}
use Rattle.pe_image.specs.Limits.{entry_count}
use Rattle.pe_image.specs.SharedLists.{if_listed}

-- a result, unless a number is above the limit, if there is one
abbrev pub unless_above : {X : Type 0} → Option ℕ → ℕ → Result X Refusal → Result X Refusal
unless_above None n r = r
unless_above (Some most) n r = if nat_lt most n then Err ImportsLimit else r

-- what an import directory says: its records, if there is one, and where they are listed their imports, unless there is a
-- limit and they are more; `offset` maps an RVA to its file offset, `width` is the size of a lookup entry in bytes
unfoldable pub imported_of : Bool → Option ℕ → (ℕ → Option ℕ) → ℕ → List ℕ → Option DataDirectory → Result (Option (List ImportRecordView) × List ImportView) Refusal
imported_of listed most offset width b d =
    import_data_of offset width b d >>= λ records.
    unless_above most (entry_count width records) (if_listed listed (imports_of offset width b records)) >>= λ imports.
    Ok (records, imports)
