-- How imports are tested without their list, by lists of entries that share their last ones. Only private contracts cite this.
use Rattle.std.specs.Prelude.{◌≡◌, ℕ, ◌+◌, ◌-◌, ◌*◌, ◌/◌, ◌≤◌, max, Bool, true, false, List, [], length, slice_index, slice_range, slice_set, Option, Some, None, Result, Ok, Err}
use Rattle.std.specs.List.{All}
use Rattle.pe_core.specs.Bytes.{range}
use Rattle.pe_core.specs.Imports.{ImportRecordView, ImportView, imports, lookups_rva}
use Rattle.pe_core.specs.Refusals.{Refusal}
use Rattle.pe_image.specs.Core.{CoreView}

-- these imports, or none where they are not listed, unless one is refused
abbrev pub if_listed : Bool → Result (List ImportView) Refusal → Result (List ImportView) Refusal
if_listed true r = r
if_listed false (Ok imports) = Ok []
if_listed false (Err refusal) = Err refusal

-- this core, or where they are not listed without its imports, unless it is refused
abbrev pub core_if_listed : Bool → Result CoreView Refusal → Result CoreView Refusal
core_if_listed true r = r
core_if_listed false (Ok c) = Ok (record c { imports = [] })
core_if_listed false (Err refusal) = Err refusal

-- nothing, or the first refusal among the imports of these records
abbrev pub tested : (ℕ → Option ℕ) → ℕ → List ℕ → List ImportRecordView → Result (List ImportView) Refusal
tested offset w b records = if_listed false (imports offset w b records)

-- this list is of whole entries of w bytes that stand at an offset; without an offset it is empty
abbrev pub StandsAt : ℕ → List ℕ → List ℕ → Option ℕ → Type 0
StandsAt w b list None = list ≡ []
StandsAt w b list (Some p) = (n : ℕ) × (p + w * n ≤ length b) × (list ≡ range b p (w * n))

-- the offset of a record's list
abbrev pub list_offset : (ℕ → Option ℕ) → ImportRecordView → Option ℕ
list_offset offset r = offset (lookups_rva r.import_directory_entry)

-- the lists of all records stand at their offsets
abbrev pub AllStand : (ℕ → Option ℕ) → ℕ → List ℕ → List ImportRecordView → Type 0
AllStand offset w b records = All (λ r. StandsAt w b r.lookups (list_offset offset r)) records

-- a list without its last entries, so many as were read before its end; `counts` has how many were read before each offset
abbrev pub entries_left : ℕ → List ℕ → List ℕ → Option ℕ → List ℕ
entries_left w counts list None = list
entries_left w counts list (Some p) = slice_range list 0 (w * (length list / w - slice_index counts (p + length list)))

-- how many are read before each offset once the list is
abbrev pub counts_after : ℕ → List ℕ → List ℕ → Option ℕ → List ℕ
counts_after w counts list None = counts
counts_after w counts list (Some p) = slice_set counts (p + length list) (max (slice_index counts (p + length list)) (length list / w))
