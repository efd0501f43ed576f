-- From an entry of the ARM64 function table to its unwind record.
use Rattle.std.specs.Prelude.{ℕ, ◌*◌, List, Option, Some, None, Result, Err, if◌then◌else◌}
use Rattle.pe_core.specs.Refusals.{Refusal, Unmapped}
use Rattle.pe_core.specs.SectionMap.{section_map, mapped}
use Rattle.pe_core.specs.declared.options.ParseOptions.{ParseOptions}
use Rattle.pe_core.specs.declared.section_table.SectionTable.{SectionTable}
use Rattle.pe_unwind.specs.declared.arm64.function.Arm64RuntimeFunction.{Arm64RuntimeFunction}
use Rattle.pe_unwind.specs.Arm64Functions.{is_packed}
use Rattle.pe_unwind.specs.Arm64Record.{Arm64InfoView, info_at}
use Rattle.pe_unwind.specs.Arm64Words.{bits}
use Rattle.pe_unwind.specs.ExceptionTable.{ExceptionView}

-- the unwind record at a file offset; without one the RVA is unmapped
abbrev pub info_at_offset : List ℕ → Option ℕ → Result Arm64InfoView Refusal
info_at_offset b None = Err Unmapped
info_at_offset b (Some p) = info_at b p

-- the file offset of the unwind record of an entry, by a map of RVAs; none if its unwind data are packed
abbrev pub record_offset_by : (ℕ → Option ℕ) → Arm64RuntimeFunction → Option (Result ℕ Refusal)
record_offset_by offset f = if is_packed f then None else Some (mapped (offset (4 * bits f.unwind_data 2 30)))

-- the unwind record of an entry, by a map of RVAs; none if its unwind data are packed
abbrev pub info_by : (ℕ → Option ℕ) → List ℕ → Arm64RuntimeFunction → Option (Result Arm64InfoView Refusal)
info_by offset b f = if is_packed f then None else Some (info_at_offset b (offset (4 * bits f.unwind_data 2 30)))

-- both by the map of these sections, with these options and the directory's own file alignment
abbrev pub offset_of_function : ExceptionView → List SectionTable → ParseOptions → Arm64RuntimeFunction → Option (Result ℕ Refusal)
offset_of_function v sections opts = record_offset_by (section_map opts sections v.alignment)

abbrev pub info_of_function : ExceptionView → List SectionTable → ParseOptions → Arm64RuntimeFunction → Option (Result Arm64InfoView Refusal)
info_of_function v sections opts = info_by (section_map opts sections v.alignment) v.content
