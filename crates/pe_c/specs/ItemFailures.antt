-- Why an item is refused, by its kind, as one call says it of all kinds that bytes alone have, and one of all that RVAs lead to.
use Rattle.std.specs.Prelude.{ℕ, ◌==◌, List, Option, None, if◌then◌else◌}
use Rattle.pe_core.specs.Imports.{entry_size}
use Rattle.pe_directories.specs.BaseRelocations.{first_block, first_relocation}
use Rattle.calls_base.specs.Directories.{first_in, step_of}
use Rattle.calls_base.specs.FailureNumbers.{directory_refused, failure_by, refused, tree_refused}
use Rattle.calls_base.specs.Views.{map_of, may_map}
use Rattle.calls_base.specs.declared.numbers.Failure.{Failure}
use Rattle.calls_base.specs.declared.view.View.{View}
use Rattle.calls_directories.specs.BoundImports.{first_bound}
use Rattle.calls_directories.specs.Certificates.{certificate_step}
use Rattle.calls_directories.specs.DelayImports.{first_library_in, first_of_walk}
use Rattle.calls_directories.specs.Imports.{import_step, library_step}
use Rattle.calls_directories.specs.DirectoryRuns.{block_reported, relocation_reported}
use Rattle.calls_directories.specs.ResourceLeaves.{first_item, items_left}
use Rattle.calls_failures.specs.Arm64Failures.{arm64_record_numbers}
use Rattle.calls_failures.specs.StepFailures.{bound_numbers, block_numbers, certificate_numbers, import_numbers, library_numbers, relocation_numbers, symbol_name_numbers, delay_import_numbers, delayed_function_numbers}
use Rattle.calls_failures.specs.DebugFailures.{record_numbers, record_refusal}
use Rattle.calls_failures.specs.DirectoryFailures.{directory_numbers, directory_refusal}
use Rattle.calls_failures.specs.Failures.{first_failure, image_failure, rows_failures, te_failures}
use Rattle.calls_failures.specs.ResourceFailures.{leaf_numbers}
use Rattle.pe_c.specs.declared.failures.FailedItem.{FailedItem}
use Rattle.pe_c.specs.declared.failures.TheConstants.{FAILED_ARM64_RECORD, FAILED_BOUND_IMPORT, FAILED_CERTIFICATE, FAILED_DEBUG_RECORD, FAILED_DELAYED_FUNCTION, FAILED_DELAY_IMPORT, FAILED_DIRECTORY, FAILED_IMAGE, FAILED_IMPORT, FAILED_LIBRARY, FAILED_RELOCATION, FAILED_RELOCATION_BLOCK, FAILED_RESOURCE_LEAF, FAILED_SECTIONS, FAILED_SYMBOL_NAME, FAILED_TE}
use Rattle.calls_headers.specs.Coff.{symbol_name_at}
use Rattle.calls_unwind.specs.Arm64.{arm64_record_of}

-- of one that bytes alone have; none of another kind
abbrev pub item_failure : ℕ → List ℕ → FailedItem → Option Failure
item_failure kind b i =
    if kind == FAILED_CERTIFICATE then failure_by (certificate_numbers b i.range) (refused (certificate_step b i.range).0)
    else if kind == FAILED_RELOCATION_BLOCK then failure_by (block_numbers b i.range) (directory_refused (step_of (block_reported i.range) (first_in first_block b i.range)))
    else if kind == FAILED_RELOCATION then failure_by (relocation_numbers b i.number i.range) (directory_refused (step_of relocation_reported (first_in (first_relocation i.number) b i.range)))
    else if kind == FAILED_BOUND_IMPORT then failure_by (bound_numbers b i.table i.range) (directory_refused (step_of (λ x. x) (first_bound b i.table i.range)))
    else if kind == FAILED_SYMBOL_NAME then failure_by (symbol_name_numbers b i.table i.strings i.index) (refused (symbol_name_at b i.table i.strings i.index))
    else if kind == FAILED_IMAGE then image_failure b i.number
    else if kind == FAILED_SECTIONS then first_failure (rows_failures b i.index i.number_of_sections)
    else if kind == FAILED_TE then first_failure (te_failures b)
    else if kind == FAILED_DEBUG_RECORD then failure_by (record_numbers i.record b i.number i.entry) (record_refusal i.record b i.number i.entry)
    else None

-- of one that RVAs lead to; none of another kind
abbrev pub image_item_failure : ℕ → View → FailedItem → Option Failure
image_item_failure kind v i =
    let b = v.bytes.now in
    let image = v.image.now in
    let offset = map_of v in
    let w = entry_size (image.width == 64) in
    if kind == FAILED_LIBRARY then failure_by (library_numbers offset w b i.libraries) (refused (library_step offset w b i.libraries).0)
    else if kind == FAILED_IMPORT then failure_by (import_numbers offset w b i.imports) (refused (import_step offset w b i.imports).0)
    else if kind == FAILED_RESOURCE_LEAF then failure_by (λ _. leaf_numbers b i.leaves) (tree_refused (first_item (items_left b offset i.leaves)))
    else if kind == FAILED_ARM64_RECORD then failure_by (arm64_record_numbers offset b image i.function) (refused (arm64_record_of offset b image i.function))
    else if kind == FAILED_DELAY_IMPORT then failure_by (delay_import_numbers offset b image i.range) (directory_refused (step_of (λ x. x) (first_library_in offset b image i.range)))
    else if kind == FAILED_DELAYED_FUNCTION then failure_by (delayed_function_numbers offset b image i.functions) (directory_refused (step_of (λ x. x) (first_of_walk offset b image i.functions)))
    else if kind == FAILED_DIRECTORY then failure_by (directory_numbers i.number b image offset) (directory_refusal i.number b image (may_map v))
    else None
