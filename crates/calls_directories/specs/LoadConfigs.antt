-- What a call returns of the load configuration.
use Rattle.std.specs.Prelude.{ℕ, ◌-◌, nat_lt, List, [], ◌∷◌, slice_get, Option, None, Result, Ok, if◌then◌else◌}
use Rattle.std.specs.Option.{option_and_then}
use Rattle.pe_core.specs.Refusals.{◌>>=◌}
use Rattle.pe_core.specs.declared.section_table.SectionTable.{SectionTable}
use Rattle.pe_directories.specs.DirectoryRefusals.{DirectoryRefusal}
use Rattle.pe_directories.specs.LoadConfig.{load_config}
use Rattle.pe_directories.specs.declared.load_config.LoadConfig as structures
use Rattle.calls_base.specs.Directories.{if_present, image_parts}
use Rattle.calls_base.specs.Ranges.{one_if_some, or_zero}
use Rattle.calls_base.specs.Images.{directory, is_absent}
use Rattle.calls_base.specs.declared.image.Image as images
use Rattle.calls_directories.specs.declared.directories.load_config.LoadConfig.{LoadConfig}

-- a load configuration as callers get it: a field that is absent is 0, and so is the number that says
-- whether it is there
unfoldable pub config_reported : structures.LoadConfig → LoadConfig
config_reported c = record {
  security_cookie = or_zero c.security_cookie;
  se_handler_table = or_zero c.se_handler_table;
  se_handler_count = or_zero c.se_handler_count;
  guard_cf_check_function_pointer = or_zero c.guard_cf_check_function_pointer;
  guard_cf_dispatch_function_pointer = or_zero c.guard_cf_dispatch_function_pointer;
  guard_cf_function_table = or_zero c.guard_cf_function_table;
  guard_cf_function_count = or_zero c.guard_cf_function_count;
  size = c.size;
  time_date_stamp = or_zero c.time_date_stamp;
  guard_flags = or_zero c.guard_flags;
  major_version = or_zero c.major_version;
  minor_version = or_zero c.minor_version;
  dependent_load_flags = or_zero c.dependent_load_flags;
  spare = 0;
  has_time_date_stamp = one_if_some c.time_date_stamp;
  has_major_version = one_if_some c.major_version;
  has_minor_version = one_if_some c.minor_version;
  has_dependent_load_flags = one_if_some c.dependent_load_flags;
  has_security_cookie = one_if_some c.security_cookie;
  has_se_handler_table = one_if_some c.se_handler_table;
  has_se_handler_count = one_if_some c.se_handler_count;
  has_guard_cf_check_function_pointer = one_if_some c.guard_cf_check_function_pointer;
  has_guard_cf_dispatch_function_pointer = one_if_some c.guard_cf_dispatch_function_pointer;
  has_guard_cf_function_table = one_if_some c.guard_cf_function_table;
  has_guard_cf_function_count = one_if_some c.guard_cf_function_count;
  has_guard_flags = one_if_some c.guard_flags;
}

-- the load configuration of an image, if it has one
abbrev pub load_config_at : List ℕ → images.Image → List SectionTable → Result (Option LoadConfig) DirectoryRefusal
load_config_at b image sections =
    if_present (directory image 10) (load_config (image_parts b image sections) (directory image 10) >>= λ c. Ok (config_reported c))

-- the fields for a process, in the order of winnt.h
unfoldable pub process_fields : structures.LoadConfig → List (Option ℕ)
process_fields c =
    c.process.global_flags_clear ∷
    c.process.global_flags_set ∷
    c.process.critical_section_default_timeout ∷
    c.process.de_commit_free_block_threshold ∷
    c.process.de_commit_total_free_threshold ∷
    c.process.lock_prefix_table ∷
    c.process.maximum_allocation_size ∷
    c.process.virtual_memory_threshold ∷
    c.process.process_affinity_mask ∷
    c.process.process_heap_flags ∷
    c.process.csd_version ∷
    c.process.edit_list ∷ []

-- the fields that follow the guard flags, in the same order
unfoldable pub later_fields : structures.LoadConfig → List (Option ℕ)
later_fields c =
    c.code_integrity.flags ∷
    c.code_integrity.catalog ∷
    c.code_integrity.catalog_offset ∷
    c.code_integrity.reserved ∷
    c.guard_tables.address_taken_iat_entry_table ∷
    c.guard_tables.address_taken_iat_entry_count ∷
    c.guard_tables.long_jump_target_table ∷
    c.guard_tables.long_jump_target_count ∷
    c.metadata.dynamic_value_reloc_table ∷
    c.metadata.chpe_metadata_pointer ∷
    c.return_flow_guard.failure_routine ∷
    c.return_flow_guard.failure_routine_function_pointer ∷
    c.metadata.dynamic_value_reloc_table_offset ∷
    c.metadata.dynamic_value_reloc_table_section ∷
    c.return_flow_guard.verify_stack_pointer_function_pointer ∷
    c.metadata.hot_patch_table_offset ∷
    c.metadata.enclave_configuration_pointer ∷
    c.metadata.volatile_metadata_pointer ∷
    c.guard_tables.eh_continuation_table ∷
    c.guard_tables.eh_continuation_count ∷
    c.guard_functions.xfg_check_function_pointer ∷
    c.guard_functions.xfg_dispatch_function_pointer ∷
    c.guard_functions.xfg_table_dispatch_function_pointer ∷
    c.guard_functions.cast_guard_os_determined_failure_mode ∷
    c.guard_functions.guard_memcpy_function_pointer ∷ []

-- the field with this number, if the structure has it: those for a process first, then those that follow the guard flags
unfoldable pub numbered_field : ℕ → structures.LoadConfig → Option ℕ
numbered_field n c =
    if nat_lt n 12 then option_and_then (λ field. field) (slice_get (process_fields c) n)
    else option_and_then (λ field. field) (slice_get (later_fields c) (n - 12))

-- the same of an image, if it has a load configuration
abbrev pub numbered_field_at : ℕ → List ℕ → images.Image → List SectionTable → Result (Option ℕ) DirectoryRefusal
numbered_field_at n b image sections =
    if is_absent (directory image 10) then Ok None
    else (load_config (image_parts b image sections) (directory image 10) >>= λ c. Ok (numbered_field n c))
