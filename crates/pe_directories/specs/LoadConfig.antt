-- The load configuration. (PE format: load configuration structure; winnt.h: IMAGE_LOAD_CONFIG_DIRECTORY32 and 64, whose order
-- of ProcessHeapFlags and ProcessAffinityMask differs.)
use Rattle.std.specs.Prelude.{ℕ, List, take, drop, Bool, Option, Some, None, Result, Ok, if◌then◌else◌}
use Rattle.pe_core.specs.Bytes.{le, holds}
use Rattle.pe_core.specs.Refusals.{◌>>=◌}
use Rattle.pe_core.specs.declared.data_directories.DataDirectory.{DataDirectory}
use Rattle.pe_directories.specs.DirectoryRefusals.{DirectoryRefusal}
use Rattle.pe_directories.specs.ImageParts.{ImageView, record_of}
use Rattle.pe_directories.specs.declared.load_config.CodeIntegrity.{CodeIntegrity}
use Rattle.pe_directories.specs.declared.load_config.GuardFunctions.{GuardFunctions}
use Rattle.pe_directories.specs.declared.load_config.GuardTables.{GuardTables}
use Rattle.pe_directories.specs.declared.load_config.LoadConfig.{LoadConfig}
use Rattle.pe_directories.specs.declared.load_config.LoadMetadata.{LoadMetadata}
use Rattle.pe_directories.specs.declared.load_config.ProcessSettings.{ProcessSettings}
use Rattle.pe_directories.specs.declared.load_config.ReturnFlowGuard.{ReturnFlowGuard}
use Rattle.pe_directories.specs.declared.load_config.Structure.{Structure}

-- ---- the fields of a structure

-- a structure: whether it is that of PE32+, and its bytes
pub record StructureView : Type 0 where
  pub is_64 : Bool
  pub bytes : List ℕ

-- this structure, without the address of its bytes in memory
abbrev pub structure_view : Structure → StructureView
structure_view s = record { is_64 = s.is_64; bytes = s.bytes.now }

-- the n bytes at offset p as a number, if they are there
abbrev pub field : List ℕ → ℕ → ℕ → Option ℕ
field c p n = if holds c p n then Some (le c p n) else None

-- a field of n bytes, by its offset in PE32 and its offset in PE32+
unfoldable pub number : StructureView → ℕ → ℕ → ℕ → Option ℕ
number s p q n = if s.is_64 then field s.bytes q n else field s.bytes p n

-- a field as wide as a virtual address, 4 bytes in PE32 and 8 in PE32+, by the same two offsets
unfoldable pub wide : StructureView → ℕ → ℕ → Option ℕ
wide s p q = if s.is_64 then field s.bytes q 8 else field s.bytes p 4

-- ---- all fields, each with its offset in PE32 and its offset in PE32+

unfoldable pub process_settings : StructureView → ProcessSettings
process_settings s = record {
  global_flags_clear = number s 12 12 4;
  global_flags_set = number s 16 16 4;
  critical_section_default_timeout = number s 20 20 4;
  de_commit_free_block_threshold = wide s 24 24;
  de_commit_total_free_threshold = wide s 28 32;
  lock_prefix_table = wide s 32 40;
  maximum_allocation_size = wide s 36 48;
  virtual_memory_threshold = wide s 40 56;
  process_affinity_mask = wide s 48 64;
  process_heap_flags = number s 44 72 4;
  csd_version = number s 52 76 2;
  edit_list = wide s 56 80;
}

unfoldable pub code_integrity : StructureView → CodeIntegrity
code_integrity s = record {
  flags = number s 92 148 2;
  catalog = number s 94 150 2;
  catalog_offset = number s 96 152 4;
  reserved = number s 100 156 4;
}

unfoldable pub guard_tables : StructureView → GuardTables
guard_tables s = record {
  address_taken_iat_entry_table = wide s 104 160;
  address_taken_iat_entry_count = wide s 108 168;
  long_jump_target_table = wide s 112 176;
  long_jump_target_count = wide s 116 184;
  eh_continuation_table = wide s 164 264;
  eh_continuation_count = wide s 168 272;
}

unfoldable pub return_flow_guard : StructureView → ReturnFlowGuard
return_flow_guard s = record {
  failure_routine = wide s 128 208;
  failure_routine_function_pointer = wide s 132 216;
  verify_stack_pointer_function_pointer = wide s 144 232;
}

unfoldable pub load_metadata : StructureView → LoadMetadata
load_metadata s = record {
  dynamic_value_reloc_table = wide s 120 192;
  dynamic_value_reloc_table_offset = number s 136 224 4;
  dynamic_value_reloc_table_section = number s 140 228 2;
  chpe_metadata_pointer = wide s 124 200;
  hot_patch_table_offset = number s 148 240 4;
  enclave_configuration_pointer = wide s 156 248;
  volatile_metadata_pointer = wide s 160 256;
}

unfoldable pub guard_functions : StructureView → GuardFunctions
guard_functions s = record {
  xfg_check_function_pointer = wide s 172 280;
  xfg_dispatch_function_pointer = wide s 176 288;
  xfg_table_dispatch_function_pointer = wide s 180 296;
  cast_guard_os_determined_failure_mode = wide s 184 304;
  guard_memcpy_function_pointer = wide s 188 312;
}

-- the load configuration of a structure that says that it has so many bytes
unfoldable pub config_of : ℕ → StructureView → LoadConfig
config_of size s = record {
  size = size;
  time_date_stamp = number s 4 4 4;
  major_version = number s 8 8 2;
  minor_version = number s 10 10 2;
  process = process_settings s;
  dependent_load_flags = number s 54 78 2;
  security_cookie = wide s 60 88;
  se_handler_table = wide s 64 96;
  se_handler_count = wide s 68 104;
  guard_cf_check_function_pointer = wide s 72 112;
  guard_cf_dispatch_function_pointer = wide s 76 120;
  guard_cf_function_table = wide s 80 128;
  guard_cf_function_count = wide s 84 136;
  guard_flags = number s 88 144 4;
  code_integrity = code_integrity s;
  guard_tables = guard_tables s;
  return_flow_guard = return_flow_guard s;
  metadata = load_metadata s;
  guard_functions = guard_functions s;
}

-- ---- the structure of an image

-- the structure at an offset: as many bytes as its first 4 say, or fewer where the image ends
abbrev pub structure_at : ImageView → ℕ → StructureView
structure_at i p = record { is_64 = i.is_64; bytes = take (le i.bytes p 4) (drop p i.bytes) }

-- the load configuration of an image, of which the first 4 bytes are there
unfoldable pub load_config : ImageView → DataDirectory → Result LoadConfig DirectoryRefusal
load_config i d = record_of i d.virtual_address 4 >>= λ p. Ok (config_of (le i.bytes p 4) (structure_at i p))
