-- Records of fixed size at offset p, by their layouts in minidumpapiset.h.
use Rattle.std.specs.Prelude.{ℕ, ◌+◌, ◌*◌, List}
use Rattle.pe_core.specs.Bytes.{le}
use Rattle.pe_core.specs.Rows.{each}
use Rattle.pe_minidump.specs.declared.dump.DirectoryEntry.{DirectoryEntry}
use Rattle.pe_minidump.specs.declared.dump.DumpHeader.{DumpHeader}
use Rattle.pe_minidump.specs.declared.exception.Exception.{Exception}
use Rattle.pe_minidump.specs.declared.handle.Handle.{Handle}
use Rattle.pe_minidump.specs.declared.memory.MemoryDescriptor.{MemoryDescriptor}
use Rattle.pe_minidump.specs.declared.memory.MemoryRange.{MemoryRange}
use Rattle.pe_minidump.specs.declared.memory_region.MemoryRegion.{MemoryRegion}
use Rattle.pe_minidump.specs.declared.module.FixedFileInfo.{FixedFileInfo}
use Rattle.pe_minidump.specs.declared.module.Module.{Module}
use Rattle.pe_minidump.specs.declared.system.SystemInfo.{SystemInfo}
use Rattle.pe_minidump.specs.declared.thread.Thread.{Thread}
use Rattle.pe_minidump.specs.declared.thread_info.ThreadInfo.{ThreadInfo}
use Rattle.pe_minidump.specs.declared.thread_name.ThreadName.{ThreadName}
use Rattle.pe_minidump.specs.declared.unloaded_module.UnloadedModule.{UnloadedModule}
use Rattle.pe_minidump.specs.declared.location.Location.{Location}

-- where bytes stand, 8 bytes: how many they are, and their offset in the file
unfoldable pub location_at : List ℕ → ℕ → Location
location_at b p = record {
  size = le b p 4;
  rva = le b (p + 4) 4;
}

-- the header, 32 bytes
unfoldable pub dump_header : List ℕ → ℕ → DumpHeader
dump_header b p = record {
  signature = le b p 4;
  version = le b (p + 4) 4;
  number_of_streams = le b (p + 8) 4;
  stream_directory_rva = le b (p + 12) 4;
  check_sum = le b (p + 16) 4;
  time_date_stamp = le b (p + 20) 4;
  flags = le b (p + 24) 8;
}

-- an entry of the directory, 12 bytes
unfoldable pub directory_entry : List ℕ → ℕ → DirectoryEntry
directory_entry b p = record {
  stream_type = le b p 4;
  location = location_at b (p + 4);
}

-- a piece of memory, and where its bytes stand in the file, 16 bytes
unfoldable pub memory_descriptor : List ℕ → ℕ → MemoryDescriptor
memory_descriptor b p = record {
  start_of_memory_range = le b p 8;
  memory = location_at b (p + 8);
}

-- a piece of memory, whose bytes follow those of the piece before it, 16 bytes
unfoldable pub memory_range : List ℕ → ℕ → MemoryRange
memory_range b p = record {
  start_of_memory_range = le b p 8;
  data_size = le b (p + 8) 8;
}

-- a thread, 48 bytes
unfoldable pub thread : List ℕ → ℕ → Thread
thread b p = record {
  thread_id = le b p 4;
  suspend_count = le b (p + 4) 4;
  priority_class = le b (p + 8) 4;
  priority = le b (p + 12) 4;
  teb = le b (p + 16) 8;
  stack = memory_descriptor b (p + 24);
  thread_context = location_at b (p + 40);
}

-- the version of a module, 52 bytes
unfoldable pub fixed_file_info : List ℕ → ℕ → FixedFileInfo
fixed_file_info b p = record {
  signature = le b p 4;
  struc_version = le b (p + 4) 4;
  file_version_ms = le b (p + 8) 4;
  file_version_ls = le b (p + 12) 4;
  product_version_ms = le b (p + 16) 4;
  product_version_ls = le b (p + 20) 4;
  file_flags_mask = le b (p + 24) 4;
  file_flags = le b (p + 28) 4;
  file_os = le b (p + 32) 4;
  file_type = le b (p + 36) 4;
  file_subtype = le b (p + 40) 4;
  file_date_ms = le b (p + 44) 4;
  file_date_ls = le b (p + 48) 4;
}

-- a module, 108 bytes
unfoldable pub module_entry : List ℕ → ℕ → Module
module_entry b p = record {
  base_of_image = le b p 8;
  size_of_image = le b (p + 8) 4;
  check_sum = le b (p + 12) 4;
  time_date_stamp = le b (p + 16) 4;
  module_name_rva = le b (p + 20) 4;
  version_info = fixed_file_info b (p + 24);
  cv_record = location_at b (p + 76);
  misc_record = location_at b (p + 84);
}

-- the name of a thread, 12 bytes
unfoldable pub thread_name : List ℕ → ℕ → ThreadName
thread_name b p = record {
  thread_id = le b p 4;
  rva_of_thread_name = le b (p + 4) 8;
}

-- a module that was unloaded, 24 bytes
unfoldable pub unloaded_module : List ℕ → ℕ → UnloadedModule
unloaded_module b p = record {
  base_of_image = le b p 8;
  size_of_image = le b (p + 8) 4;
  check_sum = le b (p + 12) 4;
  time_date_stamp = le b (p + 16) 4;
  module_name_rva = le b (p + 20) 4;
}

-- a region of memory, 48 bytes
unfoldable pub memory_region : List ℕ → ℕ → MemoryRegion
memory_region b p = record {
  base_address = le b p 8;
  allocation_base = le b (p + 8) 8;
  allocation_protect = le b (p + 16) 4;
  region_size = le b (p + 24) 8;
  state = le b (p + 32) 4;
  protect = le b (p + 36) 4;
  memory_type = le b (p + 40) 4;
}

-- a handle, 32 bytes
unfoldable pub handle_descriptor : List ℕ → ℕ → Handle
handle_descriptor b p = record {
  handle = le b p 8;
  type_name_rva = le b (p + 8) 4;
  object_name_rva = le b (p + 12) 4;
  attributes = le b (p + 16) 4;
  granted_access = le b (p + 20) 4;
  handle_count = le b (p + 24) 4;
  pointer_count = le b (p + 28) 4;
}

-- more on a thread, 64 bytes
unfoldable pub thread_info : List ℕ → ℕ → ThreadInfo
thread_info b p = record {
  thread_id = le b p 4;
  dump_flags = le b (p + 4) 4;
  dump_error = le b (p + 8) 4;
  exit_status = le b (p + 12) 4;
  create_time = le b (p + 16) 8;
  exit_time = le b (p + 24) 8;
  kernel_time = le b (p + 32) 8;
  user_time = le b (p + 40) 8;
  start_address = le b (p + 48) 8;
  affinity = le b (p + 56) 8;
}

-- the system, 56 bytes
unfoldable pub system_info : List ℕ → ℕ → SystemInfo
system_info b p = record {
  processor_architecture = le b p 2;
  processor_level = le b (p + 2) 2;
  processor_revision = le b (p + 4) 2;
  number_of_processors = le b (p + 6) 1;
  product_type = le b (p + 7) 1;
  major_version = le b (p + 8) 4;
  minor_version = le b (p + 12) 4;
  build_number = le b (p + 16) 4;
  platform_id = le b (p + 20) 4;
  csd_version_rva = le b (p + 24) 4;
  suite_mask = le b (p + 28) 2;
}

-- the exception that a dump was written for, 168 bytes
unfoldable pub exception_stream : List ℕ → ℕ → Exception
exception_stream b p = record {
  thread_id = le b p 4;
  exception_code = le b (p + 8) 4;
  exception_flags = le b (p + 12) 4;
  number_parameters = le b (p + 32) 4;
  exception_record = le b (p + 16) 8;
  exception_address = le b (p + 24) 8;
  exception_information = each (λ i. le b (p + 40 + 8 * i) 8) 15;
  thread_context = location_at b (p + 160);
}
