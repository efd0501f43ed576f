-- What each stream of a dump says: none without the stream, or a refusal.
use Rattle.std.specs.Prelude.{ℕ, ◌/◌, ◌%◌, ◌==◌, List, [], ◌∷◌, length, nat_le, Option, Some, None, Result, if◌then◌else◌}
use Rattle.pe_core.specs.Bytes.{le, holds}
use Rattle.pe_core.specs.Refusals.{outcome}
use Rattle.pe_minidump.specs.Dumps.{DumpView, read_stream}
use Rattle.pe_minidump.specs.Lists.{counted_list, headed_list}
use Rattle.pe_minidump.specs.Records.{exception_stream, handle_descriptor, memory_descriptor, memory_region, module_entry, system_info, thread, thread_info, thread_name, unloaded_module}
use Rattle.pe_minidump.specs.Refusals.{DumpRefusal, Short}
use Rattle.pe_minidump.specs.declared.exception.Exception.{Exception}
use Rattle.pe_minidump.specs.declared.handle.Handle.{Handle}
use Rattle.pe_minidump.specs.declared.memory.MemoryDescriptor.{MemoryDescriptor}
use Rattle.pe_minidump.specs.declared.memory_region.MemoryRegion.{MemoryRegion}
use Rattle.pe_minidump.specs.declared.module.Module.{Module}
use Rattle.pe_minidump.specs.declared.system.MiscInfo.{MiscInfo}
use Rattle.pe_minidump.specs.declared.system.ProcessTimes.{ProcessTimes}
use Rattle.pe_minidump.specs.declared.system.ProcessorPower.{ProcessorPower}
use Rattle.pe_minidump.specs.declared.system.SystemInfo.{SystemInfo}
use Rattle.pe_minidump.specs.declared.thread.Thread.{Thread}
use Rattle.pe_minidump.specs.declared.thread_info.ThreadInfo.{ThreadInfo}
use Rattle.pe_minidump.specs.declared.thread_name.ThreadName.{ThreadName}
use Rattle.pe_minidump.specs.declared.unloaded_module.UnloadedModule.{UnloadedModule}

-- ---- lists

abbrev pub threads : DumpView → Result (Option (List Thread)) DumpRefusal
threads d = read_stream (counted_list thread 48) d 3

abbrev pub modules : DumpView → Result (Option (List Module)) DumpRefusal
modules d = read_stream (counted_list module_entry 108) d 4

abbrev pub memory_list : DumpView → Result (Option (List MemoryDescriptor)) DumpRefusal
memory_list d = read_stream (counted_list memory_descriptor 16) d 5

abbrev pub handles : DumpView → Result (Option (List Handle)) DumpRefusal
handles d = read_stream (headed_list handle_descriptor 32 16 4) d 12

abbrev pub unloaded_modules : DumpView → Result (Option (List UnloadedModule)) DumpRefusal
unloaded_modules d = read_stream (headed_list unloaded_module 24 12 4) d 14

abbrev pub memory_regions : DumpView → Result (Option (List MemoryRegion)) DumpRefusal
memory_regions d = read_stream (headed_list memory_region 48 16 8) d 16

abbrev pub thread_infos : DumpView → Result (Option (List ThreadInfo)) DumpRefusal
thread_infos d = read_stream (headed_list thread_info 64 12 4) d 17

abbrev pub thread_names : DumpView → Result (Option (List ThreadName)) DumpRefusal
thread_names d = read_stream (counted_list thread_name 12) d 24

-- ---- single records

-- a record of n bytes at the start of a stream, which may be longer
abbrev pub at_start : {X : Type 0} → ℕ → X → List ℕ → Result X DumpRefusal
at_start n value b = outcome ((holds b 0 n, Short) ∷ []) value

abbrev pub exception : DumpView → Result (Option Exception) DumpRefusal
exception d = read_stream (λ b. at_start 168 (exception_stream b 0) b) d 6

abbrev pub system : DumpView → Result (Option SystemInfo) DumpRefusal
system d = read_stream (λ b. at_start 56 (system_info b 0) b) d 7

-- a value, if this bit of the flags is set, which is 1, 2, 4 ..
abbrev pub if_set : {X : Type 0} → ℕ → ℕ → X → Option X
if_set flags bit value = if flags / bit % 2 == 1 then Some value else None

-- how long a process ran
abbrev pub times_of : List ℕ → ProcessTimes
times_of b = record { process_create_time = le b 12 4; process_user_time = le b 16 4; process_kernel_time = le b 20 4 }

-- the speed of the processor
abbrev pub power_of : List ℕ → ProcessorPower
power_of b = record {
  processor_max_mhz = le b 24 4;
  processor_current_mhz = le b 28 4;
  processor_mhz_limit = le b 32 4;
  processor_max_idle_state = le b 36 4;
  processor_current_idle_state = le b 40 4;
}

-- what is known of a process, in 24 bytes, or 44 with the speed of the processor; the flags say which parts are there. Whether
-- there are 44 says the length of the stream, and not size_of_info
unfoldable pub misc_of : List ℕ → MiscInfo
misc_of b = record {
  size_of_info = le b 0 4;
  flags1 = le b 4 4;
  process_id = if_set (le b 4 4) 1 (le b 8 4);
  process_times = if_set (le b 4 4) 2 (times_of b);
  processor_power = if nat_le 44 (length b) then if_set (le b 4 4) 4 (power_of b) else None;
}

abbrev pub misc : DumpView → Result (Option MiscInfo) DumpRefusal
misc d = read_stream (λ b. at_start 24 (misc_of b) b) d 15
