-- What calls return of the streams of a minidump: records of lists by their index, and single records.
use Rattle.std.specs.Prelude.{ℕ, List, slice_get, Option, Some, None, Result, Ok, ◌==◌, if◌then◌else◌}
use Rattle.std.specs.Option.{option_map}
use Rattle.pe_core.specs.Refusals.{◌>>=◌}
use Rattle.pe_minidump.specs.Dumps.{located}
use Rattle.pe_minidump.specs.Records.{exception_stream, system_info, handle_descriptor, memory_descriptor, memory_region, module_entry, thread, thread_info, thread_name, unloaded_module}
use Rattle.pe_minidump.specs.Refusals.{DumpRefusal}
use Rattle.pe_minidump.specs.Streams.{at_start, misc_of}
use Rattle.pe_minidump.specs.declared.exception.Exception.{Exception}
use Rattle.pe_minidump.specs.declared.memory_region.MemoryRegion.{MemoryRegion}
use Rattle.pe_minidump.specs.declared.module.Module.{Module}
use Rattle.pe_minidump.specs.declared.system.MiscInfo.{MiscInfo}
use Rattle.pe_minidump.specs.declared.system.ProcessTimes.{ProcessTimes}
use Rattle.pe_minidump.specs.declared.system.ProcessorPower.{ProcessorPower}
use Rattle.pe_minidump.specs.declared.system.SystemInfo.{SystemInfo}
use Rattle.pe_minidump.specs.declared.thread_name.ThreadName.{ThreadName}
use Rattle.calls_base.specs.Ranges.{or_zero}
use Rattle.calls_stacks.specs.declared.dump.lists.DumpMemoryRegion.{DumpMemoryRegion}
use Rattle.calls_stacks.specs.declared.dump.lists.DumpModule.{DumpModule}
use Rattle.calls_stacks.specs.declared.dump.lists.DumpThreadName.{DumpThreadName}
use Rattle.calls_stacks.specs.declared.dump.records.DumpProcess.{DumpProcess}
use Rattle.calls_stacks.specs.declared.dump.records.DumpSystem.{DumpSystem}
use Rattle.calls_base.specs.declared.ranges.Range.{Range}
use Rattle.pe_minidump.specs.Lists.{counted_list, headed_list}
use Rattle.pe_minidump.specs.declared.stream_type.TheConstants.{EXCEPTION_STREAM, HANDLE_DATA_STREAM, MEMORY64_LIST_STREAM, MEMORY_INFO_LIST_STREAM, MEMORY_LIST_STREAM, MISC_INFO_STREAM, MODULE_LIST_STREAM, SYSTEM_INFO_STREAM, THREAD_INFO_LIST_STREAM, THREAD_LIST_STREAM, THREAD_NAMES_STREAM, UNLOADED_MODULE_LIST_STREAM}
use Rattle.calls_stacks.specs.DumpMemory.{described, memory64_at}
use Rattle.calls_stacks.specs.Dumps.{dump_entry_at}
use Rattle.calls_stacks.specs.declared.dump.any_record.AnyRecord.{AnyRecord}
use Rattle.calls_stacks.specs.declared.dump.any_record.TheConstants.{DUMP_ENTRIES}

-- ---- lists

-- the record with an index of the list that stands in a range; there is none past the last one
abbrev pub entry_in : {X : Type 0} → (List ℕ → Result (List X) DumpRefusal) → List ℕ → Range → ℕ → Result (Option X) DumpRefusal
entry_in list b r index =
    located b r.offset r.length >>= λ s. list s >>= λ entries. Ok (slice_get entries index)

-- the same as callers get it
abbrev pub reported_in : {X Y : Type 0} → (X → Y) → (List ℕ → Result (List X) DumpRefusal) → List ℕ → Range → ℕ → Result (Option Y) DumpRefusal
reported_in report list b r index = entry_in list b r index >>= λ found. Ok (option_map report found)

abbrev pub module_reported : Module → DumpModule
module_reported m = record {
  base_of_image = m.base_of_image;
  size_of_image = m.size_of_image;
  check_sum = m.check_sum;
  time_date_stamp = m.time_date_stamp;
  module_name_rva = m.module_name_rva;
  version_info = m.version_info;
  cv_record = m.cv_record;
  misc_record = m.misc_record;
  spare = 0;
}

abbrev pub name_reported : ThreadName → DumpThreadName
name_reported n = record { rva_of_thread_name = n.rva_of_thread_name; thread_id = n.thread_id; spare = 0 }

abbrev pub region_reported : MemoryRegion → DumpMemoryRegion
region_reported m = record {
  base_address = m.base_address;
  allocation_base = m.allocation_base;
  region_size = m.region_size;
  allocation_protect = m.allocation_protect;
  state = m.state;
  protect = m.protect;
  memory_type = m.memory_type;
}

-- ---- single records

abbrev pub exception_at : List ℕ → Range → Result Exception DumpRefusal
exception_at b r =
    located b r.offset r.length >>= λ s. at_start 168 (exception_stream s 0) s

abbrev pub system_reported : SystemInfo → DumpSystem
system_reported s = record {
  processor_architecture = s.processor_architecture;
  processor_level = s.processor_level;
  processor_revision = s.processor_revision;
  number_of_processors = s.number_of_processors;
  product_type = s.product_type;
  major_version = s.major_version;
  minor_version = s.minor_version;
  build_number = s.build_number;
  platform_id = s.platform_id;
  csd_version_rva = s.csd_version_rva;
  suite_mask = s.suite_mask;
  spare = 0;
}

abbrev pub system_at : List ℕ → Range → Result DumpSystem DumpRefusal
system_at b r =
    located b r.offset r.length >>= λ s. at_start 56 (system_info s 0) s >>= λ i. Ok (system_reported i)

-- times that are not there are 0
abbrev pub times_or_zero : Option ProcessTimes → ProcessTimes
times_or_zero None = record { process_create_time = 0; process_user_time = 0; process_kernel_time = 0 }
times_or_zero (Some t) = t

-- a speed that is not there is 0, and a flag says so
abbrev pub power_or_zero : Option ProcessorPower → ProcessorPower
power_or_zero None = record {
  processor_max_mhz = 0;
  processor_current_mhz = 0;
  processor_mhz_limit = 0;
  processor_max_idle_state = 0;
  processor_current_idle_state = 0;
}
power_or_zero (Some p) = p

abbrev pub has_power : Option ProcessorPower → ℕ
has_power None = 0
has_power (Some p) = 1

abbrev pub misc_reported : MiscInfo → DumpProcess
misc_reported m = record {
  size_of_info = m.size_of_info;
  flags1 = m.flags1;
  process_id = or_zero m.process_id;
  process_times = times_or_zero m.process_times;
  has_processor_power = has_power m.processor_power;
  processor_power = power_or_zero m.processor_power;
}

abbrev pub misc_at : List ℕ → Range → Result DumpProcess DumpRefusal
misc_at b r =
    located b r.offset r.length >>= λ s. at_start 24 (misc_of s) s >>= λ m. Ok (misc_reported m)

-- ---- A record of a minidump by the kind of its stream, as one call returns those of all kinds.

-- a record as the field of its kind, with the other fields as they were
abbrev pub in_field : {X : Type 0} → (X → AnyRecord) → Result (Option X) DumpRefusal → Result (Option AnyRecord) DumpRefusal
in_field put found = found >>= λ record_found. Ok (option_map put record_found)

-- what a stream says in one record, which has index 0
abbrev pub alone : {X : Type 0} → Result X DumpRefusal → ℕ → Result (Option X) DumpRefusal
alone found index = found >>= λ x. Ok (if index == 0 then Some x else None)

-- the record with an index in the stream of a kind, or in the directory; there is none past the last one, and none of another kind
abbrev pub any_record : ℕ → List ℕ → Range → ℕ → AnyRecord → Result (Option AnyRecord) DumpRefusal
any_record kind b r i old =
    if kind == DUMP_ENTRIES then in_field (λ x. record old { entry = x }) (dump_entry_at b r i)
    else if kind == THREAD_LIST_STREAM then in_field (λ x. record old { thread = x }) (entry_in (counted_list thread 48) b r i)
    else if kind == MODULE_LIST_STREAM then in_field (λ x. record old { loaded = x }) (reported_in module_reported (counted_list module_entry 108) b r i)
    else if kind == MEMORY_LIST_STREAM then in_field (λ x. record old { memory = x }) (reported_in (described b) (counted_list memory_descriptor 16) b r i)
    else if kind == EXCEPTION_STREAM then in_field (λ x. record old { exception = x }) (alone (exception_at b r) i)
    else if kind == SYSTEM_INFO_STREAM then in_field (λ x. record old { system = x }) (alone (system_at b r) i)
    else if kind == MEMORY64_LIST_STREAM then in_field (λ x. record old { memory64 = x }) (alone (memory64_at b r) i)
    else if kind == HANDLE_DATA_STREAM then in_field (λ x. record old { handle = x }) (entry_in (headed_list handle_descriptor 32 16 4) b r i)
    else if kind == UNLOADED_MODULE_LIST_STREAM then in_field (λ x. record old { unloaded = x }) (entry_in (headed_list unloaded_module 24 12 4) b r i)
    else if kind == MISC_INFO_STREAM then in_field (λ x. record old { process = x }) (alone (misc_at b r) i)
    else if kind == MEMORY_INFO_LIST_STREAM then in_field (λ x. record old { region = x }) (reported_in region_reported (headed_list memory_region 48 16 8) b r i)
    else if kind == THREAD_INFO_LIST_STREAM then in_field (λ x. record old { thread_info = x }) (entry_in (headed_list thread_info 64 12 4) b r i)
    else if kind == THREAD_NAMES_STREAM then in_field (λ x. record old { thread_name = x }) (reported_in name_reported (counted_list thread_name 12) b r i)
    else Ok None
