-- The modules of a process: images, each with the addresses where it is loaded.
use Rattle.std.specs.Prelude.{ℕ, ◌-◌, ◌/◌, ◌%◌, ◌^◌, ◌==◌, ◌&&◌, ◌||◌, nat_le, Bool, false, List, [], length, Option, Some, None, if◌then◌else◌}
use Rattle.std.specs.List.{find, list_any}
use Rattle.std.specs.Option.{option_map}
use Rattle.pe_core.specs.Bytes.{holds, range}
use Rattle.pe_core.specs.SectionMap.{section_map}
use Rattle.pe_core.specs.declared.section_table.SectionTable.{SectionTable}
use Rattle.pe_unwind.specs.ExceptionTable.{ExceptionView}
use Rattle.pe_lookup.specs.AddressRanges.{has_address}
use Rattle.pe_frame.specs.Arm64CallForms.{is_call_arm64}
use Rattle.pe_frame.specs.CallForms.{is_call, call_sizes, near_target}
use Rattle.pe_lookup.specs.SectionIndexes.{sections_by}
use Rattle.pe_lookup.specs.SectionSearch.{memory_size, section_start, section_started}
use Rattle.pe_frame.specs.declared.modules.Module.{Module}

-- the first address, and how many bytes follow from it on
abbrev pub module_base : Module → ℕ
module_base m = m.base

abbrev pub module_size : Module → ℕ
module_size m = m.size

-- the module that has an address
abbrev pub module_at : List Module → ℕ → Option Module
module_at modules a = find (has_address module_base module_size a) modules

-- the n bytes from a file offset on; none where they are not all in the file
abbrev pub bytes_or_none : List ℕ → Option ℕ → ℕ → List ℕ
bytes_or_none b None n = []
bytes_or_none b (Some p) n = if holds b p n then range b p n else []

-- the map from RVAs of a module to file offsets, at a file alignment: by its index of the sections where it has one
abbrev pub map_at : Module → ℕ → ℕ → Option ℕ
map_at m alignment x = section_map m.opts (sections_by m.sections.now m.index.now x) alignment x

-- the section map of its exception data
abbrev pub map_of_module : Module → ExceptionView → ℕ → Option ℕ
map_of_module m e x = map_at m e.alignment x

-- The alignment at which the code of a module is read: that of its exception data. Without any it is 1, so that the sections alone
-- say where code is: all of it stands in their raw data.
abbrev pub code_alignment : Option ExceptionView → ℕ
code_alignment None = 1
code_alignment (Some e) = e.alignment

-- the code of a module from an RVA up to another
abbrev pub code_at : Module → ℕ → ℕ → ℕ → List ℕ
code_at m alignment rva end = bytes_or_none m.bytes.now (map_at m alignment rva) (end - rva)

abbrev pub code_in : Module → ExceptionView → ℕ → ℕ → List ℕ
code_in m e rva end = code_at m e.alignment rva end

-- ---- return addresses

-- the n bytes before an RVA are a call
abbrev pub follows_call : Module → ℕ → ℕ → ℕ → Bool
follows_call m alignment rva n = nat_le n rva && is_call (code_at m alignment (rva - n) rva)

-- A call ends at an RVA of a module. Functions that no exception data describe call too.
abbrev pub has_call_before : Module → Option ExceptionView → ℕ → Bool
has_call_before m exceptions rva = list_any (follows_call m (code_alignment exceptions) rva) call_sizes

abbrev pub is_after_call_in : Module → ℕ → Bool
is_after_call_in m a = has_call_before m (option_map (λ e. e.now) m.exceptions) (a - m.base)

abbrev pub is_after_call_of : Option Module → ℕ → Bool
is_after_call_of None a = false
is_after_call_of (Some m) a = is_after_call_in m a

-- an address is one after a call: the bytes before it are one, in the module that has the last of them
abbrev pub is_after_call : List Module → ℕ → Bool
is_after_call modules a = is_after_call_of (module_at modules (a - 1)) a

-- a section is executable (IMAGE_SCN_MEM_EXECUTE, bit 29 of its characteristics), and has an RVA
abbrev pub executes : ℕ → SectionTable → Bool
executes rva s =
    s.characteristics / 2 ^ 29 % 2 == 1 && has_address section_start memory_size rva s

-- the section that halving finds of an RVA is executable, and has it: one section is asked, however many there are
unfoldable pub is_executable : List SectionTable → ℕ → Bool
is_executable sections rva = list_any (executes rva) (section_started sections rva)

abbrev pub is_code_return_of : Option Module → ℕ → Bool
is_code_return_of None a = false
is_code_return_of (Some m) a = is_executable m.sections.now (a - m.base - 1) && is_after_call_in m a

-- an address is one after a call in an executable section
abbrev pub is_code_return : List Module → ℕ → Bool
is_code_return modules a = is_code_return_of (module_at modules (a - 1)) a

-- the address to which the call E8 of an executable section leads that ends at an address of a module
abbrev pub call_target_of : Option Module → ℕ → Option ℕ
call_target_of None a = None
call_target_of (Some m) a =
    if nat_le 5 (a - m.base) && is_executable m.sections.now (a - m.base - 1)
    then near_target (code_at m (code_alignment (option_map (λ e. e.now) m.exceptions)) (a - m.base - 5) (a - m.base)) a
    else None

-- the same in the module that has the last byte of the call
abbrev pub call_target : List Module → ℕ → Option ℕ
call_target modules a = call_target_of (module_at modules (a - 1)) a

abbrev pub is_code_of : Option Module → ℕ → Bool
is_code_of None a = false
is_code_of (Some m) a = is_executable m.sections.now (a - m.base)

-- an address is one of an executable section, on each machine
abbrev pub is_code : List Module → ℕ → Bool
is_code modules a = is_code_of (module_at modules a) a

-- The image of a module is not at hand: no sections say where its code is.
abbrev pub is_unknown : Module → Bool
is_unknown m = length m.sections.now == 0

-- the image of the module that has an address is not at hand
abbrev pub is_unknown_of : Option Module → Bool
is_unknown_of None = false
is_unknown_of (Some m) = is_unknown m

abbrev pub is_in_unknown : List Module → ℕ → Bool
is_in_unknown modules a = is_unknown_of (module_at modules a)

-- Windows keeps the addresses below this one free in each process.
abbrev pub lowest_address : ℕ
lowest_address = 65536

-- A call may end at an address, on each machine: the image that has the last byte before it, and would say so, is not at hand.
abbrev pub may_end_call : List Module → ℕ → Bool
may_end_call modules a = nat_le lowest_address a && is_in_unknown modules (a - 1)

-- ---- return addresses on ARM64, where a call has four bytes

-- the bytes before an RVA are a call
abbrev pub has_call_before_arm64 : Module → Option ExceptionView → ℕ → Bool
has_call_before_arm64 m exceptions rva =
    nat_le 4 rva && is_call_arm64 (code_at m (code_alignment exceptions) (rva - 4) rva)

abbrev pub is_after_call_arm64_in : Module → ℕ → Bool
is_after_call_arm64_in m a = has_call_before_arm64 m (option_map (λ e. e.now) m.exceptions) (a - m.base)

abbrev pub is_after_call_arm64_of : Option Module → ℕ → Bool
is_after_call_arm64_of None a = false
is_after_call_arm64_of (Some m) a = is_after_call_arm64_in m a

-- an address is one after a call, in the module that has the last byte of the call
abbrev pub is_after_call_arm64 : List Module → ℕ → Bool
is_after_call_arm64 modules a = is_after_call_arm64_of (module_at modules (a - 1)) a

-- the same in an executable section
abbrev pub is_code_return_arm64_of : Option Module → ℕ → Bool
is_code_return_arm64_of None a = false
is_code_return_arm64_of (Some m) a = is_executable m.sections.now (a - m.base - 1) && is_after_call_arm64_in m a

abbrev pub is_code_return_arm64 : List Module → ℕ → Bool
is_code_return_arm64 modules a = is_code_return_arm64_of (module_at modules (a - 1)) a
