-- Walks of a stack on ARM64: from the frame of a function to that of its caller, through the modules of a process.
use Rattle.std.specs.Prelude.{◌≡◌, ℕ, ◌+◌, ◌-◌, ◌/◌, ◌<◌, ◌==◌, ◌&&◌, ◌||◌, not, All, Bool, true, false, if◌then◌else◌, List, slice_index, slice_set, Option, Some, None, Result, Ok, Err}
use Rattle.std.specs.Option.{is_none, option_map, option_map_or, option_or}
use Rattle.pe_core.specs.Refusals.{Refusal, ◌>>=◌}
use Rattle.pe_core.specs.SectionMap.{rounded_up}
use Rattle.pe_unwind.specs.Arm64Functions.{arm64_functions}
use Rattle.pe_unwind.specs.Arm64Lookup.{FindsArm64, length_by}
use Rattle.pe_unwind.specs.Arm64Record.{Arm64InfoView}
use Rattle.pe_unwind.specs.Arm64Unwinding.{info_by}
use Rattle.pe_unwind.specs.ExceptionTable.{ExceptionView, table_of}
use Rattle.pe_unwind.specs.Lookup.{IsSortedBy}
use Rattle.pe_unwind.specs.declared.arm64.function.Arm64RuntimeFunction.{Arm64RuntimeFunction}
use Rattle.std.specs.List.{AllByRecursion}
use Rattle.pe_frame.specs.Arm64Packed.{stepped_arm64_packed}
use Rattle.pe_frame.specs.Arm64Steps.{StepsOutArm64}
use Rattle.pe_frame.specs.Arm64Undoing.{link_register, put_pc, put_sp, stripped}
use Rattle.pe_frame.specs.FrameRecords.{frame_record}
use Rattle.pe_frame.specs.FrameWalks.{FrameWalk, Process, state_of}
use Rattle.pe_frame.specs.Modules.{is_after_call_arm64, is_code, is_code_of, is_code_return_arm64, is_in_unknown, is_unknown, map_of_module, may_end_call, module_at}
use Rattle.pe_frame.specs.Scans.{first_return, most_words}
use Rattle.pe_frame.specs.Walks.{IsUnreadable, end_at_0}
use Rattle.pe_frame.specs.declared.arm64.registers.Arm64Registers.{Arm64Registers}
use Rattle.pe_frame.specs.declared.arm64.registers.TheConstants.{FRAME_POINTER}
use Rattle.pe_frame.specs.declared.arm64.walk.Arm64StackFrame.{Arm64StackFrame}
use Rattle.pe_frame.specs.declared.arm64.walk.Arm64StackFrames.{Arm64StackFrames}
use Rattle.pe_frame.specs.declared.chain.FrameRecord.{FrameRecord}
use Rattle.pe_frame.specs.declared.error.FrameError.{FrameError}
use Rattle.pe_frame.specs.declared.error.FrameError.TheVariants.{NotRising}
use Rattle.pe_frame.specs.declared.modules.Module.{Module}
use Rattle.pe_frame.specs.declared.walk.Way.{Way}
use Rattle.pe_frame.specs.declared.walk.Way.TheVariants.{Top, Records, Leaf, Interrupt, Scanned, FramePointer}
use Rattle.pe_frame.specs.declared.walk.WalkEnd.{WalkEnd}
use Rattle.pe_frame.specs.declared.walk.WalkEnd.TheVariants as ends

-- ---- a frame

-- The function of a frame has called, so that its instruction pointer is a return address. In the top frame, and in one that
-- an interrupt stopped, it is that of the instruction which is about to run. A frame that records lead to was interrupted too
-- where no call ends there: of some interrupts no record says that they are any.
abbrev pub has_called : List Module → Way → ℕ → Bool
has_called modules Top pc = false
has_called modules Records pc = is_after_call_arm64 modules pc
has_called modules Leaf pc = true
has_called modules Interrupt pc = false
has_called modules Scanned pc = true
has_called modules FramePointer pc = true

-- A frame with these registers, found in this way. It is a guess where nothing proves that it is the caller, and after one.
abbrev pub frame_of : List Module → Way → Bool → Arm64Registers → Arm64StackFrame
frame_of modules way guess g = record { registers = g; way = way; has_called = has_called modules way g.pc; is_guess = guess }

-- the address by which the function is looked up: a return address may be the end of the function, so that of the call
abbrev pub lookup_address : Arm64StackFrame → ℕ
lookup_address s = (s.registers).pc - (if s.has_called then 4 else 0)

-- how many instructions of the function are before the instruction pointer: those up to the lookup address, and the call
abbrev pub place_of : Module → Arm64RuntimeFunction → Arm64StackFrame → ℕ
place_of m f s = (lookup_address s - m.base - f.begin_address) / 4 + (if s.has_called then 1 else 0)

-- ---- what calls a frame that no records describe

-- the return address into executable code that a number is, without its signature, if it is one
abbrev pub code_return : List Module → ℕ → Option ℕ
code_return modules w = if is_code_return_arm64 modules (stripped w) then Some (stripped w) else None

-- the registers after the return to it: all but the instruction pointer and the stack pointer are as they were
abbrev pub returned_to : Arm64Registers → (ℕ × ℕ) → Arm64Registers
returned_to g found = put_pc (put_sp g (found.0 + 8)) found.1

-- the frame that a scan of the stack finds, which is a guess: by the first word from the stack pointer on, rounded up to 8, that is a
-- return address by `returns`
abbrev pub scanned_by : (ℕ → Option ℕ) → (ℕ → Option ℕ) → List Module → Arm64Registers → Option Arm64StackFrame
scanned_by returns memory modules g =
    option_map (λ found. frame_of modules Scanned true (returned_to g found)) (first_return most_words memory returns (rounded_up g.sp 8))

-- into executable code
abbrev pub scanned : (ℕ → Option ℕ) → List Module → Arm64Registers → Option Arm64StackFrame
scanned memory modules g = scanned_by (code_return modules) memory modules g

-- the caller of a leaf function goes on at the link register
abbrev pub after_leaf : Arm64Registers → Arm64Registers
after_leaf g = put_pc g (link_register g)

-- Its frame, if a test of that holds. It is a guess where no call in an executable section ends there, as after bytes of data that
-- look like one.
abbrev pub leaf_if : List Module → Bool → (ℕ → Bool) → Arm64Registers → Option Arm64StackFrame
leaf_if modules guess test g =
    if test (link_register g)
    then Some (frame_of modules Leaf (guess || not (is_code_return_arm64 modules (link_register g))) (after_leaf g)) else None

-- if a call ends there
abbrev pub leaf_frame : List Module → Bool → Arm64Registers → Option Arm64StackFrame
leaf_frame modules guess g = leaf_if modules guess (is_after_call_arm64 modules) g

-- if the image is not at hand that would say whether one does
abbrev pub leaf_without_image : List Module → Bool → Arm64Registers → Option Arm64StackFrame
leaf_without_image modules guess g = leaf_if modules guess (may_end_call modules) g

-- The frame that is found from registers without records: that of the caller of a leaf function, else by a scan. Whether the first
-- is a guess depends on what says that the function is a leaf function.
abbrev pub without_records : (ℕ → Option ℕ) → List Module → Bool → Arm64Registers → Option Arm64StackFrame
without_records memory modules guess g =
    option_or (leaf_frame modules guess g) (option_or (leaf_without_image modules guess g) (scanned memory modules g))

-- ---- chains of frame pointers

-- the return address that a number of a record is, without its signature, if it is one
abbrev pub record_return : List Module → ℕ → Option ℕ
record_return modules w =
    if is_code_return_arm64 modules (stripped w) || may_end_call modules (stripped w) then Some (stripped w) else None

-- the record to which the frame pointer leads
abbrev pub record_of : (ℕ → Option ℕ) → List Module → Arm64Registers → Option FrameRecord
record_of memory modules g = frame_record memory (record_return modules) g.sp (slice_index g.general FRAME_POINTER)

-- the registers of the caller by a record: all others are as they were
abbrev pub returned_by : Arm64Registers → FrameRecord → Arm64Registers
returned_by g r = record g {
  general = slice_set g.general FRAME_POINTER r.frame_pointer;
  sp = r.stack_pointer;
  pc = r.address;
}

-- What a leaf function returns to is taken for its caller: a call ends there, or no image says whether one does.
abbrev pub is_leaf_return : List Module → Arm64Registers → Bool
is_leaf_return modules g = is_after_call_arm64 modules (link_register g) || may_end_call modules (link_register g)

-- The frame to which its frame pointer leads from a frame without records, as a guess. From one that has not called it does so only
-- where no caller of a leaf function is found.
abbrev pub chained : (ℕ → Option ℕ) → List Module → Arm64StackFrame → Option Arm64StackFrame
chained memory modules s =
    if not s.has_called && is_leaf_return modules s.registers then None
    else option_map (λ r. frame_of modules FramePointer true (returned_by s.registers r)) (record_of memory modules s.registers)

-- ---- its caller, or why there is none

-- The caller of a frame that has not called, where neither a call nor a scan leads on: the frame may be one of a leaf function that
-- was jumped to, so that it returns to code which no call precedes. It returns to no 0 that is known for the bottom, and to no data.
abbrev pub jumped_frame : List Module → Arm64Registers → Result Arm64StackFrame WalkEnd
jumped_frame modules g =
    if link_register g == 0 then Err ends.Zero
    else (if is_code modules (link_register g) then Ok (frame_of modules Leaf true (after_leaf g)) else Err ends.NoReturnAddress)

-- The caller of a frame in no function of its module, by whether it is a guess that this is one of a leaf function. A leaf function
-- calls nothing: that of a frame which has called is found by a scan alone.
abbrev pub caller_of_leaf : (ℕ → Option ℕ) → List Module → Bool → Arm64StackFrame → Result Arm64StackFrame WalkEnd
caller_of_leaf memory modules guess s =
    if s.has_called then option_map_or Ok (scanned memory modules s.registers) (Err ends.NoFunction)
    else option_map_or Ok (without_records memory modules guess s.registers) (jumped_frame modules s.registers)

-- what is looked for first: the frame that the frame pointer leads to
abbrev pub caller_in_code : (ℕ → Option ℕ) → List Module → Bool → Arm64StackFrame → Result Arm64StackFrame WalkEnd
caller_in_code memory modules guess s = option_map_or Ok (chained memory modules s) (caller_of_leaf memory modules guess s)

-- In no module, to which a wild jump or call may lead, no frame pointer is followed.
abbrev pub found_outside : (ℕ → Option ℕ) → List Module → Arm64StackFrame → Option Arm64StackFrame
found_outside memory modules s =
    if s.has_called then scanned memory modules s.registers else without_records memory modules true s.registers

-- In a module whose image is not at hand, where that finds none, any address of such a module may be a return address: the first on
-- the stack is taken for one.
abbrev pub found_by_ranges : (ℕ → Option ℕ) → List Module → Arm64StackFrame → Option Arm64StackFrame
found_by_ranges memory modules s =
    if is_in_unknown modules (lookup_address s) then scanned_by (record_return modules) memory modules s.registers else None

-- the caller in no module, or in one whose image is not at hand
abbrev pub caller_outside : (ℕ → Option ℕ) → List Module → Arm64StackFrame → Result Arm64StackFrame WalkEnd
caller_outside memory modules s =
    option_map_or Ok (option_or (found_outside memory modules s) (found_by_ranges memory modules s)) (Err ends.NoModule)

-- the bottom of a stack: a call that returns to 0, and from there no frame is found
abbrev pub is_bottom : (ℕ → Option ℕ) → List Module → Arm64Registers → Bool
is_bottom memory modules u = u.pc == 0 && is_none (without_records memory modules true u)

-- The frame that records lead to. A function that calls has stored the link register, below the stack pointer of its caller: where
-- it stands, the walk is lost.
abbrev pub called_frame : (ℕ → Option ℕ) → List Module → Arm64StackFrame → Arm64Registers → Result Arm64StackFrame WalkEnd
called_frame memory modules s u =
    if s.has_called && u.sp == (s.registers).sp then Err (ends.Step (NotRising u.sp))
    else (if is_bottom memory modules u then Err (end_at_0 s.is_guess) else Ok (frame_of modules Records s.is_guess u))

-- what a step returned
abbrev pub frame_after : (ℕ → Option ℕ) → List Module → Arm64StackFrame → Result (Arm64Registers × Bool) FrameError → Result Arm64StackFrame WalkEnd
frame_after memory modules s (Ok (u, true)) = Ok (frame_of modules Interrupt s.is_guess u)
frame_after memory modules s (Ok (u, false)) = called_frame memory modules s u
frame_after memory modules s (Err e) = Err (ends.Step e)

-- packed unwind data stand for no interrupt
abbrev pub stepped_out_packed : (ℕ → Option ℕ) → ℕ → ℕ → Arm64Registers → Result (Arm64Registers × Bool) FrameError
stepped_out_packed memory d place g = stepped_arm64_packed memory d place g >>= λ u. Ok (u, false)

-- by the unwind record of its function, or by its packed unwind data
abbrev pub CallsByInfo : Process → Module → Arm64RuntimeFunction → Arm64StackFrame → Option (Result Arm64InfoView Refusal) → Result Arm64StackFrame WalkEnd → Type 0
CallsByInfo p m f s None answer =
    answer ≡ frame_after p.memory p.modules s (stepped_out_packed p.memory f.unwind_data (place_of m f s) s.registers)
CallsByInfo p m f s (Some (Err r)) answer = IsUnreadable r answer
CallsByInfo p m f s (Some (Ok i)) answer =
    (left : Result (Arm64Registers × Bool) FrameError) × StepsOutArm64 p.memory i (place_of m f s) s.registers left
    × (answer ≡ frame_after p.memory p.modules s left)

-- Where lookup finds no function, the table of a module says that the function of a frame is a leaf function: of code alone.
abbrev pub leaf_is_guess : Module → Arm64StackFrame → Bool
leaf_is_guess m s = s.is_guess || not (is_code_of (Some m) (lookup_address s))

-- By the function that lookup found, if it found one; lookup reads the length of a function from its record.
abbrev pub CallsFound : Process → Module → ExceptionView → Arm64StackFrame → Result (Option Arm64RuntimeFunction) Refusal → Result Arm64StackFrame WalkEnd → Type 0
CallsFound p m e s (Err r) answer = IsUnreadable r answer
CallsFound p m e s (Ok None) answer = answer ≡ caller_in_code p.memory p.modules (leaf_is_guess m s) s
CallsFound p m e s (Ok (Some f)) answer = CallsByInfo p m f s (info_by (map_of_module m e) e.content f) answer

-- the length of each function of a module
abbrev pub length_in : Module → ExceptionView → Arm64RuntimeFunction → Result ℕ Refusal
length_in m e = length_by (map_of_module m e) e.content

-- In a module without exception data: nothing says which of its functions are leaf functions. One whose image is not at hand is as no
-- module, so that the end says so, but its frame pointer is followed, since Windows keeps one.
abbrev pub caller_without_table : (ℕ → Option ℕ) → List Module → Module → Arm64StackFrame → Result Arm64StackFrame WalkEnd
caller_without_table memory modules m s =
    option_map_or Ok (chained memory modules s)
    (if is_unknown m then caller_outside memory modules s else caller_of_leaf memory modules true s)

-- by the exception data of a module
abbrev pub CallsBy : Process → Module → Arm64StackFrame → Option ExceptionView → Result Arm64StackFrame WalkEnd → Type 0
CallsBy p m s None answer = answer ≡ caller_without_table p.memory p.modules m s
CallsBy p m s (Some e) answer =
    (found : Result (Option Arm64RuntimeFunction) Refusal)
    × FindsArm64 (length_in m e) (arm64_functions (table_of e)) (lookup_address s - m.base) found
    × CallsFound p m e s found answer

-- in the module that has the address, if one does
abbrev pub CallsIn : Process → Arm64StackFrame → Option Module → Result Arm64StackFrame WalkEnd → Type 0
CallsIn p s None answer = answer ≡ caller_outside p.memory p.modules s
CallsIn p s (Some m) answer = CallsBy p m s (option_map (λ e. e.now) m.exceptions) answer

-- the frame of the caller of a frame, or why there is none
abbrev pub Calls : Process → Arm64StackFrame → Result Arm64StackFrame WalkEnd → Type 0
Calls p s answer = CallsIn p s (module_at p.modules (lookup_address s)) answer

-- ---- the iterator

-- where it is, by what its type of memory knows
abbrev pub walk_of : {M : Type 0} → (M → ℕ → Option ℕ) → Arm64StackFrames M → FrameWalk Process Arm64StackFrame
walk_of word s = state_of (record { memory = word s.memory.now; modules = s.modules.modules.now }) s.position

-- the top frame, with the registers of a thread
abbrev pub top_frame : Arm64Registers → Arm64StackFrame
top_frame g = record { registers = g; way = Top; has_called = false; is_guess = false }

-- ---- what decides a walk

-- the function table of each module is sorted, so that lookup finds what a linear scan finds
abbrev pub HasSortedTable : Option ExceptionView → Type 0
HasSortedTable None = Unit {0}
HasSortedTable (Some e) = IsSortedBy (λ f. f.begin_address) (arm64_functions (table_of e))

abbrev pub IsSortedModule : Module → Type 0
IsSortedModule m = HasSortedTable (option_map (λ e. e.now) m.exceptions)

abbrev pub AreSortedModules : List Module → Type 0
AreSortedModules modules = AllByRecursion IsSortedModule modules

-- ---- bytes

-- the bytes of each module that has exception data are numbers below 256, as those of a slice are
abbrev pub HasBytes : Option ExceptionView → Type 0
HasBytes None = Unit {0}
HasBytes (Some e) = All (λ x. x < 256) e.content

abbrev pub IsModuleOfBytes : Module → Type 0
IsModuleOfBytes m = HasBytes (option_map (λ e. e.now) m.exceptions)

abbrev pub AreModulesOfBytes : List Module → Type 0
AreModulesOfBytes modules = AllByRecursion IsModuleOfBytes modules
