-- Walks of a stack on x64: from the frame of a function to that of its caller, through the modules of a process.
use Rattle.std.specs.Prelude.{◌≡◌, ℕ, ◌+◌, ◌-◌, ◌==◌, ◌&&◌, ◌||◌, not, Bool, true, false, if◌then◌else◌, List, [], slice_index, Option, Some, None, Result, Ok, Err, nat_le, nat_lt}
use Rattle.std.specs.List.{AllByRecursion}
use Rattle.std.specs.Option.{is_none, option_and_then, option_map, option_map_or, option_or}
use Rattle.pe_core.specs.Refusals.{Refusal, kind_of}
use Rattle.pe_core.specs.SectionMap.{rounded_up}
use Rattle.pe_unwind.specs.ExceptionTable.{ExceptionView, table_of}
use Rattle.pe_unwind.specs.FunctionTable.{functions, Finds, NeverFalls}
use Rattle.pe_unwind.specs.Links.{links_with}
use Rattle.pe_unwind.specs.Lookup.{FindsStart}
use Rattle.pe_unwind.specs.UnwindRecord.{UnwindInfoView}
use Rattle.pe_unwind.specs.declared.function_table.RuntimeFunction.{RuntimeFunction}
use Rattle.pe_plan.specs.ShortPlans.{PlansShort}
use Rattle.pe_frame.specs.FrameWalks.{FrameWalk, Process, state_of}
use Rattle.pe_frame.specs.Jumps.{StepsInImage}
use Rattle.pe_frame.specs.FrameRecords.{frame_record}
use Rattle.pe_frame.specs.Modules.{module_at, map_of_module, code_in, is_after_call, is_code, is_code_of, is_code_return, is_in_unknown, is_unknown, may_end_call, call_target}
use Rattle.pe_frame.specs.Scans.{first_return, highest_call, most_words}
use Rattle.pe_frame.specs.Steps.{ErrorKind, error_kind}
use Rattle.pe_frame.specs.Undoing.{stack_pointer, popped, put_register, put_rip}
use Rattle.pe_frame.specs.declared.chain.FrameRecord.{FrameRecord}
use Rattle.pe_frame.specs.declared.error.FrameError.{FrameError}
use Rattle.pe_frame.specs.declared.modules.Module.{Module}
use Rattle.pe_frame.specs.declared.registers.Registers.{Registers}
use Rattle.pe_frame.specs.declared.walk.Gap.{Gap}
use Rattle.pe_frame.specs.declared.walk.StackFrame.{StackFrame}
use Rattle.pe_frame.specs.declared.walk.StackFrames.{StackFrames}
use Rattle.pe_frame.specs.declared.walk.Way.{Way}
use Rattle.pe_frame.specs.declared.walk.Way.TheVariants.{Top, Records, Leaf, Interrupt, Scanned, FramePointer}
use Rattle.pe_frame.specs.declared.walk.WalkEnd.{WalkEnd}
use Rattle.pe_frame.specs.declared.walk.WalkEnd.TheVariants as ends
use Rattle.pe_frame.specs.declared.registers.TheConstants.{RSP, RBP}

-- ---- a frame

-- The function of a frame has called, so that its instruction pointer is a return address. In the top frame, and in one that
-- an interrupt stopped, it is that of the instruction which is about to run. A frame that records lead to was interrupted too
-- where no call ends there: of some interrupts no record says that they are any.
abbrev pub has_called : List Module → Way → ℕ → Bool
has_called modules Top rip = false
has_called modules Records rip = is_after_call modules rip
has_called modules Leaf rip = true
has_called modules Interrupt rip = false
has_called modules Scanned rip = true
has_called modules FramePointer rip = true

-- A frame is the top frame, or one that records lead to: by itself it is no guess.
abbrev pub by_records : Way → Bool
by_records Top = true
by_records Records = true
by_records Leaf = false
by_records Interrupt = true
by_records Scanned = false
by_records FramePointer = false

-- It is one that words of the stack lead to, without records or a leaf function: by itself it is a guess.
abbrev pub by_words : Way → Bool
by_words Top = false
by_words Records = false
by_words Leaf = false
by_words Interrupt = false
by_words Scanned = true
by_words FramePointer = true

-- A frame with these registers, found in this way. It is a guess where nothing proves that it is the caller, and after one.
abbrev pub frame_of : List Module → Way → Bool → Registers → StackFrame
frame_of modules way guess g = record { registers = g; way = way; has_called = has_called modules way g.rip; is_guess = guess }

-- the address by which the function is looked up: a return address may be the end of the function, so the byte before it
abbrev pub lookup_address : StackFrame → ℕ
lookup_address s = (s.registers).rip - (if s.has_called then 1 else 0)

-- the code by which an epilog is known: after a call there is none
abbrev pub code_of_frame : Module → ExceptionView → ℕ → StackFrame → List ℕ
code_of_frame m e end s = if s.has_called then [] else code_in m e ((s.registers).rip - m.base) end

-- ---- what calls a frame that no records describe

-- the return address into executable code that a number is, if it is one
abbrev pub code_return : List Module → ℕ → Option ℕ
code_return modules w = if is_code_return modules w then Some w else None

-- the registers after the return to it: all but the instruction pointer and the stack pointer are as they were
abbrev pub returned_to : Registers → (ℕ × ℕ) → Registers
returned_to g found = put_rip (put_register g RSP (found.0 + 8)) found.1

-- the frame that a scan of the stack finds by a return address and where it stands: a guess
abbrev pub scanned_frame : List Module → Registers → (ℕ × ℕ) → StackFrame
scanned_frame modules g found = frame_of modules Scanned true (returned_to g found)

-- that of the first word from the stack pointer on, rounded up to 8, that is a return address by `returns`
abbrev pub scanned_by : (ℕ → Option ℕ) → (ℕ → Option ℕ) → List Module → Registers → Option StackFrame
scanned_by returns memory modules g =
    option_map (scanned_frame modules g) (first_return most_words memory returns (rounded_up (stack_pointer g) 8))

-- into executable code
abbrev pub scanned : (ℕ → Option ℕ) → List Module → Registers → Option StackFrame
scanned memory modules g = scanned_by (code_return modules) memory modules g

-- The caller of a leaf function, which has the return address at the stack pointer, if a test of that holds. It is a guess where no
-- call in an executable section ends there, as after bytes of data that look like one.
abbrev pub leaf_if : List Module → Bool → (ℕ → Bool) → Result Registers FrameError → Option StackFrame
leaf_if modules guess test (Ok u) =
    if test u.rip then Some (frame_of modules Leaf (guess || not (is_code_return modules u.rip)) u) else None
leaf_if modules guess test (Err e) = None

-- if a call ends there
abbrev pub leaf_frame : List Module → Bool → Result Registers FrameError → Option StackFrame
leaf_frame modules guess popped = leaf_if modules guess (is_after_call modules) popped

-- if the image is not at hand that would say whether one does
abbrev pub leaf_without_image : List Module → Bool → Result Registers FrameError → Option StackFrame
leaf_without_image modules guess popped = leaf_if modules guess (may_end_call modules) popped

-- ---- chains of frame pointers

-- the frame pointer, where the code keeps one
abbrev pub frame_pointer : Registers → ℕ
frame_pointer g = slice_index g.general RBP

-- The return address that a number of a record is, if it is one: into executable code, or into an image that is not at hand.
abbrev pub record_return : List Module → ℕ → Option ℕ
record_return modules w = if is_code_return modules w || may_end_call modules w then Some w else None

-- the record to which the frame pointer leads
abbrev pub record_of : (ℕ → Option ℕ) → List Module → Registers → Option FrameRecord
record_of memory modules g = frame_record memory (record_return modules) (stack_pointer g) (frame_pointer g)

-- the registers of the caller by a record: all others are as they were
abbrev pub returned_by : Registers → FrameRecord → Registers
returned_by g r = put_rip (put_register (put_register g RSP r.stack_pointer) RBP r.frame_pointer) r.address

-- What a leaf function returns to is taken for its caller: a call ends there, or no image says whether one does.
abbrev pub is_leaf_return : List Module → Result Registers FrameError → Bool
is_leaf_return modules (Ok u) = is_after_call modules u.rip || may_end_call modules u.rip
is_leaf_return modules (Err e) = false

-- The frame to which its frame pointer leads from a frame without records, as a guess. From one that has not called it does so only
-- where no caller of a leaf function is found.
abbrev pub chained : (ℕ → Option ℕ) → List Module → StackFrame → Option StackFrame
chained memory modules s =
    if not s.has_called && is_leaf_return modules (popped memory s.registers) then None
    else option_map (λ r. frame_of modules FramePointer true (returned_by s.registers r)) (record_of memory modules s.registers)

-- ---- without records

-- The frame that is found from registers without records: that of the caller of a leaf function, else by a scan. Whether the first
-- is a guess depends on what says that the function is a leaf function.
abbrev pub without_records : (ℕ → Option ℕ) → List Module → Bool → Registers → Option StackFrame
without_records memory modules guess g =
    option_or (leaf_frame modules guess (popped memory g))
    (option_or (leaf_without_image modules guess (popped memory g)) (scanned memory modules g))

-- ---- its caller, or why there is none

-- records that cannot be read
abbrev pub IsUnreadable : {F : Type 0} → Refusal → Result F WalkEnd → Type 0
IsUnreadable r (Ok s) = ⊥
IsUnreadable r (Err (ends.Records e)) = kind_of e ≡ r
IsUnreadable r (Err other) = ⊥

-- the bottom of a stack: a call that returns to 0, and from there no frame is found
abbrev pub is_bottom : (ℕ → Option ℕ) → List Module → Registers → Bool
is_bottom memory modules u = u.rip == 0 && is_none (without_records memory modules true u)

-- the end of a walk that comes to 0: the stack is whole only where no frame on the way is a guess
abbrev pub end_at_0 : Bool → WalkEnd
end_at_0 guess = if guess then ends.Zero else ends.Bottom

-- what a step returned from a frame, by whether that is a guess
abbrev pub frame_after : (ℕ → Option ℕ) → List Module → Bool → Result (Registers × Bool) FrameError → Result StackFrame WalkEnd
frame_after memory modules guess (Ok (u, true)) = Ok (frame_of modules Interrupt guess u)
frame_after memory modules guess (Ok (u, false)) =
    if is_bottom memory modules u then Err (end_at_0 guess) else Ok (frame_of modules Records guess u)
frame_after memory modules guess (Err e) = Err (ends.Step e)

-- what a step from a frame returns, by the records of its function
abbrev pub StepsFromFrame : (ℕ → Option ℕ) → Module → ExceptionView → RuntimeFunction → List UnwindInfoView → StackFrame → Result (Registers × Bool) FrameError → Type 0
StepsFromFrame memory m e f plan s left =
    StepsInImage e (map_of_module m e) memory plan f.begin_address ((s.registers).rip - m.base) (code_of_frame m e f.end_address s) s.registers left

-- by the records of its function
abbrev pub CallsByPlan : (ℕ → Option ℕ) → List Module → Module → ExceptionView → RuntimeFunction → StackFrame → Result (Option (List UnwindInfoView)) Refusal → Result StackFrame WalkEnd → Type 0
CallsByPlan memory modules m e f s (Err r) answer = IsUnreadable r answer
CallsByPlan memory modules m e f s (Ok None) answer = answer ≡ Err ends.LongChain
CallsByPlan memory modules m e f s (Ok (Some plan)) answer =
    (left : Result (Registers × Bool) FrameError) × StepsFromFrame memory m e f plan s left
    × (answer ≡ frame_after memory modules s.is_guess left)

-- The caller of a frame that has not called, where neither a call nor a scan leads on: the frame may be one of a leaf function that
-- was jumped to, so that it returns to code which no call precedes. It returns to no 0 that is known for the bottom, and to no data.
abbrev pub after_leaf : List Module → Result Registers FrameError → Result StackFrame WalkEnd
after_leaf modules (Ok u) =
    if u.rip == 0 then Err ends.Zero
    else (if is_code modules u.rip then Ok (frame_of modules Leaf true u) else Err ends.NoReturnAddress)
after_leaf modules (Err e) = Err (ends.Step e)

-- The caller of a frame in no function of its module, by whether it is a guess that this is one of a leaf function. A leaf function
-- calls nothing: that of a frame which has called is found by a scan alone.
abbrev pub caller_of_leaf : (ℕ → Option ℕ) → List Module → Bool → StackFrame → Result StackFrame WalkEnd
caller_of_leaf memory modules guess s =
    if s.has_called then option_map_or Ok (scanned memory modules s.registers) (Err ends.NoFunction)
    else option_map_or Ok (without_records memory modules guess s.registers) (after_leaf modules (popped memory s.registers))

-- ---- the caller of a frame in code that no entry of the function table covers

-- That code, up to where the frame is: it starts at the end of the last entry that starts at or before that, or with the image.
abbrev pub gap_of : Module → StackFrame → Option RuntimeFunction → Gap
gap_of m s last =
    record { last = lookup_address s; before = lookup_address s - m.base - option_map_or (λ f. f.end_address) last 0 }

-- by the entry to which lookup comes
abbrev pub IsGap : Module → ExceptionView → StackFrame → Gap → Type 0
IsGap m e s gap =
    (last : Option RuntimeFunction) × FindsStart (λ f. f.begin_address) (functions (table_of e)) (lookup_address s - m.base) last
    × (gap ≡ gap_of m s last)

-- an address is in it, so that the function of the frame may start there
abbrev pub is_in_gap : Gap → ℕ → Bool
is_in_gap gap a = nat_le a gap.last && nat_le (gap.last - a) gap.before

-- where the call leads that ends at a number, if it leads there
abbrev pub gap_target : List Module → Gap → ℕ → Option ℕ
gap_target modules gap w =
    option_and_then (λ target. if is_in_gap gap target then Some target else None) (call_target modules w)

-- The frame that a scan finds by the call into the gap that leads highest: to the start that is nearest before the frame.
abbrev pub scanned_in_gap : (ℕ → Option ℕ) → List Module → Gap → Registers → Option StackFrame
scanned_in_gap memory modules gap g =
    option_map (λ c. scanned_frame modules g (c.address, c.word))
    (highest_call most_words memory (gap_target modules gap) (rounded_up (stack_pointer g) 8))

-- of two frames the one that is lower on the stack, of two at one address the second
abbrev pub lower_frame : Option StackFrame → Option StackFrame → Option StackFrame
lower_frame None t = t
lower_frame (Some s) None = Some s
lower_frame (Some s) (Some t) = if nat_lt (stack_pointer s.registers) (stack_pointer t.registers) then Some s else Some t

-- What is looked for first: the caller of a leaf function, if a call ends at its return address, then of the frames that a scan finds
-- by a call into the gap and that the frame pointer leads to the lower one. Code that keeps no frame pointer leaves that of its
-- caller, whose record is above the call.
abbrev pub called_in_gap : (ℕ → Option ℕ) → List Module → Bool → Gap → StackFrame → Option StackFrame
called_in_gap memory modules guess gap s =
    option_or (if s.has_called then None else leaf_frame modules guess (popped memory s.registers))
    (lower_frame (scanned_in_gap memory modules gap s.registers) (chained memory modules s))

-- its caller, without such a frame as in any other code
abbrev pub caller_in_gap : (ℕ → Option ℕ) → List Module → Bool → Gap → StackFrame → Result StackFrame WalkEnd
caller_in_gap memory modules guess gap s =
    option_map_or Ok (called_in_gap memory modules guess gap s) (caller_of_leaf memory modules guess s)

-- In code of a module without function table what is looked for first is the frame that the frame pointer leads to.
abbrev pub caller_in_code : (ℕ → Option ℕ) → List Module → Bool → StackFrame → Result StackFrame WalkEnd
caller_in_code memory modules guess s = option_map_or Ok (chained memory modules s) (caller_of_leaf memory modules guess s)

-- In no module, to which a wild jump or call may lead, nothing speaks for a leaf function, and no frame pointer is followed.
abbrev pub found_outside : (ℕ → Option ℕ) → List Module → StackFrame → Option StackFrame
found_outside memory modules s =
    if s.has_called then scanned memory modules s.registers else without_records memory modules true s.registers

-- In a module whose image is not at hand, where that finds none, any address of such a module may be a return address: one to which
-- the frame pointer leads, else the first on the stack.
abbrev pub found_by_ranges : (ℕ → Option ℕ) → List Module → StackFrame → Option StackFrame
found_by_ranges memory modules s =
    if is_in_unknown modules (lookup_address s)
    then option_or (chained memory modules s) (scanned_by (record_return modules) memory modules s.registers) else None

-- the caller in no module, or in one whose image is not at hand
abbrev pub caller_outside : (ℕ → Option ℕ) → List Module → StackFrame → Result StackFrame WalkEnd
caller_outside memory modules s =
    option_map_or Ok (option_or (found_outside memory modules s) (found_by_ranges memory modules s)) (Err ends.NoModule)

-- Where lookup finds no function, the table of a module says that the function of a frame is a leaf function: of code alone.
abbrev pub leaf_is_guess : Module → StackFrame → Bool
leaf_is_guess m s = s.is_guess || not (is_code_of (Some m) (lookup_address s))

-- By the function that lookup found, if it found one.
abbrev pub CallsFound : (ℕ → Option ℕ) → List Module → Module → ExceptionView → StackFrame → Option RuntimeFunction → Result StackFrame WalkEnd → Type 0
CallsFound memory modules m e s None answer =
    (gap : Gap) × IsGap m e s gap × (answer ≡ caller_in_gap memory modules (leaf_is_guess m s) gap s)
CallsFound memory modules m e s (Some f) answer =
    (plan : Result (Option (List UnwindInfoView)) Refusal)
    × PlansShort (links_with e (map_of_module m e)) e.content f plan × CallsByPlan memory modules m e f s plan answer

-- In a module without exception data: nothing says which of its functions are leaf functions. One whose image is not at hand is as no
-- module, so that the end says so.
abbrev pub caller_without_table : (ℕ → Option ℕ) → List Module → Module → StackFrame → Result StackFrame WalkEnd
caller_without_table memory modules m s =
    if is_unknown m then caller_outside memory modules s else caller_in_code memory modules true s

-- by the exception data of a module
abbrev pub CallsBy : (ℕ → Option ℕ) → List Module → Module → StackFrame → Option ExceptionView → Result StackFrame WalkEnd → Type 0
CallsBy memory modules m s None answer = answer ≡ caller_without_table memory modules m s
CallsBy memory modules m s (Some e) answer =
    (found : Option RuntimeFunction) × Finds (functions (table_of e)) (lookup_address s - m.base) found
    × CallsFound memory modules m e s found answer

-- in the module that has the address, if one does
abbrev pub CallsIn : (ℕ → Option ℕ) → List Module → StackFrame → Option Module → Result StackFrame WalkEnd → Type 0
CallsIn memory modules s None answer = answer ≡ caller_outside memory modules s
CallsIn memory modules s (Some m) answer = CallsBy memory modules m s (option_map (λ e. e.now) m.exceptions) answer

-- the frame of the caller of a frame, or why there is none
abbrev pub Calls : Process → StackFrame → Result StackFrame WalkEnd → Type 0
Calls p s answer = CallsIn p.memory p.modules s (module_at p.modules (lookup_address s)) answer

-- ---- the iterator

-- where it is, by what its type of memory knows
abbrev pub walk_of : {M : Type 0} → (M → ℕ → Option ℕ) → StackFrames M → FrameWalk Process StackFrame
walk_of word s = state_of (record { memory = word s.memory.now; modules = s.modules.modules.now }) s.position

-- the top frame, with the registers of a thread
abbrev pub top_frame : Registers → StackFrame
top_frame g = record { registers = g; way = Top; has_called = false; is_guess = false }

-- ---- what decides a walk

-- the function table of each module is sorted, so that lookup finds what a linear scan finds
abbrev pub HasSortedTable : Option ExceptionView → Type 0
HasSortedTable None = Unit {0}
HasSortedTable (Some e) = NeverFalls (functions (table_of e))

abbrev pub IsSortedModule : Module → Type 0
IsSortedModule m = HasSortedTable (option_map (λ e. e.now) m.exceptions)

abbrev pub AreSortedModules : List Module → Type 0
AreSortedModules modules = AllByRecursion IsSortedModule modules

-- a reason without the numbers in a refusal
pub data EndKind : Type 0 where
  OfRecords : Refusal → EndKind
  OfError : ErrorKind → EndKind
  OfEnd : WalkEnd → EndKind

abbrev pub end_kind : WalkEnd → EndKind
end_kind (ends.Records e) = OfRecords (kind_of e)
end_kind (ends.Step e) = OfError (error_kind e)
end_kind other = OfEnd other

-- a frame, or the kind of a reason
abbrev pub by_end_kind : {F : Type 0} → Result F WalkEnd → Result F EndKind
by_end_kind (Ok s) = Ok s
by_end_kind (Err e) = Err (end_kind e)
