use Rattle.std.proofs.Common.{◌≢◌, ℕ, ◌-◌, List, Option, Some, None, Result, Ok, Err, refl, ap, ◌≡◌, Bool, cond, ◌∷◌, arith, rules, []}
use Rattle.pe_frame.proofs.Cited.{find, option_map, Refusal, Memory, ExceptionView, table_of, functions, NeverFalls, links_with}
use Rattle.pe_frame.proofs.Cited.{UnwindInfoView, RuntimeFunction, RecordLaw, epilog_at, Process, module_at, map_of_module, by_kind}
use Rattle.pe_frame.proofs.Cited.{CallsByPlan, code_of_frame, frame_after, leaf_is_guess, caller_outside, IsGap, caller_in_gap, gap_of}
use Rattle.pe_frame.proofs.Cited.{AreSortedModules, HasSortedTable, IsSortedModule, IsUnreadable, OfRecords, by_end_kind, FrameError}
use Rattle.pe_frame.proofs.Cited.{Module, Registers, Gap, StackFrame, WalkEnd}
use Rattle.pe_frame.specs.Walks.{Calls, CallsBy, CallsFound, CallsIn, caller_without_table, lookup_address}
use Rattle.pe_frame.proofs.Jumps.{some_in_image, one_in_image}
use Rattle.pe_frame.proofs.OneShortPlan.{one_short_plan}
use Rattle.pe_frame.proofs.SomeError.{some_error}
use Rattle.pe_frame.proofs.SomeFunction.{some_function, some_start}
use Rattle.pe_frame.proofs.SomeShortPlan.{some_short_plan}
use Rattle.pe_frame.proofs.FrameWalks.{one_walk, some_walk}
use Rattle.pe_frame.specs.declared.walk.WalkEnd.TheVariants as ends
use Rattle.pe_frame.proofs.laws.walks.one_result_of_walks.Goals as goal

-- Each frame has one caller, up to the numbers in a refusal.

-- ---- one step

same_frame : (memory : ℕ → Option ℕ) (modules : List Module) (guess : Bool) (x y : Result (Registers × Bool) FrameError) → by_kind x ≡ by_kind y → by_end_kind (frame_after memory modules guess x) ≡ by_end_kind (frame_after memory modules guess y)
same_frame memory modules guess x y e = search (rules, arith)

-- ---- one caller

unreadable : (r : Refusal) (x : Result StackFrame WalkEnd) → IsUnreadable r x → by_end_kind x ≡ Err (OfRecords r)
unreadable r x h = search (rules, arith)

one_by_plan : (law : RecordLaw) (memory : ℕ → Option ℕ) (modules : List Module) (m : Module) (e : ExceptionView) (f : RuntimeFunction) (s : StackFrame) (plan : Result (Option (List UnwindInfoView)) Refusal) (x y : Result StackFrame WalkEnd) → NeverFalls (functions (table_of e)) → CallsByPlan memory modules m e f s plan x → CallsByPlan memory modules m e f s plan y → by_end_kind x ≡ by_end_kind y
one_by_plan law memory modules m e f s plan x y sorted h k = search (rules, arith, unreadable, one_in_image, same_frame)

one_gap : (m : Module) (e : ExceptionView) (s : StackFrame) (x y : Gap) → NeverFalls (functions (table_of e)) → IsGap m e s x → IsGap m e s y → x ≡ y
one_gap m e s x y sorted h k = search (rules, arith)

one_found : (law : RecordLaw) (memory : ℕ → Option ℕ) (modules : List Module) (m : Module) (e : ExceptionView) (s : StackFrame) (found : Option RuntimeFunction) (x y : Result StackFrame WalkEnd) → NeverFalls (functions (table_of e)) → CallsFound memory modules m e s found x → CallsFound memory modules m e s found y → by_end_kind x ≡ by_end_kind y
one_found law memory modules m e s found x y sorted h k = search (rules, arith, one_gap, one_short_plan, one_by_plan)

one_by : (law : RecordLaw) (memory : ℕ → Option ℕ) (modules : List Module) (m : Module) (s : StackFrame) (o : Option ExceptionView) (x y : Result StackFrame WalkEnd) → HasSortedTable o → CallsBy memory modules m s o x → CallsBy memory modules m s o y → by_end_kind x ≡ by_end_kind y
one_by law memory modules m s o x y sorted h k = search (rules, arith, one_found)

abbrev IsSortedFound : Option Module → Type 0
IsSortedFound None = Unit {0}
IsSortedFound (Some m) = IsSortedModule m

one_in : (law : RecordLaw) (memory : ℕ → Option ℕ) (modules : List Module) (s : StackFrame) (o : Option Module) (x y : Result StackFrame WalkEnd) → IsSortedFound o → CallsIn memory modules s o x → CallsIn memory modules s o y → by_end_kind x ≡ by_end_kind y
one_in law memory modules s o x y sorted h k = search (rules, arith, one_by)

sorted_one : (m : Module) (rest : Option Module) (t : Bool) → IsSortedModule m → IsSortedFound rest → IsSortedFound (cond t (Some m) rest)
sorted_one m rest t one others = search (rules, arith)

sorted_found : (p : Module → Bool) (modules : List Module) → AreSortedModules modules → IsSortedFound (find p modules)
sorted_found p [] sorted = tt
sorted_found p (m ∷ ms) sorted = sorted_one m (find p ms) (p m) sorted.0 (sorted_found p ms sorted.1)

one_caller : (law : RecordLaw) (p : Process) → AreSortedModules p.modules → (s : StackFrame) (x y : Result StackFrame WalkEnd) → Calls p s x → Calls p s y → by_end_kind x ≡ by_end_kind y
one_caller law p sorted s x y h k = search (rules, arith, one_in, sorted_found)

abbrev Caller : (Result StackFrame WalkEnd → Type 0) → Type 0
Caller Is = (answer : Result StackFrame WalkEnd) × Is answer

some_by_plan : (law : RecordLaw) (memory : ℕ → Option ℕ) (modules : List Module) (m : Module) (e : ExceptionView) (f : RuntimeFunction) (s : StackFrame) (plan : Result (Option (List UnwindInfoView)) Refusal) → plan ≢ Err Memory → Caller (CallsByPlan memory modules m e f s plan)
some_by_plan law memory modules m e f s (Err r) other =
    let error = some_error r (λ same. other (ap (λ (k : Refusal). Err k) same)) in
    (Err (ends.Records error.0), error.1)
some_by_plan law memory modules m e f s (Ok None) other = (Err ends.LongChain, refl)
some_by_plan law memory modules m e f s (Ok (Some plan)) other =
    let left = some_in_image law e (map_of_module m e) (epilog_at plan f.begin_address ((s.registers).rip - m.base) (code_of_frame m e f.end_address s)) memory plan ((s.registers).rip - m.base - f.begin_address) s.registers in
    (frame_after memory modules s.is_guess left.0, (left.0, left.1, refl))

some_gap : (m : Module) (e : ExceptionView) (s : StackFrame) → (gap : Gap) × IsGap m e s gap
some_gap m e s =
    let last = some_start (λ f. f.begin_address) (lookup_address s - m.base) (functions (table_of e)) in
    (gap_of m s last.0, (last.0, last.1, refl))

some_found : (law : RecordLaw) (memory : ℕ → Option ℕ) (modules : List Module) (m : Module) (e : ExceptionView) (s : StackFrame) (found : Option RuntimeFunction) → Caller (CallsFound memory modules m e s found)
some_found law memory modules m e s None =
    let gap = some_gap m e s in
    (caller_in_gap memory modules (leaf_is_guess m s) gap.0 s, (gap.0, gap.1, refl))
some_found law memory modules m e s (Some f) =
    let plan = some_short_plan law (links_with e (map_of_module m e)) e.content f in
    let caller = some_by_plan law memory modules m e f s plan.0 plan.2 in
    (caller.0, (plan.0, plan.1, caller.1))

some_by : (law : RecordLaw) (memory : ℕ → Option ℕ) (modules : List Module) (m : Module) (s : StackFrame) (o : Option ExceptionView) → Caller (CallsBy memory modules m s o)
some_by law memory modules m s None = (caller_without_table memory modules m s, refl)
some_by law memory modules m s (Some e) =
    let found = some_function (table_of e) (lookup_address s - m.base) in
    let caller = some_found law memory modules m e s found.0 in
    (caller.0, (found.0, found.1, caller.1))

some_in : (law : RecordLaw) (memory : ℕ → Option ℕ) (modules : List Module) (s : StackFrame) (o : Option Module) → Caller (CallsIn memory modules s o)
some_in law memory modules s None = (caller_outside memory modules s, refl)
some_in law memory modules s (Some m) = some_by law memory modules m s (option_map (λ e. e.now) m.exceptions)

some_caller : (law : RecordLaw) (p : Process) (s : StackFrame) → Caller (Calls p s)
some_caller law p s = some_in law p.memory p.modules s (module_at p.modules (lookup_address s))

pub returns : goal.returns
returns c =
    let law : RecordLaw = record {
      exists = c.one_record_of_addresses.ensures.exists;
      one = c.one_record_of_addresses.ensures.one;
      cycle = c.one_record_of_addresses.ensures.cycle;
      no_memory = c.one_record_of_addresses.ensures.no_memory;
    } in
    record {
      exists = λ w. some_walk Calls w (some_caller law w.process);
      one = λ w frames others end other sorted h k. one_walk Calls w frames others end other (one_caller law w.process sorted) h k;
    }
