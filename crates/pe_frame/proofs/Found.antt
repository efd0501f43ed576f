-- The frames that a step of a walk finds, and where it comes to the bottom.
use Rattle.std.proofs.Common.{◌++◌, ◌≡◌, ◌-◌, ◌⊎◌, inl, ℕ, ◌||◌, ◌&&◌, not, nat_lt, Bool, true, false, cond, List, Option, Some, None, Result, Ok, Err, refl, ap, sym, subst, arith, rules}
use Rattle.pe_frame.proofs.Cited.{eqb-true, AllByRecursion, is_none, option_map, option_map_or, option_or, both, Refusal, ExceptionView}
use Rattle.pe_frame.proofs.Cited.{UnwindInfoView, RuntimeFunction, StepsInImage, is_after_call, is_after_call_of, is_code_of}
use Rattle.pe_frame.proofs.Cited.{is_code_return, is_code_return_of, is_in_unknown, is_unknown, may_end_call, module_at, map_of_module}
use Rattle.pe_frame.proofs.Cited.{popped, IsWalk, Process, starting_walk, CallsByPlan, after_leaf, by_records, by_words, chained}
use Rattle.pe_frame.proofs.Cited.{code_of_frame, code_return, end_at_0, frame_after, frame_of, has_called, is_bottom, caller_of_leaf}
use Rattle.pe_frame.proofs.Cited.{leaf_frame, leaf_if, leaf_is_guess, is_leaf_return, leaf_without_image, lower_frame, caller_outside}
use Rattle.pe_frame.proofs.Cited.{found_outside, found_by_ranges, record_of, record_return, returned_by, scanned, scanned_by, top_frame}
use Rattle.pe_frame.proofs.Cited.{without_records, called_in_gap, caller_in_gap, scanned_in_gap, FrameRecord, FrameError, Module, Registers}
use Rattle.pe_frame.proofs.Cited.{Gap, StackFrame, Way, Records, Leaf, Interrupt, FramePointer, WalkEnd}
use Rattle.pe_frame.specs.Walks.{Calls, CallsBy, CallsFound, CallsIn, caller_in_code, lookup_address}
use Rattle.pe_frame.specs.declared.walk.WalkEnd.TheVariants as ends
use Rattle.pe_frame.proofs.FrameWalks.{frames_keep, sure_frames}

-- ---- how a frame is made

abbrev IsMade : List Module → StackFrame → Type 0
IsMade modules t = (way : Way) × (guess : Bool) × (u : Registers) × (t ≡ frame_of modules way guess u)

says : (modules : List Module) (t : StackFrame) → IsMade modules t → t.has_called ≡ has_called modules t.way (t.registers).rip
says modules t made = cc

-- ---- a frame, and that before it

-- Records led on, or words of the stack, or the frame before it has not called. What words led to is a guess, and what follows a
-- guess; what records lead to follows one.
pub record IsNext (modules : List Module) (s t : StackFrame) : Type 0 where
  pub made : IsMade modules t
  pub led : ((t.way ≡ Records) ⊎ ((t.way ≡ Interrupt) ⊎ (by_words t.way ≡ true))) ⊎ (s.has_called ≡ false)
  pub words : by_words t.way ≡ true → t.is_guess ≡ true
  pub follows : s.is_guess ≡ true → t.is_guess ≡ true
  pub keeps : by_records t.way ≡ true → t.is_guess ≡ s.is_guess

way_of : (modules : List Module) (t : StackFrame) (way : Way) (guess : Bool) (u : Registers) → t ≡ frame_of modules way guess u → t.way ≡ way
way_of modules t way guess u same = ap (λ (f : StackFrame). f.way) same

next_of : (modules : List Module) (s t : StackFrame) (way : Way) (guess : Bool) (u : Registers) → t ≡ frame_of modules way guess u → ((way ≡ Records) ⊎ ((way ≡ Interrupt) ⊎ (by_words way ≡ true))) ⊎ (s.has_called ≡ false) → (by_words way ≡ true → guess ≡ true) → (s.is_guess ≡ true → guess ≡ true) → (by_records way ≡ true → guess ≡ s.is_guess) → IsNext modules s t
next_of modules s t way guess u same led words follows keeps = grind (arith, way_of)

-- ---- without records

-- by words of the stack
abbrev IsByWords : List Module → StackFrame → Type 0
IsByWords modules t = (way : Way) × (by_words way ≡ true) × (u : Registers) × (t ≡ frame_of modules way true u)

pub not_both : (way : Way) → by_words way ≡ true → by_records way ≡ true → ⊥
not_both way words records = grind arith

-- by one, or in a leaf function: then it is a guess where that is one
abbrev IsFound : List Module → Bool → StackFrame → Type 0
IsFound modules guess t =
    (leaf : Bool) × (u : Registers) × (guess ≡ true → leaf ≡ true) × (t ≡ frame_of modules Leaf leaf u)

abbrev IsLed : List Module → Bool → StackFrame → Type 0
IsLed modules guess t = IsByWords modules t ⊎ IsFound modules guess t

next_by_words : (modules : List Module) (s t : StackFrame) → IsByWords modules t → IsNext modules s t
next_by_words modules s t found = grind (arith, next_of, not_both)

next_led : (modules : List Module) (guess : Bool) (s t : StackFrame) → (s.is_guess ≡ true → guess ≡ true) → s.has_called ≡ false → IsLed modules guess t → IsNext modules s t
next_led modules guess s t given waits h6 = grind (arith, next_by_words, next_of)

pub or_true : (a b : Bool) → a ≡ true → (a || b) ≡ true
or_true a b is = grind arith

leaf_when : (modules : List Module) (guess other : Bool) (u : Registers) (t : StackFrame) (b : Bool) → cond b (Some (frame_of modules Leaf (guess || other) u)) None ≡ Some t → IsLed modules guess t
leaf_when modules guess other u t b is = grind (arith, or_true)

made_leaf : (modules : List Module) (guess : Bool) (test : ℕ → Bool) (p : Result Registers FrameError) (t : StackFrame) → leaf_if modules guess test p ≡ Some t → IsLed modules guess t
made_leaf modules guess test p t is = grind (arith, leaf_when)

made_frame : {X : Type 0} (modules : List Module) (frame : X → StackFrame) (o : Option X) (t : StackFrame) → ((x : X) → IsByWords modules (frame x)) → option_map frame o ≡ Some t → IsByWords modules t
made_frame modules frame None t made is = absurd (cc is)
made_frame modules frame (Some x) t made is = subst (λ (f : StackFrame). IsByWords modules f) (cc is) (made x)

made_scan_by : (returns memory : ℕ → Option ℕ) (modules : List Module) (g : Registers) (t : StackFrame) → scanned_by returns memory modules g ≡ Some t → IsByWords modules t
made_scan_by returns memory modules g t is = grind (arith, made_frame)

made_scan : (memory : ℕ → Option ℕ) (modules : List Module) (g : Registers) (t : StackFrame) → scanned memory modules g ≡ Some t → IsByWords modules t
made_scan memory modules g t is = made_scan_by (code_return modules) memory modules g t is

made_in_gap : (memory : ℕ → Option ℕ) (modules : List Module) (gap : Gap) (g : Registers) (t : StackFrame) → scanned_in_gap memory modules gap g ≡ Some t → IsByWords modules t
made_in_gap memory modules gap g t is = grind (arith, made_frame)

chain_if : (modules : List Module) (g : Registers) (o : Option FrameRecord) (t : StackFrame) (b : Bool) → cond b None (option_map (λ r. frame_of modules FramePointer true (returned_by g r)) o) ≡ Some t → IsByWords modules t
chain_if modules g o t b is = grind (arith, made_frame)

made_chain : (memory : ℕ → Option ℕ) (modules : List Module) (s t : StackFrame) → chained memory modules s ≡ Some t → IsByWords modules t
made_chain memory modules s t is =
    chain_if modules s.registers (record_of memory modules s.registers) t (not s.has_called && is_leaf_return modules (popped memory s.registers)) is

made_lower : {X : Type 0} (a b : Option StackFrame) (t : StackFrame) → (a ≡ Some t → X) → (b ≡ Some t → X) → lower_frame a b ≡ Some t → X
made_lower a b t first second is = grind (arith, nat_lt)

-- by a call into the gap or a frame pointer
made_by_words : (memory : ℕ → Option ℕ) (modules : List Module) (gap : Gap) (s t : StackFrame) → lower_frame (scanned_in_gap memory modules gap s.registers) (chained memory modules s) ≡ Some t → IsByWords modules t
made_by_words memory modules gap s t is =
    made_lower (scanned_in_gap memory modules gap s.registers) (chained memory modules s) t (made_in_gap memory modules gap s.registers t) (made_chain memory modules s t) is

pub made_or : {F X : Type 0} (a b : Option F) (t : F) → (a ≡ Some t → X) → (b ≡ Some t → X) → option_or a b ≡ Some t → X
made_or a b t first second is = grind arith

made_without : (memory : ℕ → Option ℕ) (modules : List Module) (guess : Bool) (g : Registers) (t : StackFrame) → without_records memory modules guess g ≡ Some t → IsLed modules guess t
made_without memory modules guess g t is =
    let p = popped memory g in
    let other = leaf_without_image modules guess p in
    let scan = scanned memory modules g in
    made_or (leaf_frame modules guess p) (option_or other scan) t (made_leaf modules guess (is_after_call modules) p t)
    (λ rest. made_or other scan t (made_leaf modules guess (may_end_call modules) p t) (λ by. inl (made_scan memory modules g t by)) rest)
    is

pub made_found : {F X : Type 0} (o : Option F) (rest : Result F WalkEnd) (t : F) → (o ≡ Some t → X) → (Ok t ≡ rest → X) → Ok t ≡ option_map_or Ok o rest → X
made_found o rest t found other is = grind arith

jumped_if : (modules : List Module) (u : Registers) (t : StackFrame) (zero code : Bool) → Ok t ≡ cond zero (Err ends.Zero) (cond code (Ok (frame_of modules Leaf true u)) (Err ends.NoReturnAddress)) → t ≡ frame_of modules Leaf true u
jumped_if modules u t zero code is = grind arith

made_after : (modules : List Module) (guess : Bool) (p : Result Registers FrameError) (t : StackFrame) → Ok t ≡ after_leaf modules p → IsLed modules guess t
made_after modules guess p t is = grind (arith, jumped_if)

pub by_called : {F X : Type 0} (b : Bool) (called waits answer : Result F WalkEnd) → answer ≡ cond b called waits → (answer ≡ called → X) → (b ≡ false → answer ≡ waits → X) → X
by_called b called waits answer is first second = grind arith

next_leaf : (memory : ℕ → Option ℕ) (modules : List Module) (guess : Bool) (s t : StackFrame) → (s.is_guess ≡ true → guess ≡ true) → Ok t ≡ caller_of_leaf memory modules guess s → IsNext modules s t
next_leaf memory modules guess s t given is =
    let found = without_records memory modules guess s.registers in
    let rest = after_leaf modules (popped memory s.registers) in
    let by_scan = scanned memory modules s.registers in
    by_called s.has_called (option_map_or Ok by_scan (Err ends.NoFunction)) (option_map_or Ok found rest) (Ok t) is
    (λ at. made_found by_scan (Err ends.NoFunction) t (λ by. next_by_words modules s t (made_scan memory modules s.registers t by)) (λ none. absurd (cc none)) at)
    (λ waits at. next_led modules guess s t given waits (made_found found rest t (made_without memory modules guess s.registers t) (made_after modules guess (popped memory s.registers) t) at))

made_if : {X : Type 0} (called : Bool) (leaf scan : Option StackFrame) (t : StackFrame) → option_or (cond called None leaf) scan ≡ Some t → (called ≡ false → leaf ≡ Some t → X) → (scan ≡ Some t → X) → X
made_if called leaf scan t is first second = grind arith

next_in_gap : (memory : ℕ → Option ℕ) (modules : List Module) (guess : Bool) (gap : Gap) (s t : StackFrame) → (s.is_guess ≡ true → guess ≡ true) → Ok t ≡ caller_in_gap memory modules guess gap s → IsNext modules s t
next_in_gap memory modules guess gap s t given is =
    let leaf = leaf_frame modules guess (popped memory s.registers) in
    let words = lower_frame (scanned_in_gap memory modules gap s.registers) (chained memory modules s) in
    made_found (called_in_gap memory modules guess gap s) (caller_of_leaf memory modules guess s) t
    (λ found. made_if s.has_called leaf words t found (λ waits by. next_led modules guess s t given waits (made_leaf modules guess (is_after_call modules) (popped memory s.registers) t by)) (λ by. next_by_words modules s t (made_by_words memory modules gap s t by)))
    (λ other. next_leaf memory modules guess s t given other)
    is

made_by_ranges : (memory : ℕ → Option ℕ) (modules : List Module) (s t : StackFrame) (b : Bool) → cond b (option_or (chained memory modules s) (scanned_by (record_return modules) memory modules s.registers)) None ≡ Some t → IsByWords modules t
made_by_ranges memory modules s t true is =
    let scan = scanned_by (record_return modules) memory modules s.registers in
    made_or (chained memory modules s) scan t (made_chain memory modules s t) (made_scan_by (record_return modules) memory modules s.registers t) is
made_by_ranges memory modules s t false is = absurd (cc is)

outside_if : (memory : ℕ → Option ℕ) (modules : List Module) (s t : StackFrame) (b : Bool) → s.has_called ≡ b → cond b (scanned memory modules s.registers) (without_records memory modules true s.registers) ≡ Some t → IsNext modules s t
outside_if memory modules s t true called is = next_by_words modules s t (made_scan memory modules s.registers t is)
outside_if memory modules s t false waits is = search (rules, arith, next_led, made_without)

next_outside : (memory : ℕ → Option ℕ) (modules : List Module) (s t : StackFrame) → Ok t ≡ caller_outside memory modules s → IsNext modules s t
next_outside memory modules s t is =
    let first = found_outside memory modules s in
    let second = found_by_ranges memory modules s in
    made_found (option_or first second) (Err ends.NoModule) t
    (λ found. made_or first second t (outside_if memory modules s t s.has_called refl) (λ by. next_by_words modules s t (made_by_ranges memory modules s t (is_in_unknown modules (lookup_address s)) by)) found)
    (λ none. absurd (cc none)) is

next_in_code : (memory : ℕ → Option ℕ) (modules : List Module) (s t : StackFrame) → Ok t ≡ caller_in_code memory modules true s → IsNext modules s t
next_in_code memory modules s t is =
    made_found (chained memory modules s) (caller_of_leaf memory modules true s) t (λ by. next_by_words modules s t (made_chain memory modules s t by)) (next_leaf memory modules true s t (λ before. refl)) is

next_without_table : (memory : ℕ → Option ℕ) (modules : List Module) (s t : StackFrame) (b : Bool) → Ok t ≡ cond b (caller_outside memory modules s) (caller_in_code memory modules true s) → IsNext modules s t
next_without_table memory modules s t true is = next_outside memory modules s t is
next_without_table memory modules s t false is = next_in_code memory modules s t is

-- ---- by records

records_if : (modules : List Module) (s t : StackFrame) (u : Registers) (b : Bool) → Ok t ≡ cond b (Err (end_at_0 s.is_guess)) (Ok (frame_of modules Records s.is_guess u)) → IsNext modules s t
records_if modules s t u b is = grind (arith, next_of)

next_after : (memory : ℕ → Option ℕ) (modules : List Module) (s t : StackFrame) (left : Result (Registers × Bool) FrameError) → Ok t ≡ frame_after memory modules s.is_guess left → IsNext modules s t
next_after memory modules s t (Ok (u, true)) is = grind (arith, next_of)
next_after memory modules s t (Ok (u, false)) is = records_if modules s t u (is_bottom memory modules u) is
next_after memory modules s t (Err e) is = absurd (cc is)

next_by_plan : (memory : ℕ → Option ℕ) (modules : List Module) (m : Module) (e : ExceptionView) (f : RuntimeFunction) (s t : StackFrame) (plan : Result (Option (List UnwindInfoView)) Refusal) → CallsByPlan memory modules m e f s plan (Ok t) → IsNext modules s t
next_by_plan memory modules m e f s t (Err r) h = absurd h
next_by_plan memory modules m e f s t (Ok None) h = absurd (cc h)
next_by_plan memory modules m e f s t (Ok (Some plan)) h = next_after memory modules s t h.0 h.2

next_found : (memory : ℕ → Option ℕ) (modules : List Module) (m : Module) (e : ExceptionView) (s t : StackFrame) (found : Option RuntimeFunction) → CallsFound memory modules m e s found (Ok t) → IsNext modules s t
next_found memory modules m e s t None h = next_in_gap memory modules (leaf_is_guess m s) h.0 s t (or_true s.is_guess _) h.2
next_found memory modules m e s t (Some f) h = next_by_plan memory modules m e f s t h.0 h.2

next_by : (memory : ℕ → Option ℕ) (modules : List Module) (m : Module) (s t : StackFrame) (o : Option ExceptionView) → CallsBy memory modules m s o (Ok t) → IsNext modules s t
next_by memory modules m s t None h = next_without_table memory modules s t (is_unknown m) h
next_by memory modules m s t (Some e) h = next_found memory modules m e s t h.0 h.2

next_in : (memory : ℕ → Option ℕ) (modules : List Module) (s t : StackFrame) (o : Option Module) → CallsIn memory modules s o (Ok t) → IsNext modules s t
next_in memory modules s t None h = next_outside memory modules s t h
next_in memory modules s t (Some m) h = next_by memory modules m s t (option_map (λ e. e.now) m.exceptions) h

next : (p : Process) (s t : StackFrame) → Calls p s (Ok t) → IsNext p.modules s t
next p s t h = next_in p.memory p.modules s t (module_at p.modules (lookup_address s)) h

pub says_whether : (p : Process) (s t : StackFrame) → Calls p s (Ok t) → t.has_called ≡ has_called p.modules t.way (t.registers).rip
says_whether p s t h = says p.modules t (next p s t h).made

after_call : (s t : StackFrame) → ((t.way ≡ Records) ⊎ ((t.way ≡ Interrupt) ⊎ (by_words t.way ≡ true))) ⊎ (s.has_called ≡ false) → s.has_called ≡ true → (t.way ≡ Records) ⊎ ((t.way ≡ Interrupt) ⊎ (by_words t.way ≡ true))
after_call s t h2 called = grind arith

pub led_on : (p : Process) (s t : StackFrame) → Calls p s (Ok t) → s.has_called ≡ true → (t.way ≡ Records) ⊎ ((t.way ≡ Interrupt) ⊎ (by_words t.way ≡ true))
led_on p s t h called = after_call s t (next p s t h).led called

pub words_are_guesses : (p : Process) (s t : StackFrame) → Calls p s (Ok t) → by_words t.way ≡ true → t.is_guess ≡ true
words_are_guesses p s t h by = (next p s t h).words by

pub guesses_stay : (p : Process) (s t : StackFrame) → Calls p s (Ok t) → s.is_guess ≡ true → t.is_guess ≡ true
guesses_stay p s t h before = (next p s t h).follows before

pub records_keep : (p : Process) (s t : StackFrame) → Calls p s (Ok t) → by_records t.way ≡ true → t.is_guess ≡ s.is_guess
records_keep p s t h by = (next p s t h).keeps by

pub records_are_sure : (p : Process) (g : Registers) (most : ℕ) (first rest : List StackFrame) (end : WalkEnd) → IsWalk Calls (starting_walk p (top_frame g) most) (first ++ rest) end → AllByRecursion (λ s. by_records s.way ≡ true) first → AllByRecursion (λ s. s.is_guess ≡ false) first
records_are_sure p g most first rest end h all =
    frames_keep Calls (λ s. s.is_guess) (λ s. by_records s.way ≡ true) records_keep most (starting_walk p (top_frame g) most) first rest end h refl all

-- ---- the caller of a leaf function whose call is in code

pub or_false : (a b : Bool) → b ≡ true → (a || not b) ≡ a
or_false a b is = grind arith

call_of_code : (o : Option Module) (a : ℕ) → is_code_return_of o a ≡ true → is_after_call_of o a ≡ true
call_of_code o a is = grind (arith, both)

no_leaf : (modules : List Module) (t : StackFrame) → t.way ≡ Leaf → IsByWords modules t → ⊥
no_leaf modules t leaf found = grind (arith, way_of)

sure_when : (modules : List Module) (guess : Bool) (u : Registers) (t : StackFrame) (b : Bool) → is_code_return modules (t.registers).rip ≡ true → cond b (Some (frame_of modules Leaf (guess || not (is_code_return modules u.rip)) u)) None ≡ Some t → t.is_guess ≡ guess
sure_when modules guess u t b code is = grind (arith, or_false)

sure_leaf : (modules : List Module) (guess : Bool) (test : ℕ → Bool) (p : Result Registers FrameError) (t : StackFrame) → is_code_return modules (t.registers).rip ≡ true → leaf_if modules guess test p ≡ Some t → t.is_guess ≡ guess
sure_leaf modules guess test p t code is = grind (arith, sure_when)

pub no_call : {F : Type 0} (t : F) (b : Bool) → b ≡ true → cond b (Some t) None ≡ None → ⊥
no_call t b call none = grind arith

-- what a leaf function returns to where no call ends is no return address into code
sure_after : (modules : List Module) (guess : Bool) (p : Result Registers FrameError) (t : StackFrame) → is_code_return modules (t.registers).rip ≡ true → leaf_frame modules guess p ≡ None → Ok t ≡ after_leaf modules p → ⊥
sure_after modules guess p t code none is = search (rules, arith, jumped_if, call_of_code, no_call)

pub or_none : {F : Type 0} (a b : Option F) → option_or a b ≡ None → a ≡ None
or_none a b is = grind arith

pub found_or : {F X : Type 0} (o : Option F) (rest : Result F WalkEnd) (t : F) → (o ≡ Some t → X) → (o ≡ None → Ok t ≡ rest → X) → Ok t ≡ option_map_or Ok o rest → X
found_or o rest t found other is = grind arith

sure_without : (memory : ℕ → Option ℕ) (modules : List Module) (guess : Bool) (g : Registers) (t : StackFrame) → t.way ≡ Leaf → is_code_return modules (t.registers).rip ≡ true → without_records memory modules guess g ≡ Some t → t.is_guess ≡ guess
sure_without memory modules guess g t leaf returns is =
    let p = popped memory g in
    let other = leaf_without_image modules guess p in
    let scan = scanned memory modules g in
    made_or (leaf_frame modules guess p) (option_or other scan) t (sure_leaf modules guess (is_after_call modules) p t returns)
    (λ rest. made_or other scan t (sure_leaf modules guess (may_end_call modules) p t returns) (λ by. absurd (no_leaf modules t leaf (made_scan memory modules g t by))) rest)
    is

sure_called : (memory : ℕ → Option ℕ) (modules : List Module) (guess : Bool) (s t : StackFrame) → Ok t ≡ caller_of_leaf memory modules guess s → t.way ≡ Leaf → is_code_return modules (t.registers).rip ≡ true → t.is_guess ≡ guess
sure_called memory modules guess s t h leaf returns =
    let by_scan = scanned memory modules s.registers in
    let found = without_records memory modules guess s.registers in
    let p = popped memory s.registers in
    by_called s.has_called (option_map_or Ok by_scan (Err ends.NoFunction)) (option_map_or Ok found (after_leaf modules p)) (Ok t) h
    (λ at. made_found by_scan (Err ends.NoFunction) t (λ by. absurd (no_leaf modules t leaf (made_scan memory modules s.registers t by))) (λ other. absurd (cc other)) at)
    (λ waits at. found_or found (after_leaf modules p) t (sure_without memory modules guess s.registers t leaf returns) (λ none other. absurd (sure_after modules guess p t returns (or_none (leaf_frame modules guess p) _ none) other)) at)

sure_in_gap : (memory : ℕ → Option ℕ) (modules : List Module) (guess : Bool) (gap : Gap) (s t : StackFrame) → Ok t ≡ caller_in_gap memory modules guess gap s → t.way ≡ Leaf → is_code_return modules (t.registers).rip ≡ true → t.is_guess ≡ guess
sure_in_gap memory modules guess gap s t h leaf returns =
    let p = popped memory s.registers in
    let words = lower_frame (scanned_in_gap memory modules gap s.registers) (chained memory modules s) in
    made_found (called_in_gap memory modules guess gap s) (caller_of_leaf memory modules guess s) t
    (λ found. made_if s.has_called (leaf_frame modules guess p) words t found (λ waits by. sure_leaf modules guess (is_after_call modules) p t returns by) (λ by. absurd (no_leaf modules t leaf (made_by_words memory modules gap s t by))))
    (λ other. sure_called memory modules guess s t other leaf returns)
    h

pub leaf_keeps : (memory : ℕ → Option ℕ) (modules : List Module) (m : Module) (e : ExceptionView) (s t : StackFrame) → CallsFound memory modules m e s None (Ok t) → t.way ≡ Leaf → is_code_of (Some m) (lookup_address s) ≡ true → is_code_return modules (t.registers).rip ≡ true → t.is_guess ≡ s.is_guess
leaf_keeps memory modules m e s t h leaf code returns = grind (arith, sure_in_gap, or_false)

-- ---- the caller of a leaf function whose image is not at hand

-- ---- a frame pointer

-- it is not followed from a leaf function
pub no_chain : (memory : ℕ → Option ℕ) (modules : List Module) (guess : Bool) (s : StackFrame) → (not s.has_called && is_leaf_return modules (popped memory s.registers)) ≡ true → caller_in_code memory modules guess s ≡ caller_of_leaf memory modules guess s
no_chain memory modules guess s leaf = rw leaf refl

chain_when : (memory : ℕ → Option ℕ) (modules : List Module) (guess : Bool) (s : StackFrame) (b : Bool) (o : Option FrameRecord) → o ≡ None → option_map_or Ok (cond b None (option_map (λ r. frame_of modules FramePointer true (returned_by s.registers r)) o)) (caller_of_leaf memory modules guess s) ≡ caller_of_leaf memory modules guess s
chain_when memory modules guess s b o none = grind arith

-- without a record the caller is as without a frame pointer
pub no_record : (memory : ℕ → Option ℕ) (modules : List Module) (guess : Bool) (s : StackFrame) → record_of memory modules s.registers ≡ None → caller_in_code memory modules guess s ≡ caller_of_leaf memory modules guess s
no_record memory modules guess s none = grind (arith, chain_when)

pub chain_followed : (memory : ℕ → Option ℕ) (modules : List Module) (guess : Bool) (s : StackFrame) (r : FrameRecord) → (not s.has_called && is_leaf_return modules (popped memory s.registers)) ≡ false → record_of memory modules s.registers ≡ Some r → caller_in_code memory modules guess s ≡ Ok (frame_of modules FramePointer true (returned_by s.registers r))
chain_followed memory modules guess s r free found = rw (free, found) refl

pub leaf_first : (memory : ℕ → Option ℕ) (modules : List Module) (guess : Bool) (s : StackFrame) (u : Registers) → s.has_called ≡ false → popped memory s.registers ≡ Ok u → is_after_call modules u.rip ≡ false → may_end_call modules u.rip ≡ true → caller_in_code memory modules guess s ≡ Ok (frame_of modules Leaf true u)
leaf_first memory modules guess s u waits pops none may = grind (arith, call_of_code, no_chain)

pub outside_first : (memory : ℕ → Option ℕ) (modules : List Module) (s : StackFrame) (u : Registers) → s.has_called ≡ false → popped memory s.registers ≡ Ok u → is_after_call modules u.rip ≡ false → may_end_call modules u.rip ≡ true → caller_outside memory modules s ≡ Ok (frame_of modules Leaf true u)
outside_first memory modules s u waits pops none may = cc

-- ---- the bottom

pub none_of : {X : Type 0} (o : Option X) → is_none o ≡ true → o ≡ None
none_of o is = grind arith

pub sure_if : {F : Type 0} (guess : Bool) → ◌≡◌ {A = Result F WalkEnd} (Err ends.Bottom) (Err (end_at_0 guess)) → guess ≡ false
sure_if guess is = grind arith

zero_if : (memory : ℕ → Option ℕ) (modules : List Module) (guess : Bool) (u : Registers) (b : Bool) → is_bottom memory modules u ≡ b → Err ends.Bottom ≡ cond b (Err (end_at_0 guess)) (Ok (frame_of modules Records guess u)) → (u.rip ≡ 0) × (without_records memory modules true u ≡ None) × (guess ≡ false)
zero_if memory modules guess u b at is = grind (arith, both, eqb-true, none_of, sure_if)

abbrev LeavesFor0 : (ℕ → Option ℕ) → List Module → Bool → (Result (Registers × Bool) FrameError → Type 0) → Type 0
LeavesFor0 memory modules guess Steps =
    (u : Registers) × Steps (Ok (u, false)) × (u.rip ≡ 0) × (without_records memory modules true u ≡ None) × (guess ≡ false)

left_for_0 : (memory : ℕ → Option ℕ) (modules : List Module) (guess : Bool) (Steps : Result (Registers × Bool) FrameError → Type 0) (left : Result (Registers × Bool) FrameError) → Steps left → Err ends.Bottom ≡ frame_after memory modules guess left → LeavesFor0 memory modules guess Steps
left_for_0 memory modules guess Steps left steps is = grind (arith, zero_if)

pub records_at_bottom : (memory : ℕ → Option ℕ) (modules : List Module) (m : Module) (e : ExceptionView) (f : RuntimeFunction) (s : StackFrame) (plan : List UnwindInfoView) → CallsByPlan memory modules m e f s (Ok (Some plan)) (Err ends.Bottom) → LeavesFor0 memory modules s.is_guess (StepsInImage e (map_of_module m e) memory plan f.begin_address ((s.registers).rip - m.base) (code_of_frame m e f.end_address s) s.registers)
records_at_bottom memory modules m e f s plan h = search (rules, arith, left_for_0)

pub no_bottom : {F : Type 0} (o : Option F) (rest : Result F WalkEnd) → (Err ends.Bottom ≡ rest → ⊥) → Err ends.Bottom ≡ option_map_or Ok o rest → ⊥
no_bottom o rest other is = grind arith

no_end_at : (modules : List Module) (u : Registers) (zero code : Bool) → Err ends.Bottom ≡ cond zero (Err ends.Zero) (cond code (Ok (frame_of modules Leaf true u)) (Err ends.NoReturnAddress)) → ⊥
no_end_at modules u zero code is = grind arith

leaf_at_bottom : (memory : ℕ → Option ℕ) (modules : List Module) (guess : Bool) (s : StackFrame) → caller_of_leaf memory modules guess s ≡ Err ends.Bottom → ⊥
leaf_at_bottom memory modules guess s is = grind (arith, no_bottom, no_end_at)

pub code_at_bottom : (memory : ℕ → Option ℕ) (modules : List Module) (guess : Bool) (s : StackFrame) → caller_in_code memory modules guess s ≡ Err ends.Bottom → ⊥
code_at_bottom memory modules guess s is =
    no_bottom (chained memory modules s) (caller_of_leaf memory modules guess s) (λ at. leaf_at_bottom memory modules guess s (sym at)) (sym is)

pub gap_at_bottom : (memory : ℕ → Option ℕ) (modules : List Module) (guess : Bool) (gap : Gap) (s : StackFrame) → caller_in_gap memory modules guess gap s ≡ Err ends.Bottom → ⊥
gap_at_bottom memory modules guess gap s is =
    no_bottom (called_in_gap memory modules guess gap s) (caller_of_leaf memory modules guess s) (λ at. leaf_at_bottom memory modules guess s (sym at)) (sym is)

pub outside_at_bottom : (memory : ℕ → Option ℕ) (modules : List Module) (s : StackFrame) → caller_outside memory modules s ≡ Err ends.Bottom → ⊥
outside_at_bottom memory modules s is = grind (arith, no_bottom)

no_table_at_bottom : (memory : ℕ → Option ℕ) (modules : List Module) (s : StackFrame) (b : Bool) → Err ends.Bottom ≡ cond b (caller_outside memory modules s) (caller_in_code memory modules true s) → ⊥
no_table_at_bottom memory modules s b is = grind (arith, outside_at_bottom, code_at_bottom)

-- ---- the bottom of a whole walk

sure_found : (memory : ℕ → Option ℕ) (modules : List Module) (m : Module) (e : ExceptionView) (s : StackFrame) (found : Option RuntimeFunction) → CallsFound memory modules m e s found (Err ends.Bottom) → s.is_guess ≡ false
sure_found memory modules m e s found h = search (rules, arith, gap_at_bottom, records_at_bottom)

sure_by : (memory : ℕ → Option ℕ) (modules : List Module) (m : Module) (s : StackFrame) (o : Option ExceptionView) → CallsBy memory modules m s o (Err ends.Bottom) → s.is_guess ≡ false
sure_by memory modules m s o h = grind (arith, no_table_at_bottom, sure_found)

sure_in : (memory : ℕ → Option ℕ) (modules : List Module) (s : StackFrame) (o : Option Module) → CallsIn memory modules s o (Err ends.Bottom) → s.is_guess ≡ false
sure_in memory modules s o h = grind (arith, outside_at_bottom, sure_by)

sure : (p : Process) (s : StackFrame) → Calls p s (Err ends.Bottom) → s.is_guess ≡ false
sure p s h = sure_in p.memory p.modules s (module_at p.modules (lookup_address s)) h

pub whole_is_sure : (p : Process) (g : Registers) (most : ℕ) (frames : List StackFrame) → IsWalk Calls (starting_walk p (top_frame g) most) frames ends.Bottom → AllByRecursion (λ s. s.is_guess ≡ false) frames
whole_is_sure p g most frames h =
    (sure_frames Calls (λ s. s.is_guess) guesses_stay sure most (starting_walk p (top_frame g) most) frames (λ e. cc e) h).1
