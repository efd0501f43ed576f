-- The frames that a step of a walk on ARM64 finds, and where it comes to the bottom.
use Rattle.std.proofs.Common.{◌≡◌, ◌≢◌, ◌-◌, ◌++◌, ◌||◌, not, ◌⊎◌, inl, ℕ, ◌<◌, ◌≤◌, ◌==◌, leb, Bool, true, false, ◌&&◌, cond, List, Option, Some, None, Result, Ok, Err, refl, ap, sym, subst, arith, rules}
use Rattle.pe_frame.proofs.Cited.{Refusal, ◌>>=◌, eqb-true, nat_tests, AllByRecursion, option_map, option_map_or, option_or, both}
use Rattle.pe_frame.proofs.Cited.{Arm64InfoView, info_by, ExceptionView, Arm64RuntimeFunction, stepped_arm64_packed, StepsOutArm64}
use Rattle.pe_frame.proofs.Cited.{link_register, put_pc, returned_arm64, Calls, CallsBy, CallsByInfo, CallsFound, CallsIn, called_frame}
use Rattle.pe_frame.proofs.Cited.{caller_in_code, caller_without_table, jumped_frame, lookup_address, place_of, returned_to}
use Rattle.pe_frame.proofs.Cited.{stepped_out_packed, IsWalk, Process, starting_walk, is_after_call_arm64, is_after_call_arm64_of}
use Rattle.pe_frame.proofs.Cited.{is_code_of, is_code_return_arm64, is_code_return_arm64_of, is_in_unknown, is_unknown, map_of_module}
use Rattle.pe_frame.proofs.Cited.{may_end_call, module_at, by_records, by_words, end_at_0, Arm64Registers, Arm64StackFrame, FrameRecord}
use Rattle.pe_frame.proofs.Cited.{FrameError, NotRising, Module, Way, Records, Leaf, Interrupt, Scanned, FramePointer, WalkEnd}
use Rattle.pe_frame.specs.Arm64Walks.{after_leaf, chained, is_leaf_return, record_of, returned_by, frame_after, frame_of, has_called, is_bottom, caller_of_leaf, leaf_frame, leaf_if, leaf_is_guess, leaf_without_image, caller_outside, found_outside, found_by_ranges, record_return, scanned, scanned_by, top_frame, without_records}
use Rattle.pe_frame.specs.declared.walk.WalkEnd.TheVariants as ends
use Rattle.pe_frame.proofs.Found.{by_called, found_or, made_found, made_or, no_bottom, no_call, none_of, not_both, or_false, or_none, or_true, sure_if}
use Rattle.pe_frame.proofs.FrameWalks.{frames_keep, sure_frames}

-- ---- a frame, and that before it

abbrev IsMade : List Module → Arm64StackFrame → Type 0
IsMade modules t = (way : Way) × (guess : Bool) × (u : Arm64Registers) × (t ≡ frame_of modules way guess u)

says : (modules : List Module) (t : Arm64StackFrame) → IsMade modules t → t.has_called ≡ has_called modules t.way (t.registers).pc
says modules t made = cc

-- a frame by records rises if the one before it has called
abbrev Rises : Arm64StackFrame → Arm64StackFrame → Type 0
Rises s t = t.way ≡ Records → s.has_called ≡ true → (s.registers).sp < (t.registers).sp

-- Records led on, or words of the stack, or the frame before it has not called. What words led to is a guess, and what follows a
-- guess; what records lead to follows one.
pub record IsNext (modules : List Module) (s t : Arm64StackFrame) : Type 0 where
  pub made : IsMade modules t
  pub led : ((t.way ≡ Records) ⊎ ((t.way ≡ Interrupt) ⊎ (by_words t.way ≡ true))) ⊎ (s.has_called ≡ false)
  pub rises : Rises s t
  pub words : by_words t.way ≡ true → t.is_guess ≡ true
  pub follows : s.is_guess ≡ true → t.is_guess ≡ true
  pub keeps : by_records t.way ≡ true → t.is_guess ≡ s.is_guess

next_of : (modules : List Module) (s t : Arm64StackFrame) (way : Way) (guess : Bool) (u : Arm64Registers) → t ≡ frame_of modules way guess u → ((way ≡ Records) ⊎ ((way ≡ Interrupt) ⊎ (by_words way ≡ true))) ⊎ (s.has_called ≡ false) → (way ≡ Records → s.has_called ≡ true → (s.registers).sp < u.sp) → (by_words way ≡ true → guess ≡ true) → (s.is_guess ≡ true → guess ≡ true) → (by_records way ≡ true → guess ≡ s.is_guess) → IsNext modules s t
next_of modules s t way guess u same led rises words follows keeps = grind arith

-- ---- without records

-- by words of the stack
abbrev IsByWords : List Module → Arm64StackFrame → Type 0
IsByWords modules t = (way : Way) × (by_words way ≡ true) × (u : Arm64Registers) × (t ≡ frame_of modules way true u)

-- by one, or in a leaf function: then it is a guess where that is one
abbrev IsFound : List Module → Bool → Arm64StackFrame → Type 0
IsFound modules guess t =
    (leaf : Bool) × (u : Arm64Registers) × (guess ≡ true → leaf ≡ true) × (t ≡ frame_of modules Leaf leaf u)

abbrev IsLed : List Module → Bool → Arm64StackFrame → Type 0
IsLed modules guess t = IsByWords modules t ⊎ IsFound modules guess t

next_by_words : (modules : List Module) (s t : Arm64StackFrame) → IsByWords modules t → IsNext modules s t
next_by_words modules s t found = grind (arith, next_of, not_both)

next_led : (modules : List Module) (guess : Bool) (s t : Arm64StackFrame) → (s.is_guess ≡ true → guess ≡ true) → s.has_called ≡ false → IsLed modules guess t → IsNext modules s t
next_led modules guess s t given waits h6 = grind (arith, next_by_words, next_of)

made_scan : (modules : List Module) (g : Arm64Registers) (o : Option (ℕ × ℕ)) (t : Arm64StackFrame) → option_map (λ found. frame_of modules Scanned true (returned_to g found)) o ≡ Some t → IsByWords modules t
made_scan modules g o t is = grind arith

chain_if : (modules : List Module) (g : Arm64Registers) (o : Option FrameRecord) (t : Arm64StackFrame) (b : Bool) → cond b None (option_map (λ r. frame_of modules FramePointer true (returned_by g r)) o) ≡ Some t → IsByWords modules t
chain_if modules g o t b is = grind arith

made_chain : (memory : ℕ → Option ℕ) (modules : List Module) (s t : Arm64StackFrame) → chained memory modules s ≡ Some t → IsByWords modules t
made_chain memory modules s t is =
    chain_if modules s.registers (record_of memory modules s.registers) t (not s.has_called && is_leaf_return modules s.registers) is

leaf_when : (modules : List Module) (guess other : Bool) (g : Arm64Registers) (t : Arm64StackFrame) (b : Bool) → cond b (Some (frame_of modules Leaf (guess || other) (after_leaf g))) None ≡ Some t → IsLed modules guess t
leaf_when modules guess other g t b is = grind (arith, or_true)

made_leaf : (modules : List Module) (guess : Bool) (test : ℕ → Bool) (g : Arm64Registers) (t : Arm64StackFrame) → leaf_if modules guess test g ≡ Some t → IsLed modules guess t
made_leaf modules guess test g t is = grind (arith, leaf_when)

made_without : (memory : ℕ → Option ℕ) (modules : List Module) (guess : Bool) (g : Arm64Registers) (t : Arm64StackFrame) → without_records memory modules guess g ≡ Some t → IsLed modules guess t
made_without memory modules guess g t is = search (rules, arith, made_or, made_leaf, made_scan)

jumped_if : (modules : List Module) (u : Arm64Registers) (t : Arm64StackFrame) (zero code : Bool) → Ok t ≡ cond zero (Err ends.Zero) (cond code (Ok (frame_of modules Leaf true u)) (Err ends.NoReturnAddress)) → t ≡ frame_of modules Leaf true u
jumped_if modules u t zero code is = grind arith

made_jumped : (modules : List Module) (guess : Bool) (g : Arm64Registers) (t : Arm64StackFrame) → Ok t ≡ jumped_frame modules g → IsLed modules guess t
made_jumped modules guess g t is = grind (arith, jumped_if)

next_leaf : (memory : ℕ → Option ℕ) (modules : List Module) (guess : Bool) (s t : Arm64StackFrame) → (s.is_guess ≡ true → guess ≡ true) → Ok t ≡ caller_of_leaf memory modules guess s → IsNext modules s t
next_leaf memory modules guess s t given is =
    let found = without_records memory modules guess s.registers in
    let rest = jumped_frame modules s.registers in
    let by_scan = scanned memory modules s.registers in
    by_called s.has_called (option_map_or Ok by_scan (Err ends.NoFunction)) (option_map_or Ok found rest) (Ok t) is
    (λ at. made_found by_scan (Err ends.NoFunction) t (λ by. next_by_words modules s t (made_scan modules s.registers _ t by)) (λ none. absurd (cc none)) at)
    (λ waits at. next_led modules guess s t given waits (made_found found rest t (made_without memory modules guess s.registers t) (made_jumped modules guess s.registers t) at))

made_by_ranges : (memory : ℕ → Option ℕ) (modules : List Module) (s t : Arm64StackFrame) (b : Bool) → cond b (scanned_by (record_return modules) memory modules s.registers) None ≡ Some t → IsByWords modules t
made_by_ranges memory modules s t b is = grind (arith, made_scan)

outside_if : (memory : ℕ → Option ℕ) (modules : List Module) (s t : Arm64StackFrame) (b : Bool) → s.has_called ≡ b → cond b (scanned memory modules s.registers) (without_records memory modules true s.registers) ≡ Some t → IsNext modules s t
outside_if memory modules s t true called is = next_by_words modules s t (made_scan modules s.registers _ t is)
outside_if memory modules s t false waits is = search (rules, arith, next_led, made_without)

next_outside : (memory : ℕ → Option ℕ) (modules : List Module) (s t : Arm64StackFrame) → Ok t ≡ caller_outside memory modules s → IsNext modules s t
next_outside memory modules s t is =
    let first = found_outside memory modules s in
    let second = found_by_ranges memory modules s in
    made_found (option_or first second) (Err ends.NoModule) t
    (λ found. made_or first second t (outside_if memory modules s t s.has_called refl) (λ by. next_by_words modules s t (made_by_ranges memory modules s t (is_in_unknown modules (lookup_address s)) by)) found)
    (λ none. absurd (cc none)) is

next_in_code : (memory : ℕ → Option ℕ) (modules : List Module) (guess : Bool) (s t : Arm64StackFrame) → (s.is_guess ≡ true → guess ≡ true) → Ok t ≡ caller_in_code memory modules guess s → IsNext modules s t
next_in_code memory modules guess s t given is =
    made_found (chained memory modules s) (caller_of_leaf memory modules guess s) t (λ by. next_by_words modules s t (made_chain memory modules s t by)) (next_leaf memory modules guess s t given) is

next_unchained : (memory : ℕ → Option ℕ) (modules : List Module) (s t : Arm64StackFrame) (b : Bool) → Ok t ≡ cond b (caller_outside memory modules s) (caller_of_leaf memory modules true s) → IsNext modules s t
next_unchained memory modules s t true is = next_outside memory modules s t is
next_unchained memory modules s t false is = next_leaf memory modules true s t (λ before. refl) is

next_without_table : (memory : ℕ → Option ℕ) (modules : List Module) (m : Module) (s t : Arm64StackFrame) → Ok t ≡ caller_without_table memory modules m s → IsNext modules s t
next_without_table memory modules m s t is =
    made_found (chained memory modules s) (cond (is_unknown m) (caller_outside memory modules s) (caller_of_leaf memory modules true s)) t (λ by. next_by_words modules s t (made_chain memory modules s t by)) (next_unchained memory modules s t (is_unknown m)) is

-- a step that no interrupt left does not sink
abbrev StaysAbove : ℕ → Result (Arm64Registers × Bool) FrameError → Type 0
StaysAbove p left = (u : Arm64Registers) → left ≡ Ok (u, false) → p ≤ u.sp

not_below : (p : ℕ) (u v : Arm64Registers) (b : Bool) → leb p u.sp ≡ b → Ok v ≡ cond b (Ok (put_pc u (link_register u))) (Err (NotRising u.sp)) → p ≤ v.sp
not_below p u v b test is = grind (arith, nat_tests)

returned_above : (p : ℕ) (u v : Arm64Registers) → Ok v ≡ returned_arm64 p u → p ≤ v.sp
returned_above p u v is = not_below p u v (leb p u.sp) refl is

pair_of : (x y : Arm64Registers × Bool) → ◌≡◌ {A = Result (Arm64Registers × Bool) FrameError} (Ok x) (Ok y) → x ≡ y
pair_of x y is = cc is

first_of_pair : (c v : Arm64Registers) (a b : Bool) → ◌≡◌ {A = Result (Arm64Registers × Bool) FrameError} (Ok (c, a)) (Ok (v, b)) → c ≡ v
first_of_pair c v a b is = ap (λ (x : Arm64Registers × Bool). x.0) (pair_of (c, a) (v, b) is)

-- registers, and whether no call left them
abbrev told : Bool → Result Arm64Registers FrameError → Result (Arm64Registers × Bool) FrameError
told b r = r >>= λ c. Ok (c, b)

out_above : (p : ℕ) (b : Bool) (r : Result Arm64Registers FrameError) (v : Arm64Registers) → ((w : Arm64Registers) → Ok w ≡ r → p ≤ w.sp) → told b r ≡ Ok (v, false) → p ≤ v.sp
out_above p b r v low is = grind (arith, first_of_pair)

step_above : (m : ℕ → Option ℕ) (i : Arm64InfoView) (place : ℕ) (g : Arm64Registers) (left : Result (Arm64Registers × Bool) FrameError) → StepsOutArm64 m i place g left → StaysAbove g.sp left
step_above m i place g left h u is = grind (arith, pair_of, out_above, returned_above)

packed_above : (m : ℕ → Option ℕ) (d place : ℕ) (g : Arm64Registers) → StaysAbove g.sp (stepped_out_packed m d place g)
packed_above m d place g u is = grind (arith, out_above, returned_above)

-- the frame that records lead to, unless it is the bottom
records_if : (modules : List Module) (s t : Arm64StackFrame) (u : Arm64Registers) (b : Bool) → Ok t ≡ cond b (Err (end_at_0 s.is_guess)) (Ok (frame_of modules Records s.is_guess u)) → t ≡ frame_of modules Records s.is_guess u
records_if modules s t u b is = grind arith

stands_if : (c e : Bool) (end : WalkEnd) (rest : Result Arm64StackFrame WalkEnd) (t : Arm64StackFrame) → Ok t ≡ cond (c && e) (Err end) rest → (c ≡ true → e ≡ false) × (Ok t ≡ rest)
stands_if c e end rest t is = grind arith

next_called : (memory : ℕ → Option ℕ) (modules : List Module) (s t : Arm64StackFrame) (u : Arm64Registers) → (s.registers).sp ≤ u.sp → Ok t ≡ called_frame memory modules s u → IsNext modules s t
next_called memory modules s t u above is =
    let rest = cond (is_bottom memory modules u) (Err (end_at_0 s.is_guess)) (Ok (frame_of modules Records s.is_guess u)) in
    let moves = stands_if s.has_called (u.sp == (s.registers).sp) (ends.Step (NotRising u.sp)) rest t is in
    next_of modules s t Records s.is_guess u (records_if modules s t u (is_bottom memory modules u) moves.1) (inl (inl refl))
    (λ by called. (let test : (u.sp == (s.registers).sp) ≡ false = moves.0 called in
    let other : u.sp ≢ (s.registers).sp = grind (arith, nat_tests) in
    omega (arith, above, other)))
    (λ by. absurd (cc by)) (λ before. before) (λ by. refl)

next_after : (memory : ℕ → Option ℕ) (modules : List Module) (s t : Arm64StackFrame) (left : Result (Arm64Registers × Bool) FrameError) → StaysAbove (s.registers).sp left → Ok t ≡ frame_after memory modules s left → IsNext modules s t
next_after memory modules s t (Ok (u, true)) above is = grind (arith, next_of)
next_after memory modules s t (Ok (u, false)) above is = next_called memory modules s t u (above u refl) is
next_after memory modules s t (Err e) above is = absurd (cc is)

next_by_info : (p : Process) (m : Module) (f : Arm64RuntimeFunction) (s t : Arm64StackFrame) (info : Option (Result Arm64InfoView Refusal)) → CallsByInfo p m f s info (Ok t) → IsNext p.modules s t
next_by_info p m f s t None h = search (rules, arith, next_after, packed_above)
next_by_info p m f s t (Some (Err r)) h = absurd h
next_by_info p m f s t (Some (Ok i)) h = next_after p.memory p.modules s t h.0 (step_above p.memory i (place_of m f s) s.registers h.0 h.1) h.2

next_found : (p : Process) (m : Module) (e : ExceptionView) (s t : Arm64StackFrame) (found : Result (Option Arm64RuntimeFunction) Refusal) → CallsFound p m e s found (Ok t) → IsNext p.modules s t
next_found p m e s t (Err r) h = absurd h
next_found p m e s t (Ok None) h = next_in_code p.memory p.modules (leaf_is_guess m s) s t (or_true s.is_guess _) h
next_found p m e s t (Ok (Some f)) h = next_by_info p m f s t (info_by (map_of_module m e) e.content f) h

next_by : (p : Process) (m : Module) (s t : Arm64StackFrame) (o : Option ExceptionView) → CallsBy p m s o (Ok t) → IsNext p.modules s t
next_by p m s t None h = next_without_table p.memory p.modules m s t h
next_by p m s t (Some e) h = next_found p m e s t h.0 h.2

next_in : (p : Process) (s t : Arm64StackFrame) (o : Option Module) → CallsIn p s o (Ok t) → IsNext p.modules s t
next_in p s t None h = next_outside p.memory p.modules s t h
next_in p s t (Some m) h = next_by p m s t (option_map (λ e. e.now) m.exceptions) h

next : (p : Process) (s t : Arm64StackFrame) → Calls p s (Ok t) → IsNext p.modules s t
next p s t h = next_in p s t (module_at p.modules (lookup_address s)) h

pub says_whether : (p : Process) (s t : Arm64StackFrame) → Calls p s (Ok t) → t.has_called ≡ has_called p.modules t.way (t.registers).pc
says_whether p s t h = says p.modules t (next p s t h).made

after_call : (s t : Arm64StackFrame) → ((t.way ≡ Records) ⊎ ((t.way ≡ Interrupt) ⊎ (by_words t.way ≡ true))) ⊎ (s.has_called ≡ false) → s.has_called ≡ true → (t.way ≡ Records) ⊎ ((t.way ≡ Interrupt) ⊎ (by_words t.way ≡ true))
after_call s t h2 called = grind arith

pub led_on : (p : Process) (s t : Arm64StackFrame) → Calls p s (Ok t) → s.has_called ≡ true → (t.way ≡ Records) ⊎ ((t.way ≡ Interrupt) ⊎ (by_words t.way ≡ true))
led_on p s t h called = after_call s t (next p s t h).led called

pub words_are_guesses : (p : Process) (s t : Arm64StackFrame) → Calls p s (Ok t) → by_words t.way ≡ true → t.is_guess ≡ true
words_are_guesses p s t h by = (next p s t h).words by

pub guesses_stay : (p : Process) (s t : Arm64StackFrame) → Calls p s (Ok t) → s.is_guess ≡ true → t.is_guess ≡ true
guesses_stay p s t h before = (next p s t h).follows before

pub records_keep : (p : Process) (s t : Arm64StackFrame) → Calls p s (Ok t) → by_records t.way ≡ true → t.is_guess ≡ s.is_guess
records_keep p s t h by = (next p s t h).keeps by

pub records_are_sure : (p : Process) (g : Arm64Registers) (most : ℕ) (first rest : List Arm64StackFrame) (end : WalkEnd) → IsWalk Calls (starting_walk p (top_frame g) most) (first ++ rest) end → AllByRecursion (λ s. by_records s.way ≡ true) first → AllByRecursion (λ s. s.is_guess ≡ false) first
records_are_sure p g most first rest end h all =
    frames_keep Calls (λ s. s.is_guess) (λ s. by_records s.way ≡ true) records_keep most (starting_walk p (top_frame g) most) first rest end h refl all

pub rises_after_calls : (p : Process) (s t : Arm64StackFrame) → Calls p s (Ok t) → s.has_called ≡ true → t.way ≡ Records → (s.registers).sp < (t.registers).sp
rises_after_calls p s t h called by = (next p s t h).rises by called

-- ---- the caller of a leaf function whose call is in code

call_of_code : (o : Option Module) (a : ℕ) → is_code_return_arm64_of o a ≡ true → is_after_call_arm64_of o a ≡ true
call_of_code o a is = grind (arith, both)

no_leaf : (modules : List Module) (t : Arm64StackFrame) → t.way ≡ Leaf → IsByWords modules t → ⊥
no_leaf modules t leaf found = grind arith

sure_when : (modules : List Module) (guess : Bool) (g : Arm64Registers) (t : Arm64StackFrame) (b : Bool) → is_code_return_arm64 modules (t.registers).pc ≡ true → cond b (Some (frame_of modules Leaf (guess || not (is_code_return_arm64 modules (link_register g))) (after_leaf g))) None ≡ Some t → t.is_guess ≡ guess
sure_when modules guess g t b code is = grind (arith, or_false)

-- what a leaf function returns to where no call ends is no return address into code
sure_after : (modules : List Module) (guess : Bool) (g : Arm64Registers) (t : Arm64StackFrame) → is_code_return_arm64 modules (t.registers).pc ≡ true → leaf_frame modules guess g ≡ None → Ok t ≡ jumped_frame modules g → ⊥
sure_after modules guess g t code none is = grind (arith, jumped_if, call_of_code, no_call)

sure_without : (memory : ℕ → Option ℕ) (modules : List Module) (guess : Bool) (g : Arm64Registers) (t : Arm64StackFrame) → t.way ≡ Leaf → is_code_return_arm64 modules (t.registers).pc ≡ true → without_records memory modules guess g ≡ Some t → t.is_guess ≡ guess
sure_without memory modules guess g t leaf returns is = search (rules, arith, made_or, sure_when, no_leaf, made_scan)

sure_called : (memory : ℕ → Option ℕ) (modules : List Module) (guess : Bool) (s t : Arm64StackFrame) → Ok t ≡ caller_of_leaf memory modules guess s → t.way ≡ Leaf → is_code_return_arm64 modules (t.registers).pc ≡ true → t.is_guess ≡ guess
sure_called memory modules guess s t h leaf returns = search (rules, arith, by_called, made_found, no_leaf, made_scan, found_or, sure_without, sure_after, or_none)

sure_in_code : (memory : ℕ → Option ℕ) (modules : List Module) (guess : Bool) (s t : Arm64StackFrame) → Ok t ≡ caller_in_code memory modules guess s → t.way ≡ Leaf → is_code_return_arm64 modules (t.registers).pc ≡ true → t.is_guess ≡ guess
sure_in_code memory modules guess s t h leaf returns =
    made_found (chained memory modules s) (caller_of_leaf memory modules guess s) t (λ by. absurd (no_leaf modules t leaf (made_chain memory modules s t by))) (λ other. sure_called memory modules guess s t other leaf returns) h

pub leaf_keeps : (p : Process) (m : Module) (e : ExceptionView) (s t : Arm64StackFrame) → CallsFound p m e s (Ok None) (Ok t) → t.way ≡ Leaf → is_code_of (Some m) (lookup_address s) ≡ true → is_code_return_arm64 p.modules (t.registers).pc ≡ true → t.is_guess ≡ s.is_guess
leaf_keeps p m e s t h leaf code returns = grind (arith, sure_in_code, or_false)

-- ---- a frame pointer

-- it is not followed from a leaf function
pub no_chain : (memory : ℕ → Option ℕ) (modules : List Module) (guess : Bool) (s : Arm64StackFrame) → (not s.has_called && is_leaf_return modules s.registers) ≡ true → caller_in_code memory modules guess s ≡ caller_of_leaf memory modules guess s
no_chain memory modules guess s leaf = rw leaf refl

chain_when : (memory : ℕ → Option ℕ) (modules : List Module) (guess : Bool) (s : Arm64StackFrame) (b : Bool) (o : Option FrameRecord) → o ≡ None → option_map_or Ok (cond b None (option_map (λ r. frame_of modules FramePointer true (returned_by s.registers r)) o)) (caller_of_leaf memory modules guess s) ≡ caller_of_leaf memory modules guess s
chain_when memory modules guess s b o none = grind arith

-- without a record the caller is as without a frame pointer
pub no_record : (memory : ℕ → Option ℕ) (modules : List Module) (guess : Bool) (s : Arm64StackFrame) → record_of memory modules s.registers ≡ None → caller_in_code memory modules guess s ≡ caller_of_leaf memory modules guess s
no_record memory modules guess s none = grind (arith, chain_when)

pub chain_without_table : (memory : ℕ → Option ℕ) (modules : List Module) (m : Module) (s : Arm64StackFrame) (r : FrameRecord) → (not s.has_called && is_leaf_return modules s.registers) ≡ false → record_of memory modules s.registers ≡ Some r → caller_without_table memory modules m s ≡ Ok (frame_of modules FramePointer true (returned_by s.registers r))
chain_without_table memory modules m s r free found = rw (free, found) refl

pub chain_followed : (memory : ℕ → Option ℕ) (modules : List Module) (guess : Bool) (s : Arm64StackFrame) (r : FrameRecord) → (not s.has_called && is_leaf_return modules s.registers) ≡ false → record_of memory modules s.registers ≡ Some r → caller_in_code memory modules guess s ≡ Ok (frame_of modules FramePointer true (returned_by s.registers r))
chain_followed memory modules guess s r free found = rw (free, found) refl

-- ---- a frame is a step

kept : (memory : ℕ → Option ℕ) (modules : List Module) (s t : Arm64StackFrame) (u : Arm64Registers) → Ok t ≡ called_frame memory modules s u → u ≡ t.registers
kept memory modules s t u is = search (rules, arith, stands_if, records_if)

out_of : (memory : ℕ → Option ℕ) (modules : List Module) (s t : Arm64StackFrame) (left : Result (Arm64Registers × Bool) FrameError) → Ok t ≡ frame_after memory modules s left → (b : Bool) × (left ≡ Ok (t.registers, b))
out_of memory modules s t left is = search (rules, arith, kept)

pub frame_is_step : (p : Process) (m : Module) (f : Arm64RuntimeFunction) (s t : Arm64StackFrame) (i : Arm64InfoView) → CallsByInfo p m f s (Some (Ok i)) (Ok t) → (interrupted : Bool) × StepsOutArm64 p.memory i (place_of m f s) s.registers (Ok (t.registers, interrupted))
frame_is_step p m f s t i h =
    let out = out_of p.memory p.modules s t h.0 h.2 in
    (out.0, subst (λ (x : Result (Arm64Registers × Bool) FrameError). StepsOutArm64 p.memory i (place_of m f s) s.registers x) out.1 h.1)

packed_of : (x : Result Arm64Registers FrameError) (u : Arm64Registers) (b : Bool) → told false x ≡ Ok (u, b) → x ≡ Ok u
packed_of x u b is = grind (arith, first_of_pair)

pub frame_is_packed_step : (p : Process) (m : Module) (f : Arm64RuntimeFunction) (s t : Arm64StackFrame) → CallsByInfo p m f s None (Ok t) → stepped_arm64_packed p.memory f.unwind_data (place_of m f s) s.registers ≡ Ok t.registers
frame_is_packed_step p m f s t h =
    let out = out_of p.memory p.modules s t (stepped_out_packed p.memory f.unwind_data (place_of m f s) s.registers) h in
    packed_of (stepped_arm64_packed p.memory f.unwind_data (place_of m f s) s.registers) t.registers out.0 out.1

-- ---- the bottom

left_for_0 : (memory : ℕ → Option ℕ) (modules : List Module) (s : Arm64StackFrame) (left : Result (Arm64Registers × Bool) FrameError) → Err ends.Bottom ≡ frame_after memory modules s left → (u : Arm64Registers) × (left ≡ Ok (u, false)) × (u.pc ≡ 0) × (without_records memory modules true u ≡ None) × (s.is_guess ≡ false)
left_for_0 memory modules s left is = search (rules, arith, both, eqb-true, none_of, sure_if)

pub records_at_bottom : (p : Process) (m : Module) (f : Arm64RuntimeFunction) (s : Arm64StackFrame) (i : Arm64InfoView) → CallsByInfo p m f s (Some (Ok i)) (Err ends.Bottom) → (u : Arm64Registers) × StepsOutArm64 p.memory i (place_of m f s) s.registers (Ok (u, false)) × (u.pc ≡ 0) × (without_records p.memory p.modules true u ≡ None) × (s.is_guess ≡ false)
records_at_bottom p m f s i h = grind (arith, left_for_0)

pub packed_at_bottom : (p : Process) (m : Module) (f : Arm64RuntimeFunction) (s : Arm64StackFrame) → CallsByInfo p m f s None (Err ends.Bottom) → (u : Arm64Registers) × (stepped_arm64_packed p.memory f.unwind_data (place_of m f s) s.registers ≡ Ok u) × (u.pc ≡ 0) × (without_records p.memory p.modules true u ≡ None) × (s.is_guess ≡ false)
packed_at_bottom p m f s h = grind (arith, left_for_0, packed_of)

no_end_at : (modules : List Module) (u : Arm64Registers) (zero code : Bool) → Err ends.Bottom ≡ cond zero (Err ends.Zero) (cond code (Ok (frame_of modules Leaf true u)) (Err ends.NoReturnAddress)) → ⊥
no_end_at modules u zero code is = grind arith

leaf_at_bottom : (memory : ℕ → Option ℕ) (modules : List Module) (guess : Bool) (s : Arm64StackFrame) → caller_of_leaf memory modules guess s ≡ Err ends.Bottom → ⊥
leaf_at_bottom memory modules guess s is = grind (arith, by_called, no_bottom, no_end_at)

pub code_at_bottom : (memory : ℕ → Option ℕ) (modules : List Module) (guess : Bool) (s : Arm64StackFrame) → caller_in_code memory modules guess s ≡ Err ends.Bottom → ⊥
code_at_bottom memory modules guess s is =
    no_bottom (chained memory modules s) (caller_of_leaf memory modules guess s) (λ at. leaf_at_bottom memory modules guess s (sym at)) (sym is)

pub outside_at_bottom : (memory : ℕ → Option ℕ) (modules : List Module) (s : Arm64StackFrame) → caller_outside memory modules s ≡ Err ends.Bottom → ⊥
outside_at_bottom memory modules s is = grind (arith, no_bottom)

unchained_at_bottom : (memory : ℕ → Option ℕ) (modules : List Module) (s : Arm64StackFrame) (b : Bool) → Err ends.Bottom ≡ cond b (caller_outside memory modules s) (caller_of_leaf memory modules true s) → ⊥
unchained_at_bottom memory modules s b is = search (rules, arith, outside_at_bottom, leaf_at_bottom)

no_table_at_bottom : (memory : ℕ → Option ℕ) (modules : List Module) (m : Module) (s : Arm64StackFrame) → Err ends.Bottom ≡ caller_without_table memory modules m s → ⊥
no_table_at_bottom memory modules m s is = search (rules, arith, no_bottom, unchained_at_bottom)

-- ---- the bottom of a whole walk

sure_found : (p : Process) (m : Module) (e : ExceptionView) (s : Arm64StackFrame) (found : Result (Option Arm64RuntimeFunction) Refusal) → CallsFound p m e s found (Err ends.Bottom) → s.is_guess ≡ false
sure_found p m e s found h = search (rules, arith, code_at_bottom, packed_at_bottom, records_at_bottom)

sure_by : (p : Process) (m : Module) (s : Arm64StackFrame) (o : Option ExceptionView) → CallsBy p m s o (Err ends.Bottom) → s.is_guess ≡ false
sure_by p m s o h = grind (arith, no_table_at_bottom, sure_found)

sure_in : (p : Process) (s : Arm64StackFrame) (o : Option Module) → CallsIn p s o (Err ends.Bottom) → s.is_guess ≡ false
sure_in p s o h = grind (arith, outside_at_bottom, sure_by)

sure : (p : Process) (s : Arm64StackFrame) → Calls p s (Err ends.Bottom) → s.is_guess ≡ false
sure p s h = sure_in p s (module_at p.modules (lookup_address s)) h

pub whole_is_sure : (p : Process) (g : Arm64Registers) (most : ℕ) (frames : List Arm64StackFrame) → IsWalk Calls (starting_walk p (top_frame g) most) frames ends.Bottom → AllByRecursion (λ s. s.is_guess ≡ false) frames
whole_is_sure p g most frames h =
    (sure_frames Calls (λ s. s.is_guess) guesses_stay sure most (starting_walk p (top_frame g) most) frames (λ e. cc e) h).1
