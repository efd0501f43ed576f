-- Each frame on ARM64 has a caller, or a reason why it has none, in modules whose bytes are numbers below 256.
use Rattle.std.proofs.Common.{◌≡◌, ℕ, ◌+◌, ◌*◌, ◌-◌, ◌<◌, Bool, true, false, cond, All, List, ◌∷◌, drop, Option, Some, None, Result, Ok, Err, refl, ap, subst, []}
use Rattle.pe_frame.proofs.Cited.{All-drop, All-take, find, option_map, nat_lt, if◌then◌else◌, Lacks, if_lacks, is_memory, one_test_lacks}
use Rattle.pe_frame.proofs.Cited.{outcome_lacks, then_lacks, holds, le, Refusal, Short, outcome, mapped, arm64_functions, is_packed}
use Rattle.pe_frame.proofs.Cited.{FindsArm64, if_long_enough, length_by, length_in_record, Arm64InfoView, extension_at, info_at, info_tests}
use Rattle.pe_frame.proofs.Cited.{info_with, scope_count, code_words, scopes_offset, info_at_offset, info_by, bits, ExceptionView, table_of}
use Rattle.pe_frame.proofs.Cited.{Arm64RuntimeFunction, has_address, AreModulesOfBytes, Calls, CallsBy, CallsByInfo, CallsFound, CallsIn}
use Rattle.pe_frame.proofs.Cited.{HasBytes, IsModuleOfBytes, caller_in_code, caller_without_table, length_in, lookup_address, place_of}
use Rattle.pe_frame.proofs.Cited.{stepped_out_packed, Process, map_of_module, module_at, module_base, module_size, IsUnreadable}
use Rattle.pe_frame.proofs.Cited.{Arm64StackFrame, Module, WalkEnd}
use Rattle.pe_frame.specs.Arm64Walks.{caller_outside, leaf_is_guess, frame_after}
use Rattle.pe_frame.specs.declared.walk.WalkEnd.TheVariants as ends
use Rattle.pe_frame.proofs.Arm64Streams.{some_arm64_step_out}
use Rattle.pe_frame.proofs.SomeError.{some_error}
use Rattle.pe_frame.proofs.SomeFunction.{some_start}

abbrev Caller : (Result Arm64StackFrame WalkEnd → Type 0) → Type 0
Caller Is = (answer : Result Arm64StackFrame WalkEnd) × Is answer

unreadable : (r : Refusal) → is_memory r ≡ false → Caller (IsUnreadable r)
unreadable r other =
    let error = some_error r (λ same. let is : is_memory r ≡ true = ap is_memory same in absurd cc) in
    (Err (ends.Records error.0), error.1)

-- ---- lookup

mapped_lacks : (o : Option ℕ) → Lacks (mapped o)
mapped_lacks None = refl
mapped_lacks (Some p) = tt

length_lacks : (b : List ℕ) (offset : ℕ → Option ℕ) (f : Arm64RuntimeFunction) → Lacks (length_by offset b f)
length_lacks b offset f =
    if_lacks (is_packed f) (Ok (4 * bits f.unwind_data 2 11)) _ tt
    (then_lacks (mapped (offset (4 * bits f.unwind_data 2 30))) (length_in_record b) (mapped_lacks (offset (4 * bits f.unwind_data 2 30)))
    (λ p. one_test_lacks (holds b p 4) Short (4 * bits (le b p 4) 0 18) refl))

enough_lacks : (length_of : Arm64RuntimeFunction → Result ℕ Refusal) (a : ℕ) (last : Option Arm64RuntimeFunction) → ((f : Arm64RuntimeFunction) → Lacks (length_of f)) → Lacks (if_long_enough length_of a last)
enough_lacks length_of a None lack = tt
enough_lacks length_of a (Some f) lack =
    then_lacks (length_of f) (λ n. Ok (if nat_lt a (f.begin_address + n) then Some f else None)) (lack f) (λ n. tt)

some_function : (length_of : Arm64RuntimeFunction → Result ℕ Refusal) (fs : List Arm64RuntimeFunction) (a : ℕ) → ((f : Arm64RuntimeFunction) → Lacks (length_of f)) → (found : Result (Option Arm64RuntimeFunction) Refusal) × FindsArm64 length_of fs a found × Lacks found
some_function length_of fs a lack =
    let last = some_start (λ f. f.begin_address) a fs in (
      if_long_enough length_of a last.0,
      record { last = last.0; comes = last.1; decides = refl; scanned = λ sorted. ap (if_long_enough length_of a) ((last.1).scanned sorted) },
      enough_lacks length_of a last.0 lack,
    )

-- ---- records

tested : {X : Type 0} (tests : List (Bool × Refusal)) (value x : X) → outcome tests value ≡ Ok x → value ≡ x
tested [] value x is = cc is
tested ((true, r) ∷ tests) value x is = tested tests value x is
tested ((false, r) ∷ tests) value x is = absurd (cc is)

info_lacks : (b : List ℕ) (o : Option ℕ) → Lacks (info_at_offset b o)
unfolding info_at
info_lacks b None = refl
info_lacks b (Some p) =
    let header = le b p 4 in
    let extension = extension_at b (p + 4) header in
    outcome_lacks (info_tests b p header extension) (info_with b p header extension) (refl, (refl, (refl, (refl, (refl, (refl, tt))))))

codes_are_bytes : (b : List ℕ) (p : ℕ) (i : Arm64InfoView) → All (λ x. x < 256) b → info_at b p ≡ Ok i → All (λ x. x < 256) i.codes
unfolding info_at
codes_are_bytes b p i all is =
    let header = le b p 4 in
    let extension = extension_at b (p + 4) header in
    let same : info_with b p header extension ≡ i = tested (info_tests b p header extension) (info_with b p header extension) i is in
    let q = scopes_offset p header + 4 * scope_count header extension in
    let n = 4 * code_words header extension in
    subst (λ (v : Arm64InfoView). All (λ x. x < 256) v.codes) same (All-take (λ x. x < 256) (q + n - q) (drop q b) (All-drop (λ x. x < 256) q b all))

-- none, or a record of bytes, or a refusal that is not for memory
abbrev IsReadable : Option (Result Arm64InfoView Refusal) → Type 0
IsReadable None = Unit {0}
IsReadable (Some (Err r)) = is_memory r ≡ false
IsReadable (Some (Ok i)) = All (λ x. x < 256) i.codes

at_offset : (b : List ℕ) (o : Option ℕ) (x : Result Arm64InfoView Refusal) → All (λ x. x < 256) b → info_at_offset b o ≡ x → IsReadable (Some x)
at_offset b o (Err r) all is = subst (λ (x : Result Arm64InfoView Refusal). Lacks x) is (info_lacks b o)
at_offset b None (Ok i) all is = absurd (cc is)
at_offset b (Some p) (Ok i) all is = codes_are_bytes b p i all is

unless_packed : (t : Bool) (x : Result Arm64InfoView Refusal) → IsReadable (Some x) → IsReadable (if t then None else Some x)
unless_packed true x h = tt
unless_packed false x h = h

readable : (m : Module) (e : ExceptionView) (f : Arm64RuntimeFunction) → All (λ x. x < 256) e.content → IsReadable (info_by (map_of_module m e) e.content f)
readable m e f all =
    let o = map_of_module m e (4 * bits f.unwind_data 2 30) in
    unless_packed (is_packed f) (info_at_offset e.content o) (at_offset e.content o (info_at_offset e.content o) all refl)

-- ---- the caller

some_by_info : (p : Process) (m : Module) (f : Arm64RuntimeFunction) (s : Arm64StackFrame) (info : Option (Result Arm64InfoView Refusal)) → IsReadable info → Caller (CallsByInfo p m f s info)
some_by_info p m f s None is = (frame_after p.memory p.modules s (stepped_out_packed p.memory f.unwind_data (place_of m f s) s.registers), refl)
some_by_info p m f s (Some (Err r)) is = unreadable r is
some_by_info p m f s (Some (Ok i)) is =
    let left = some_arm64_step_out p.memory i (place_of m f s) s.registers is in
    (frame_after p.memory p.modules s left.0, (left.0, left.1, refl))

some_found : (p : Process) (m : Module) (e : ExceptionView) (s : Arm64StackFrame) (found : Result (Option Arm64RuntimeFunction) Refusal) → Lacks found → All (λ x. x < 256) e.content → Caller (CallsFound p m e s found)
some_found p m e s (Err r) lack all = unreadable r lack
some_found p m e s (Ok None) lack all = (caller_in_code p.memory p.modules (leaf_is_guess m s) s, refl)
some_found p m e s (Ok (Some f)) lack all = some_by_info p m f s (info_by (map_of_module m e) e.content f) (readable m e f all)

some_by : (p : Process) (m : Module) (s : Arm64StackFrame) (o : Option ExceptionView) → HasBytes o → Caller (CallsBy p m s o)
some_by p m s None all = (caller_without_table p.memory p.modules m s, refl)
some_by p m s (Some e) all =
    let found = some_function (length_in m e) (arm64_functions (table_of e)) (lookup_address s - m.base) (λ f. length_lacks e.content (map_of_module m e) f) in
    let caller = some_found p m e s found.0 found.2 all in
    (caller.0, (found.0, found.1, caller.1))

abbrev IsFoundOfBytes : Option Module → Type 0
IsFoundOfBytes None = Unit {0}
IsFoundOfBytes (Some m) = IsModuleOfBytes m

some_in : (p : Process) (s : Arm64StackFrame) (o : Option Module) → IsFoundOfBytes o → Caller (CallsIn p s o)
some_in p s None is = (caller_outside p.memory p.modules s, refl)
some_in p s (Some m) is = some_by p m s (option_map (λ e. e.now) m.exceptions) is

one_of_bytes : (m : Module) (rest : Option Module) (t : Bool) → IsModuleOfBytes m → IsFoundOfBytes rest → IsFoundOfBytes (cond t (Some m) rest)
one_of_bytes m rest true one others = one
one_of_bytes m rest false one others = others

found_of_bytes : (q : Module → Bool) (modules : List Module) → AreModulesOfBytes modules → IsFoundOfBytes (find q modules)
found_of_bytes q [] all = tt
found_of_bytes q (m ∷ ms) all = one_of_bytes m (find q ms) (q m) all.0 (found_of_bytes q ms all.1)

pub some_caller : (p : Process) → AreModulesOfBytes p.modules → (s : Arm64StackFrame) → Caller (Calls p s)
some_caller p all s =
    some_in p s (module_at p.modules (lookup_address s)) (found_of_bytes (has_address module_base module_size (lookup_address s)) p.modules all)
