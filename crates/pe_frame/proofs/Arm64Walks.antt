-- There is one walk on ARM64, up to the numbers in a refusal.
use Rattle.std.proofs.Common.{◌≡◌, ℕ, Bool, true, false, cond, List, ◌∷◌, Option, Some, None, Result, Ok, Err, ap, sym, ◌∙◌, subst, []}
use Rattle.pe_frame.proofs.Cited.{find, option_map, Refusal, Arm64InfoView, info_by, ExceptionView, Arm64RuntimeFunction, has_address}
use Rattle.pe_frame.proofs.Cited.{Calls, CallsBy, CallsByInfo, CallsFound, CallsIn, lookup_address, place_of, Process, map_of_module}
use Rattle.pe_frame.proofs.Cited.{module_at, module_base, module_size, ErrorKind, by_kind, error_kind, IsUnreadable, OfError, OfRecords}
use Rattle.pe_frame.proofs.Cited.{by_end_kind, Arm64Registers, Arm64StackFrame, FrameError, Module, WalkEnd}
use Rattle.pe_frame.specs.Arm64Walks.{AreSortedModules, HasSortedTable, IsSortedModule, frame_after}
use Rattle.pe_frame.specs.declared.walk.WalkEnd.TheVariants as ends
use Rattle.pe_frame.proofs.Arm64Streams.{one_arm64_step_out}

same_frame : (memory : ℕ → Option ℕ) (modules : List Module) (s : Arm64StackFrame) (x y : Result (Arm64Registers × Bool) FrameError) → by_kind x ≡ by_kind y → by_end_kind (frame_after memory modules s x) ≡ by_end_kind (frame_after memory modules s y)
same_frame memory modules s (Ok u) (Ok v) e =
    let same : u ≡ v = cc in
    ap (λ (w : Arm64Registers × Bool). by_end_kind (frame_after memory modules s (Ok w))) same
same_frame memory modules s (Ok u) (Err d) e = absurd (cc e)
same_frame memory modules s (Err d) (Ok v) e = absurd (cc e)
same_frame memory modules s (Err d) (Err e) h =
    let same : error_kind d ≡ error_kind e = cc in
    ap (λ (k : ErrorKind). Err (OfError k)) same

unreadable : (r : Refusal) (x : Result Arm64StackFrame WalkEnd) → IsUnreadable r x → by_end_kind x ≡ Err (OfRecords r)
unreadable r (Ok s) h = absurd h
unreadable r (Err (ends.Records e)) h = ap (λ (k : Refusal). Err (OfRecords k)) h
unreadable r (Err other) h = absurd h

one_by_info : (p : Process) (m : Module) (f : Arm64RuntimeFunction) (s : Arm64StackFrame) (info : Option (Result Arm64InfoView Refusal)) (x y : Result Arm64StackFrame WalkEnd) → CallsByInfo p m f s info x → CallsByInfo p m f s info y → by_end_kind x ≡ by_end_kind y
one_by_info p m f s None x y h k = ap by_end_kind (h ∙ sym k)
one_by_info p m f s (Some (Err r)) x y h k = unreadable r x h ∙ sym (unreadable r y k)
one_by_info p m f s (Some (Ok i)) x y h k =
    let one = one_arm64_step_out p.memory i (place_of m f s) s.registers h.0 k.0 h.1 k.1 in
    ap by_end_kind h.2 ∙ same_frame p.memory p.modules s h.0 k.0 one ∙ sym (ap by_end_kind k.2)

one_found : (p : Process) (m : Module) (e : ExceptionView) (s : Arm64StackFrame) (found : Result (Option Arm64RuntimeFunction) Refusal) (x y : Result Arm64StackFrame WalkEnd) → CallsFound p m e s found x → CallsFound p m e s found y → by_end_kind x ≡ by_end_kind y
one_found p m e s (Err r) x y h k = unreadable r x h ∙ sym (unreadable r y k)
one_found p m e s (Ok None) x y h k = ap by_end_kind (h ∙ sym k)
one_found p m e s (Ok (Some f)) x y h k = one_by_info p m f s (info_by (map_of_module m e) e.content f) x y h k

one_by : (p : Process) (m : Module) (s : Arm64StackFrame) (o : Option ExceptionView) (x y : Result Arm64StackFrame WalkEnd) → HasSortedTable o → CallsBy p m s o x → CallsBy p m s o y → by_end_kind x ≡ by_end_kind y
one_by p m s None x y sorted h k = ap by_end_kind (h ∙ sym k)
one_by p m s (Some e) x y sorted h k =
    let same = (h.1).scanned sorted ∙ sym ((k.1).scanned sorted) in
    let here = subst (λ (f : Result (Option Arm64RuntimeFunction) Refusal). CallsFound p m e s f x) same h.2 in
    one_found p m e s k.0 x y here k.2

abbrev IsSortedFound : Option Module → Type 0
IsSortedFound None = Unit {0}
IsSortedFound (Some m) = IsSortedModule m

one_in : (p : Process) (s : Arm64StackFrame) (o : Option Module) (x y : Result Arm64StackFrame WalkEnd) → IsSortedFound o → CallsIn p s o x → CallsIn p s o y → by_end_kind x ≡ by_end_kind y
one_in p s None x y sorted h k = ap by_end_kind (h ∙ sym k)
one_in p s (Some m) x y sorted h k = one_by p m s (option_map (λ e. e.now) m.exceptions) x y sorted h k

sorted_one : (m : Module) (rest : Option Module) (t : Bool) → IsSortedModule m → IsSortedFound rest → IsSortedFound (cond t (Some m) rest)
sorted_one m rest true one others = one
sorted_one m rest false one others = others

sorted_found : (q : Module → Bool) (modules : List Module) → AreSortedModules modules → IsSortedFound (find q modules)
sorted_found q [] sorted = tt
sorted_found q (m ∷ ms) sorted = sorted_one m (find q ms) (q m) sorted.0 (sorted_found q ms sorted.1)

pub one_caller : (p : Process) → AreSortedModules p.modules → (s : Arm64StackFrame) (x y : Result Arm64StackFrame WalkEnd) → Calls p s x → Calls p s y → by_end_kind x ≡ by_end_kind y
one_caller p sorted s x y h k =
    one_in p s (module_at p.modules (lookup_address s)) x y (sorted_found (has_address module_base module_size (lookup_address s)) p.modules sorted) h k
