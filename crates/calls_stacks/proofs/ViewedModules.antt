-- The modules that a caller passes.
use Rattle.std.proofs.Common.{◌≡◌, ℕ, ◌+◌, ◌<◌, Bool, true, false, cond, List, [], ◌∷◌, map, Option, Some, None, Result, Ok, Err, option_copied, refl, ap, sym, ◌∙◌, subst}
use Rattle.std.specs.Prelude.{IfSome, IsTrue}
use Rattle.std.specs.List.{find, list_all}
use Rattle.std.specs.Option.{option_map}
use Rattle.std.specs.Borrow.{Bor}
use Rattle.pe_core.specs.Refusals.{Refusal}
use Rattle.pe_unwind.specs.Arm64Record.{Arm64InfoView}
use Rattle.pe_unwind.specs.Arm64Unwinding.{info_by}
use Rattle.pe_unwind.specs.ExceptionTable.{ExceptionView}
use Rattle.pe_unwind.specs.UnwindRecord.{UnwindInfoView}
use Rattle.pe_unwind.specs.declared.arm64.function.Arm64RuntimeFunction.{Arm64RuntimeFunction}
use Rattle.pe_unwind.specs.declared.function_table.RuntimeFunction.{RuntimeFunction}
use Rattle.pe_lookup.specs.AddressRanges.{has_address}
use Rattle.pe_frame.specs.Arm64Walks as arm64
use Rattle.pe_frame.specs.FrameWalks.{Process}
use Rattle.pe_frame.specs.Modules.{map_of_module, module_at, module_base, module_size}
use Rattle.pe_frame.specs.Walks.{CallsBy, CallsByPlan, CallsFound, CallsIn}
use Rattle.pe_frame.specs.declared.arm64.walk.Arm64StackFrame.{Arm64StackFrame}
use Rattle.pe_frame.specs.declared.modules.Module.{Module}
use Rattle.pe_frame.specs.declared.walk.StackFrame.{StackFrame}
use Rattle.pe_frame.specs.declared.walk.WalkEnd.{WalkEnd}
use Rattle.pe_frame.proofs.InModules.{found_ends, found_has}
use Rattle.pe_lookup.proofs.Lookups.{found_of_all}
use Rattle.calls_stacks.specs.WalkModules.{exceptions_of, has_table, module_of, module_with, modules_of, view_base, view_size}
use Rattle.calls_stacks.specs.declared.stack.walk.ModuleView.{ModuleView}

by : {X Y : Type 0} (f : X → Y) (b : Bool) (x : X) (o : Option X) (q : Option Y) → q ≡ option_map f o → cond b (Some (f x)) q ≡ option_map f (cond b (Some x) o)
by f true x o q e = refl
by f false x o q e = e

-- what is found in a list of values is the value of what is found
pub found_in_map : {X Y : Type 0} (f : X → Y) (p : Y → Bool) (xs : List X) → find p (map f xs) ≡ option_map f (find (λ x. p (f x)) xs)
found_in_map f p [] = refl
found_in_map f p (x ∷ xs) = by f (p (f x)) x (find (λ y. p (f y)) xs) (find p (map f xs)) (found_in_map f p xs)

-- the module that has an address, of a view that is found as a reference
pub found : (views : List ModuleView) (a : ℕ) (o : Option (Bor ModuleView)) → option_map (λ v. v.now) o ≡ find (has_address view_base view_size a) views → option_map (λ v. module_of v.now) o ≡ module_at (modules_of views) a
found views a None e = ap (option_map module_of) e ∙ sym (found_in_map module_of (has_address module_base module_size a) views)
found views a (Some v) e = ap (option_map module_of) e ∙ sym (found_in_map module_of (has_address module_base module_size a) views)

-- it has the address
pub has_it : (views : List ModuleView) (a : ℕ) (o : Option (Bor ModuleView)) → option_map (λ v. v.now) o ≡ find (has_address view_base view_size a) views →
    IfSome o (λ v. IsTrue (has_address module_base module_size a (module_of v.now)))
has_it views a None e = tt
has_it views a (Some v) e = found_has (modules_of views) a (module_of v.now) (sym (found views a (Some v) e))

pub ends_after : (views : List ModuleView) (a : ℕ) (o : Option (Bor ModuleView)) → option_map (λ v. v.now) o ≡ find (has_address view_base view_size a) views →
    IfSome o (λ v. a < v.now.base + v.now.image.image.now.size_of_image)
ends_after views a None e = tt
ends_after views a (Some v) e = found_ends (modules_of views) a (module_of v.now) (sym (found views a (Some v) e))

-- its function table lies in its bytes
pub tabled : (views : List ModuleView) (a : ℕ) (v : ModuleView) → list_all has_table views ≡ true → find (has_address view_base view_size a) views ≡ Some v → has_table v ≡ true
tabled views a v all e = found_of_all (has_address view_base view_size a) has_table views v all e

-- ---- the exception data of a module, wherever they stand

value_of : (x : Option (Bor ExceptionView)) (seen : Option ExceptionView) → option_copied x ≡ seen → option_map (λ e. e.now) x ≡ seen
value_of None seen e = e
value_of (Some b) seen e = e

value_of_ref : (seen : Option ExceptionView) → option_map {T = Bor ExceptionView} (λ e. e.now) (option_map {T = ExceptionView} (λ e. record { ref_ptr = (0, 0); now = e }) seen) ≡ seen
value_of_ref None = refl
value_of_ref (Some e) = refl

module _ (memory : ℕ → Option ℕ) (modules : List Module) (v : ModuleView) (s : StackFrame) where
  abbrev by_data : Option (Bor ExceptionView) → Module
  by_data x = module_with v x

  same_plan : (x y : Option (Bor ExceptionView)) (e : ExceptionView) (f : RuntimeFunction) (plan : Result (Option (List UnwindInfoView)) Refusal) (answer : Result StackFrame WalkEnd) → CallsByPlan memory modules (by_data x) e f s plan answer → CallsByPlan memory modules (by_data y) e f s plan answer
  same_plan x y e f (Err r) answer h = h
  same_plan x y e f (Ok None) answer h = h
  same_plan x y e f (Ok (Some plan)) answer h = h

  same_function : (x y : Option (Bor ExceptionView)) (e : ExceptionView) (found : Option RuntimeFunction) (answer : Result StackFrame WalkEnd) → CallsFound memory modules (by_data x) e s found answer → CallsFound memory modules (by_data y) e s found answer
  same_function x y e None answer h = h
  same_function x y e (Some f) answer h = (h.0, h.1, same_plan x y e f h.0 answer h.2)

  same_data : (x y : Option (Bor ExceptionView)) (seen : Option ExceptionView) (answer : Result StackFrame WalkEnd) → CallsBy memory modules (by_data x) s seen answer → CallsBy memory modules (by_data y) s seen answer
  same_data x y None answer h = h
  same_data x y (Some e) answer h = (h.0, h.1, same_function x y e h.0 answer h.2)

  -- what calls a frame does not depend on where the exception data stand
  pub viewed_caller : (x : Option (Bor ExceptionView)) (m : Module) (answer : Result StackFrame WalkEnd) → m ≡ module_with v x → option_copied x ≡ exceptions_of v → CallsIn memory modules s (Some m) answer → CallsIn memory modules s (Some (module_of v)) answer
  viewed_caller x m answer is seen h =
      let there : CallsIn memory modules s (Some (by_data x)) answer = subst (λ (n : Module). CallsIn memory modules s (Some n) answer) is h in
      let read : CallsBy memory modules (by_data x) s (exceptions_of v) answer = subst (λ (d : Option ExceptionView). CallsBy memory modules (by_data x) s d answer) (value_of x (exceptions_of v) seen) there in
      subst (λ (d : Option ExceptionView). CallsBy memory modules (module_of v) s d answer) (sym (value_of_ref (exceptions_of v))) (same_data x (option_map (λ e. record { ref_ptr = (0, 0); now = e }) (exceptions_of v)) (exceptions_of v) answer read)

-- the same on ARM64

module _ (p : Process) (v : ModuleView) (s : Arm64StackFrame) where
  same_info : (x y : Option (Bor ExceptionView)) (f : Arm64RuntimeFunction) (info : Option (Result Arm64InfoView Refusal)) (answer : Result Arm64StackFrame WalkEnd) → arm64.CallsByInfo p (module_with v x) f s info answer → arm64.CallsByInfo p (module_with v y) f s info answer
  same_info x y f None answer h = h
  same_info x y f (Some (Err r)) answer h = h
  same_info x y f (Some (Ok i)) answer h = h

  same_arm64_function : (x y : Option (Bor ExceptionView)) (e : ExceptionView) (found : Result (Option Arm64RuntimeFunction) Refusal) (answer : Result Arm64StackFrame WalkEnd) → arm64.CallsFound p (module_with v x) e s found answer → arm64.CallsFound p (module_with v y) e s found answer
  same_arm64_function x y e (Err r) answer h = h
  same_arm64_function x y e (Ok None) answer h = h
  same_arm64_function x y e (Ok (Some f)) answer h = same_info x y f (info_by (map_of_module (module_with v x) e) e.content f) answer h

  same_arm64_data : (x y : Option (Bor ExceptionView)) (seen : Option ExceptionView) (answer : Result Arm64StackFrame WalkEnd) → arm64.CallsBy p (module_with v x) s seen answer → arm64.CallsBy p (module_with v y) s seen answer
  same_arm64_data x y None answer h = h
  same_arm64_data x y (Some e) answer h = (h.0, h.1, same_arm64_function x y e h.0 answer h.2)

  pub viewed_arm64_caller : (x : Option (Bor ExceptionView)) (m : Module) (answer : Result Arm64StackFrame WalkEnd) → m ≡ module_with v x → option_copied x ≡ exceptions_of v → arm64.CallsIn p s (Some m) answer → arm64.CallsIn p s (Some (module_of v)) answer
  viewed_arm64_caller x m answer is seen h =
      let there : arm64.CallsIn p s (Some (module_with v x)) answer = subst (λ (n : Module). arm64.CallsIn p s (Some n) answer) is h in
      let read : arm64.CallsBy p (module_with v x) s (exceptions_of v) answer = subst (λ (d : Option ExceptionView). arm64.CallsBy p (module_with v x) s d answer) (value_of x (exceptions_of v) seen) there in
      subst (λ (d : Option ExceptionView). arm64.CallsBy p (module_of v) s d answer) (sym (value_of_ref (exceptions_of v))) (same_arm64_data x (option_map (λ e. record { ref_ptr = (0, 0); now = e }) (exceptions_of v)) (exceptions_of v) answer read)
