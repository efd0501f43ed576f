-- What runs of a prolog keep.
use Rattle.std.proofs.Common.{◌≡◌, ◌≢◌, ℕ, ◌-◌, ◌≤◌, Bool, List, ◌∷◌, length, get_or, set, Option, Some, None, refl, sym, arith, rules, []}
use Rattle.pe_frame.proofs.Cited.{AllByRecursion, get_or-set_same, get_or-set_other, length-set, UnwindOperation, PushNonVolatile, Alloc}
use Rattle.pe_frame.proofs.Cited.{SetFPRegister, SaveNonVolatile, SaveXMM, Epilog, SaveXMM128, PushMachineFrame, Noop, FrameRegister}
use Rattle.pe_frame.proofs.Cited.{Machine, machine_stack_pointer, base, run, slots, return_slots, IsEntered, MaySave, IsProlog}

pub entered : (c : Bool) (f : FrameRegister) (codes : List UnwindOperation) (s : Machine) → IsProlog c f codes s → IsEntered s
entered c f [] s p = p
entered c f (o ∷ before) s p = entered c f before s p.1

-- the number of registers stays
pub count : (c : Bool) (f : FrameRegister) (codes : List UnwindOperation) (s : Machine) → IsProlog c f codes s → length (run f codes s).general ≡ 16
count c f [] s p = p.count
count c f (other ∷ before) s p = grind (arith, length-set, count c f before s)

pub may_none : (frame : Option ℕ) (register r : ℕ) → frame ≡ None → MaySave frame register r
may_none frame register r e = grind arith

-- a register that is saved has its value from the entry
pub same : (c : Bool) (f : FrameRegister) (codes : List UnwindOperation) (s : Machine) (r : ℕ) → IsProlog c f codes s → r ≢ 4 → MaySave (run f codes s).frame_base f.register r → get_or (run f codes s).general r 0 ≡ get_or s.general r 0
same c f [] s r p other m = refl
same c f (op ∷ before) s r p other m = grind (arith, get_or-set_other, may_none, same c f before s r)

-- no operation changes an XMM register
pub same_xmm : (f : FrameRegister) (codes : List UnwindOperation) (s : Machine) → (run f codes s).xmm ≡ s.xmm
same_xmm f [] s = refl
same_xmm f (PushNonVolatile q ∷ before) s = same_xmm f before s
same_xmm f (Alloc n ∷ before) s = same_xmm f before s
same_xmm f (SetFPRegister ∷ before) s = same_xmm f before s
same_xmm f (SaveNonVolatile q o ∷ before) s = same_xmm f before s
same_xmm f (SaveXMM q o ∷ before) s = same_xmm f before s
same_xmm f (Epilog a b ∷ before) s = same_xmm f before s
same_xmm f (SaveXMM128 q o ∷ before) s = same_xmm f before s
same_xmm f (PushMachineFrame e ∷ before) s = same_xmm f before s
same_xmm f (Noop ∷ before) s = same_xmm f before s

-- the stack pointer after one is written
pub pointer_set : (g : List ℕ) (v : ℕ) → length g ≡ 16 → get_or (set g 4 v) 4 0 ≡ v
pointer_set g v e = get_or-set_same g 4 v 0 (omega arith)

pub pointer_other : (g : List ℕ) (r v : ℕ) → r ≢ 4 → get_or (set g r v) 4 0 ≡ get_or g 4 0
pointer_other g r v other = get_or-set_other g r 4 v 0 (λ e. other (sym e))

-- the stack pointer never rises
pub sinks : (c : Bool) (f : FrameRegister) (codes : List UnwindOperation) (s : Machine) → IsProlog c f codes s → machine_stack_pointer (run f codes s) ≤ machine_stack_pointer s
sinks c f [] s p = omega arith
sinks c f (other ∷ before) s p = grind (arith, pointer_set, count, pointer_other, sinks c f before s)

-- the base of the frame is not below the stack pointer
pub above : (c : Bool) (f : FrameRegister) (codes : List UnwindOperation) (s : Machine) (b : ℕ) → IsProlog c f codes s → (run f codes s).frame_base ≡ Some b → machine_stack_pointer (run f codes s) ≤ b
above c f [] s b p e = cc
above c f (other ∷ before) s b p e = grind (arith, pointer_set, count, pointer_other, above c f before s b)

pub base_above : (c : Bool) (f : FrameRegister) (codes : List UnwindOperation) (s : Machine) → IsProlog c f codes s → machine_stack_pointer (run f codes s) ≤ base (run f codes s)
base_above c f codes s p = grind (arith, above)

lower : (xs : List ℕ) (t u : ℕ) → u ≤ t → AllByRecursion (λ a. t ≤ a) xs → AllByRecursion (λ a. u ≤ a) xs
lower [] t u h all = tt
lower (x ∷ xs) t u h all = (let a : t ≤ x = all.0 in omega arith, lower xs t u h all.1)

return_above : (c : Bool) (s : Machine) → AllByRecursion (λ a. machine_stack_pointer s ≤ a) (return_slots c s)
return_above c s = grind arith

-- no slot is below the stack pointer
pub slots_above : (c : Bool) (f : FrameRegister) (codes : List UnwindOperation) (s : Machine) → IsProlog c f codes s → AllByRecursion (λ a. machine_stack_pointer (run f codes s) ≤ a) (slots c f codes s)
slots_above c f [] s p = return_above c s
slots_above c f (PushNonVolatile r ∷ before) s p =
    let t = pointer_set (run f before s).general (machine_stack_pointer (run f before s) - 8) (count c f before s p.1) in
    (omega arith, lower (slots c f before s) (machine_stack_pointer (run f before s)) _ (omega arith) (slots_above c f before s p.1))
slots_above c f (Alloc n ∷ before) s p =
    let t = pointer_set (run f before s).general (machine_stack_pointer (run f before s) - n) (count c f before s p.1) in
    lower (slots c f before s) (machine_stack_pointer (run f before s)) _ (omega arith) (slots_above c f before s p.1)
slots_above c f (SetFPRegister ∷ before) s p = search (rules, arith, pointer_other, lower, slots_above c f before s)
slots_above c f (SaveXMM r o ∷ before) s p = absurd p.0
slots_above c f (Epilog x y ∷ before) s p = slots_above c f before s p.1
slots_above c f (PushMachineFrame x ∷ before) s p = grind (arith, sinks, slots_above c f before s)
slots_above c f (Noop ∷ before) s p = slots_above c f before s p.1
slots_above c f (other ∷ before) s p = grind (arith, base_above, slots_above c f before s)
