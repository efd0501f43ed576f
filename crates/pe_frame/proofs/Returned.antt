-- What is left of an epilog leads to the caller.
use Rattle.std.proofs.Common.{◌≡◌, ◌≢◌, ℕ, ◌+◌, ◌-◌, ◌%◌, ◌/◌, ◌^◌, ◌<◌, ◌≤◌, ◌⊎◌, ◌||◌, inl, inr, Bool, true, false, eqb, List, ◌∷◌, ◌++◌, length, get_or, set, Option, Some, None, Result, Ok, Err, refl, ap, sym, ◌∙◌, subst, arith, rules, []}
use Rattle.pe_frame.proofs.Cited.{◌>>=◌, if◌then◌else◌, IsSome, AllByRecursion, lt-ltb, nat_tests, get_or-set_other, get_or-set_same}
use Rattle.pe_frame.proofs.Cited.{length-set, set-get_or, set-set, Register, UnwindOperation, PushNonVolatile, Alloc, SetFPRegister}
use Rattle.pe_frame.proofs.Cited.{SaveNonVolatile, SaveXMM, Epilog, SaveXMM128, PushMachineFrame, Noop, Instruction, Add, Lea, Pop}
use Rattle.pe_frame.proofs.Cited.{FrameError, Registers, FrameRegister, bytes_above, stack_pointer, put_register, put_xmm, number, raised}
use Rattle.pe_frame.proofs.Cited.{undone, undone_all, popped, any_sets_frame_register, is_interrupted, ran, UnwindInfoView}
use Rattle.pe_frame.proofs.Cited.{frame_register_in, rising, Machine, machine_stack_pointer, base, run, IsProlog, PushesLate}
use Rattle.pe_frame.proofs.Cited.{KeepsStackPointer, saves, saves_xmm, chosen, Part, infos, left, registers_of, SavesOrKeeps, AreFrames}
use Rattle.pe_frame.proofs.Cited.{restored, restored_xmm, IsCaller, moved, epilog_at, executed, executed_all, StepsFrom, StepsWithCode}
use Rattle.pe_frame.proofs.Cited.{Exits, Pops, moves, allocated, pushes, LeadsBack, Leads, Frees, FreesAndPops, AreRestored, IsBack}
use Rattle.pe_frame.proofs.Cited.{IsEpilogOfParts, AreReady}
use Rattle.pe_frame.proofs.Runs.{count, entered, pointer_set, pointer_other, sinks}
use Rattle.pe_frame.proofs.Saved.{Holds, holds, known}
use Rattle.pe_frame.proofs.Frames.{entry_of, frames_also, called}
use Rattle.pe_frame.proofs.Tails.{then_ok, executed_append}
use Rattle.pe_frame.proofs.Undone as undone

-- what a step that succeeded was
pub record Went {A B : Type 0} (x : Result A FrameError) (f : A → Result B FrameError) (y : B) : Type 0 where
  pub value : A
  pub first : x ≡ Ok value
  pub next : f value ≡ Ok y

pub went : {A B : Type 0} (x : Result A FrameError) (f : A → Result B FrameError) (y : B) → (x >>= f) ≡ Ok y → Went x f y
went x f y e = grind arith

-- registers that are so far above others
pub record IsAbove (n : ℕ) (g v : Registers) : Type 0 where
  pub count : length v.general ≡ 16
  pub pointer_is : stack_pointer v ≡ stack_pointer g + n

picked : (b : Bool) (x y : ℕ) (d : FrameError) → (if b then Ok x else Err d) ≡ Ok y → y ≡ x
picked b x y d e = grind arith

raised_rose : (n : ℕ) (g v : Registers) → length g.general ≡ 16 → raised n g ≡ Ok v → IsAbove n g v
raised_rose n g v len e = grind (arith, went, picked, length-set, pointer_set)

push_rose : (m : ℕ → Option ℕ) (b : ℕ) (r : Register) (g v : Registers) → r.0 ≢ 4 → length g.general ≡ 16 → undone m b (PushNonVolatile r) g ≡ Ok v → IsAbove 8 g v
push_rose m b r g v other len e = search (rules, arith, went, picked, raised_rose, length-set, pointer_other)

pub popped_rose : (m : ℕ → Option ℕ) (g u : Registers) → length g.general ≡ 16 → popped m g ≡ Ok u → IsAbove 8 g u
popped_rose m g u len e = search (rules, arith, went, raised_rose)

-- what comes to the same registers came to them by the same way
all_of : (m : ℕ → Option ℕ) (is js : List Instruction) (g u : Registers) → is ≡ js → executed_all m is g ≡ Ok u → executed_all m js g ≡ Ok u
all_of m is js g u e h = ap (λ (ks : List Instruction). executed_all m ks g) (sym e) ∙ h

put_same : (g : Registers) → put_register g 4 (stack_pointer g) ≡ g
put_same g = ap (λ (xs : List ℕ). record { general = xs; xmm = g.xmm; rip = g.rip }) (set-get_or g.general 4 0)

-- pops of an epilog pop no stack pointer
abbrev Spares : List UnwindOperation → Type 0
Spares [] = Unit {0}
Spares (PushNonVolatile r ∷ before) = (r.0 ≢ 4) × Spares before
Spares (other ∷ before) = Spares before

-- where the frame register was set the stack pointer has come to the base of the frame
abbrev Reaches : ℕ → ℕ → List UnwindOperation → Type 0
Reaches b p [] = Unit {0}
Reaches b p (PushNonVolatile r ∷ before) = Reaches b (p + 8) before
Reaches b p (SetFPRegister ∷ before) = (p ≡ b) × Reaches b b before
Reaches b p (other ∷ before) = Unit {0}

exit_alone : (m : ℕ → Option ℕ) (is : List Instruction) (g : Registers) → Pops [] is → executed_all m is g ≡ popped m g
exit_alone m is g p = grind (arith, then_ok)

-- where undoing the pushes and popping the return address comes to the caller, pops and the exit do
pops_come : (m : ℕ → Option ℕ) (b : ℕ) (codes : List UnwindOperation) (is : List Instruction) (g e u : Registers) → Spares codes → Reaches b (stack_pointer g) codes → length g.general ≡ 16 →
    undone_all m b codes g ≡ Ok e → popped m e ≡ Ok u → Pops codes is → executed_all m is g ≡ Ok u
pops_come m b [] is g e u spares reaches len un up p = grind (arith, exit_alone)
pops_come m b (PushNonVolatile r ∷ before) is g e u spares reaches len un up p = search (rules, arith, went, push_rose, pops_come m b before)
pops_come m b (SetFPRegister ∷ before) is g e u spares reaches len un up p = grind (arith, put_same, pops_come m b before is g e u spares)
pops_come m b (other ∷ before) is g e u spares reaches len un up p = absurd p

-- the stack pointer before the last push, by the base of the frame and the stack pointer
abbrev trail : ℕ → ℕ → List UnwindOperation → ℕ
trail b p (Alloc n ∷ before) = trail b (p + n) before
trail b p (SetFPRegister ∷ before) = trail b b before
trail b p codes = p

-- undoing goes through it
abbrev Trails : (ℕ → Option ℕ) → ℕ → List UnwindOperation → Registers → Registers → Type 0
Trails m b codes g e = undone_all m b (pushes codes) (put_register g 4 (trail b (stack_pointer g) codes)) ≡ Ok e

trails_here : (m : ℕ → Option ℕ) (b : ℕ) (codes : List UnwindOperation) (g e : Registers) → undone_all m b codes g ≡ Ok e → undone_all m b codes (put_register g 4 (stack_pointer g)) ≡ Ok e
trails_here m b codes g e h = ap (λ (x : Registers). undone_all m b codes x) (put_same g) ∙ h

trails_next : (m : ℕ → Option ℕ) (b : ℕ) (before : List UnwindOperation) (g v e : Registers) (p : ℕ) → put_register g 4 p ≡ v → stack_pointer v ≡ p → Trails m b before v e →
    undone_all m b (pushes before) (put_register g 4 (trail b p before)) ≡ Ok e
trails_next m b before g v e p same at t = grind (arith, set-set)

-- what freeing stack did
record IsRaised (n : ℕ) (g v : Registers) : Type 0 where
  pub same : put_register g 4 (stack_pointer g + n) ≡ v
  pub count : length v.general ≡ 16
  pub pointer_is : stack_pointer v ≡ stack_pointer g + n

raised_is : (n : ℕ) (g v : Registers) → length g.general ≡ 16 → raised n g ≡ Ok v → IsRaised n g v
raised_is n g v len e = search (rules, arith, went, picked, raised_rose)

trails : (m : ℕ → Option ℕ) (b : ℕ) (codes : List UnwindOperation) (g e : Registers) → length g.general ≡ 16 → undone_all m b codes g ≡ Ok e → Trails m b codes g e
trails m b [] g e len h = trails_here m b [] g e h
trails m b (Alloc n ∷ before) g e len h = grind (arith, went, raised_is, trails_next, trails m b before (went (raised n g) (undone_all m b before) e h).value e)
trails m b (SetFPRegister ∷ before) g e len h =
    let v : Registers = put_register g 4 b in
    trails_next m b before g v e b refl (pointer_set g.general b len) (trails m b before v e (length-set g.general 4 b ∙ len) h)
trails m b (other ∷ before) g e len h = trails_here m b (other ∷ before) g e h

-- with a frame register: the stack pointer is where the prolog left it, and this is the base
abbrev IsExact : Option ℕ → ℕ → ℕ → ℕ → Type 0
IsExact None b p t = Unit {0}
IsExact (Some c) b p t = (p ≡ t) × (c ≡ b)

exact_none : (frame : Option ℕ) (b p t : ℕ) → frame ≡ None → IsExact frame b p t
exact_none frame b p t e = grind arith

exact_alloc : (frame : Option ℕ) (b p n t u : ℕ) → u ≡ t - n → n ≤ t → IsExact frame b p u → IsExact frame b (p + n) t
exact_alloc frame b p n t u e small h = grind arith

-- from there on the stack pointer moves by what was allocated
trail_sum : (c : Bool) (f : FrameRegister) (codes : List UnwindOperation) (s : Machine) (b p : ℕ) → IsProlog c f codes s → IsExact (run f codes s).frame_base b p (machine_stack_pointer (run f codes s)) → trail b p (moves codes) ≡ p + allocated (moves codes)
trail_sum c f [] s b p q h = omega arith
trail_sum c f (Alloc n ∷ before) s b p q h = grind (arith, pointer_set, count, exact_alloc, trail_sum c f before s b (p + n))
trail_sum c f (SetFPRegister ∷ before) s b p q h = grind (arith, exact_none, pointer_other, trail_sum c f before s b b)
trail_sum c f (PushNonVolatile r ∷ before) s b p q h = omega arith
trail_sum c f (SaveXMM r o ∷ before) s b p q h = absurd q.0
trail_sum c f (PushMachineFrame x ∷ before) s b p q h = omega arith
trail_sum c f (other ∷ before) s b p q h = trail_sum c f before s b p q.1 h

-- from the last push on the pops come to the base of the frame
reaches_pops : (c : Bool) (f : FrameRegister) (codes : List UnwindOperation) (s : Machine) (b p : ℕ) → IsProlog c f codes s → IsExact (run f codes s).frame_base b p (machine_stack_pointer (run f codes s)) → Reaches b p (moves codes)
reaches_pops c f [] s b p q h = tt
reaches_pops c f (PushNonVolatile r ∷ before) s b p q h = grind (arith, pointer_set, count, exact_alloc, reaches_pops c f before s b (p + 8))
reaches_pops c f (SetFPRegister ∷ before) s b p q h = grind (arith, pointer_other, exact_none, reaches_pops c f before s b b)
reaches_pops c f (Alloc n ∷ before) s b p q h = tt
reaches_pops c f (SaveXMM r o ∷ before) s b p q h = absurd q.0
reaches_pops c f (PushMachineFrame x ∷ before) s b p q h = tt
reaches_pops c f (other ∷ before) s b p q h = reaches_pops c f before s b p q.1 h

-- so they do from where what was allocated is freed
reaches_of : (c : Bool) (f : FrameRegister) (codes : List UnwindOperation) (s : Machine) (b p : ℕ) → IsProlog c f codes s → IsExact (run f codes s).frame_base b p (machine_stack_pointer (run f codes s)) → Reaches b (trail b p (moves codes)) (pushes (moves codes))
reaches_of c f [] s b p q h = tt
reaches_of c f (Alloc n ∷ before) s b p q h = grind (arith, pointer_set, count, exact_alloc, reaches_of c f before s b (p + n))
reaches_of c f (SetFPRegister ∷ before) s b p q h = reaches_of c f before s b b q.1 (exact_none (run f before s).frame_base b b (machine_stack_pointer (run f before s)) q.0.1)
reaches_of c f (PushNonVolatile r ∷ before) s b p q h = reaches_pops c f (PushNonVolatile r ∷ before) s b p q h
reaches_of c f (SaveXMM r o ∷ before) s b p q h = absurd q.0
reaches_of c f (PushMachineFrame x ∷ before) s b p q h = tt
reaches_of c f (other ∷ before) s b p q h = reaches_of c f before s b p q.1 h

-- `lea` leads there, and from there the pops come to the base of the frame
record IsLed (f : FrameRegister) (d b p : ℕ) (codes : List UnwindOperation) (frame : Option ℕ) : Type 0 where
  pub framed : IsSome frame
  pub reaches : Reaches b (trail b p codes) (pushes codes)
  pub is : trail b p codes < 2 ^ 64 → moved (b + f.offset) d ≡ trail b p codes

-- the frame register leads where `lea` wants
led : (b o d n : ℕ) → moved o d ≡ n → b + n < 2 ^ 64 → moved (b + o) d ≡ b + n
led b o d n e small = omega arith

led_here : (b o d p size : ℕ) → p + size ≡ b → moved o (d + size) ≡ 0 → p < 2 ^ 64 → moved (b + o) d ≡ p
led_here b o d p size at h small = omega arith

-- it does so back over registers that were pushed since it was set
led_back : (f : FrameRegister) (codes : List UnwindOperation) (d b p size : ℕ) → LeadsBack f d size codes → Reaches b (p + size) codes → p < 2 ^ 64 → moved (b + f.offset) d ≡ p
led_back f [] d b p size h reaches small = absurd h
led_back f (PushNonVolatile r ∷ before) d b p size h reaches small = grind (arith, led_back f before d b p (size + 8) h)
led_back f (SetFPRegister ∷ before) d b p size h reaches small = grind (arith, led_here)
led_back f (other ∷ before) d b p size h reaches small = absurd h

-- such a prolog set a frame register
set_before : (c : Bool) (f : FrameRegister) (codes : List UnwindOperation) (s : Machine) (d size : ℕ) → IsProlog c f codes s → LeadsBack f d size (moves codes) → IsSome (run f codes s).frame_base
set_before c f [] s d size q h = absurd h
set_before c f (PushNonVolatile r ∷ before) s d size q h = set_before c f before s d (size + 8) q.1 h
set_before c f (Alloc n ∷ before) s d size q h = absurd h
set_before c f (SetFPRegister ∷ before) s d size q h = refl
set_before c f (SaveXMM r o ∷ before) s d size q h = absurd q.0
set_before c f (PushMachineFrame x ∷ before) s d size q h = absurd h
set_before c f (other ∷ before) s d size q h = set_before c f before s d size q.1 h

led_by : (c : Bool) (f : FrameRegister) (codes : List UnwindOperation) (s : Machine) (d b p : ℕ) → IsProlog c f codes s → Leads f d (moves codes) → (PushesLate codes → IsExact (run f codes s).frame_base b p (machine_stack_pointer (run f codes s))) →
    IsLed f d b p (moves codes) (run f codes s).frame_base
led_by c f [] s d b p q h exact = absurd h
led_by c f (Alloc n ∷ before) s d b p q h exact = grind (arith, pointer_set, count, exact_alloc, led_by c f before s d b (p + n))
led_by c f (SetFPRegister ∷ before) s d b p q h exact = grind (arith, exact_none, trail_sum, reaches_of, led)
led_by c f (PushNonVolatile r ∷ before) s d b p q h exact =
    let reaches = reaches_pops c f (PushNonVolatile r ∷ before) s b p q (exact tt) in
    record { framed = set_before c f before s d 8 q.1 h; reaches = reaches; is = led_back f (moves before) d b p 8 h reaches }
led_by c f (SaveXMM r o ∷ before) s d b p q h exact = absurd q.0
led_by c f (PushMachineFrame x ∷ before) s d b p q h exact = absurd h
led_by c f (other ∷ before) s d b p q h exact = led_by c f before s d b p q.1 h exact

-- writing the stack pointer changes no register that was saved
restored_moved : (c : Bool) (f : FrameRegister) (codes : List UnwindOperation) (s : Machine) (g : Registers) (x : ℕ) → IsProlog c f codes s → AreRestored codes s g → AreRestored codes s (put_register g 4 x)
restored_moved c f [] s g x p h = tt
restored_moved c f (other ∷ before) s g x p h = grind (arith, get_or-set_other, restored_moved c f before s g x)

same_or_other : (r q v : ℕ) (b : Bool) (xs old : List ℕ) → eqb r q ≡ b → length xs ≡ 16 → q < 16 → v ≡ get_or old q 0 → get_or xs r 0 ≡ get_or old r 0 → get_or (set xs q v) r 0 ≡ get_or old r 0
same_or_other r q v b xs old e len small is h = grind (arith, nat_tests, get_or, get_or-set_same, get_or-set_other)

-- nor does a register that has its value from the entry
restored_put : (codes : List UnwindOperation) (s : Machine) (g : Registers) (q : ℕ) → length g.general ≡ 16 → q < 16 → AreRestored codes s g → AreRestored codes s (put_register g q (get_or s.general q 0))
restored_put [] s g q len small h = tt
restored_put (SaveNonVolatile r o ∷ before) s g q len small h = grind (arith, same_or_other, get_or, restored_put before s g q len small)
restored_put (SaveXMM128 r o ∷ before) s g q len small h = (h.0, restored_put before s g q len small h.1)
restored_put (other ∷ before) s g q len small h = restored_put before s g q len small h

-- pops that undo pushes undo the pushes below a frame register that is set
pops_pushes : (codes : List UnwindOperation) (is : List Instruction) → Pops codes is → Pops (pushes codes) is
pops_pushes [] is p = p
pops_pushes (PushNonVolatile r ∷ before) is p = p
pops_pushes (SetFPRegister ∷ before) is p = pops_pushes before is p
pops_pushes (other ∷ before) is p = absurd p

-- a step that changes nothing can be left out
stays_then : (m : ℕ → Option ℕ) (b : ℕ) (o : UnwindOperation) (before : List UnwindOperation) (g v e : Registers) → undone m b o g ≡ Ok v → v ≡ g → undone_all m b (o ∷ before) g ≡ Ok e → undone_all m b before g ≡ Ok e
stays_then m b o before g v e step same h = cc

-- where saved registers are restored, undoing their saves changes nothing
unsaved : (m : ℕ → Option ℕ) (b : ℕ) (c : Bool) (f : FrameRegister) (codes : List UnwindOperation) (s : Machine) (g e : Registers) (is : List Instruction) → IsProlog c f codes s → Holds (λ a v. m a ≡ Some v) c f codes s →
    undone.HasBase (run f codes s).frame_base codes (machine_stack_pointer (run f codes s)) b → undone.Points (run f codes s).frame_base codes (machine_stack_pointer (run f codes s)) (stack_pointer g) → AreRestored codes s g → Pops (pushes (moves codes)) is → length g.general ≡ 16 → undone_all m b codes g ≡ Ok e → undone_all m b (moves codes) g ≡ Ok e
unsaved m b c f [] s g e is p k hb pt r q len h = h
unsaved m b c f (PushNonVolatile i ∷ before) s g e is p k hb pt r q len h =
    let t = machine_stack_pointer (run f before s) in
    let set_top = pointer_set (run f before s).general (t - 8) (count c f before s p.1) in
    let at : stack_pointer g ≡ t - 8 = undone.pushed_points (run f before s).frame_base i before _ (stack_pointer g) pt ∙ set_top in
    let low = sinks c f before s p.1 in
    let room = (entered c f before s p.1).values 4 in
    let v = get_or s.general i.0 0 in
    let next : Registers = put_register (put_register g i.0 v) 4 (stack_pointer g + 8) in
    let step = undone.pop_ok m b i g v p.0.0.number p.0.0.other (ap m at ∙ k.0) (omega (arith, p.0.3)) in
    let len_set : length (set g.general i.0 v) ≡ 16 = length-set g.general i.0 v ∙ len in
    let len_next : length next.general ≡ 16 = length-set (set g.general i.0 v) 4 (stack_pointer g + 8) ∙ len_set in
    let stack : stack_pointer next ≡ t = pointer_set (set g.general i.0 v) (stack_pointer g + 8) len_set ∙ omega (arith, p.0.3) in
    let still : AreRestored before s next = restored_moved c f before s (put_register g i.0 v) (stack_pointer g + 8) p.1 (restored_put before s g i.0 len p.0.0.number r) in
    let hb_next = undone.base_moved (run f before s).frame_base (PushNonVolatile i ∷ before) before _ t b p.0.2 hb in
    let after : undone_all m b before next ≡ Ok e = ap (λ (x : Result Registers FrameError). x >>= undone_all m b before) (sym step) ∙ h in
    let rest = unsaved m b c f before s next e q.0 p.1 k.1 hb_next (undone.points_exact _ before t (stack_pointer next) stack) still (pops_pushes (moves before) q.0 q.2) len_next after in
    ap (λ (x : Result Registers FrameError). x >>= undone_all m b (moves before)) step ∙ rest
unsaved m b c f (Alloc n ∷ before) s g e is p k hb pt r q len h =
    let t = machine_stack_pointer (run f before s) in
    let set_top : machine_stack_pointer (run f (Alloc n ∷ before) s) ≡ t - n = pointer_set (run f before s).general (t - n) (count c f before s p.1) in
    let w = went (raised n g) (undone_all m b before) e h in
    let a = raised_is n g w.value len w.first in
    let still : AreRestored before s w.value = subst (λ (x : Registers). AreRestored before s x) a.same (restored_moved c f before s g (stack_pointer g + n) p.1 r) in
    let hb_next = undone.base_moved (run f before s).frame_base (Alloc n ∷ before) before (machine_stack_pointer (run f (Alloc n ∷ before) s)) (machine_stack_pointer (run f before s)) b p.0.0 hb in
    let here : undone.Points (run f before s).frame_base (Alloc n ∷ before) (t - n) (stack_pointer g) = subst (λ (x : ℕ). undone.Points (run f before s).frame_base (Alloc n ∷ before) x (stack_pointer g)) set_top pt in
    let pt_next : undone.Points (run f before s).frame_base before t (stack_pointer w.value) = subst (λ (x : ℕ). undone.Points (run f before s).frame_base before t x) (sym a.pointer_is) (undone.points_raised (run f before s).frame_base before t (stack_pointer g) n p.0.1 here) in
    let rest = unsaved m b c f before s w.value e is p.1 k hb_next pt_next still q a.count w.next in
    ap (λ (x : Result Registers FrameError). x >>= undone_all m b (moves before)) w.first ∙ rest
unsaved m b c f (SetFPRegister ∷ before) s g e is p k hb pt r q len h = grind (arith, undone.base_none, pointer_set, undone.points_exact, restored_moved, length-set, unsaved m b c f before s (put_register g 4 b) e is)
unsaved m b c f (SaveNonVolatile i o ∷ before) s g e is p k hb pt r q len h = grind (arith, get_or, undone.base_saved, undone.load_ok, set-get_or, undone.base_saved_rest, undone.points_weaker, stays_then, unsaved m b c f before s g e is)
unsaved m b c f (SaveXMM i o ∷ before) s g e is p k hb pt r q len h = absurd p.0
unsaved m b c f (SaveXMM128 i o ∷ before) s g e is p k hb pt r q len h =
    let t = machine_stack_pointer (run f before s) in
    let v = get_or s.xmm (i.0 - 17) 0 in
    let is_base : base (run f before s) ≡ b = undone.base_xmm (run f before s).frame_base i o before t b hb in
    let low : m (b + bytes_above o) ≡ Some (v % 2 ^ 64) = ap (λ (x : ℕ). m (x + bytes_above o)) (sym is_base) ∙ k.0 in
    let high : m (b + bytes_above o + 8) ≡ Some (v / 2 ^ 64) = ap (λ (x : ℕ). m (x + bytes_above o + 8)) (sym is_base) ∙ k.1.0 in
    let step = undone.load_xmm m b i o g v p.0.0.least p.0.0.most low high (omega (arith, p.0.1)) in
    let same : put_xmm g (i.0 - 17) v ≡ g =
    ap (λ (x : ℕ). put_xmm g (i.0 - 17) x) (sym r.0) ∙ ap (λ (xs : List ℕ). record { general = g.general; xmm = xs; rip = g.rip }) (set-get_or g.xmm (i.0 - 17) 0) in
    let hb_next = undone.base_wide_rest (run f before s).frame_base i o before t b hb in
    unsaved m b c f before s g e is p.1 k.1.1 hb_next (undone.points_weaker (run f before s).frame_base (SaveXMM128 i o ∷ before) before (machine_stack_pointer (run f before s)) (stack_pointer g) (λ z. z) pt) r.1 q len (stays_then m b (SaveXMM128 i o) before g (put_xmm g (i.0 - 17) v) e step same h)
unsaved m b c f (PushMachineFrame x ∷ before) s g e is p k hb pt r q len h = absurd q
unsaved m b c f (other ∷ before) s g e is p k hb pt r q len h = grind (arith, undone.base_weaker, undone.points_weaker, unsaved m b c f before s g e is)

-- the frame register has its value from the prolog
value_of : (c : Bool) (f : FrameRegister) (codes : List UnwindOperation) (s : Machine) (b : ℕ) (g : Registers) (frame : Option ℕ) → IsProlog c f codes s → (run f codes s).frame_base ≡ frame → IsSome frame →
    undone.HasBase frame codes (machine_stack_pointer (run f codes s)) b → KeepsStackPointer f codes frame (run f codes s).general g → get_or g.general f.register 0 ≡ b + f.offset
value_of c f codes s b g None p e some hb k = cc
value_of c f codes s b g (Some x) p e some hb k = k.2 ∙ ((undone.is_set c f codes s x p e).value ∙ ap (λ (y : ℕ). y + f.offset) hb)

exact_of : (frame : Option ℕ) (codes : List UnwindOperation) (t b p : ℕ) → undone.HasBase frame codes t b → (IsSome frame → p ≡ t) → IsExact frame b p t
exact_of frame codes t b p hb back = grind arith

-- with a register that was pushed late, a body keeps it so
kept_late : (f : FrameRegister) (codes : List UnwindOperation) (frame : Option ℕ) (there : List ℕ) (b : ℕ) (g : Registers) → undone.HasBase frame codes (get_or there 4 0) b → KeepsStackPointer f codes frame there g → PushesLate codes → IsExact frame b (stack_pointer g) (get_or there 4 0)
kept_late f codes frame there b g hb k late = grind arith

-- no list of pops starts with `lea`
abbrev HasNoLea : List Instruction → Type 0
HasNoLea (Lea r d ∷ is) = ⊥
HasNoLea is = Unit {0}

exit_no_lea : (i : Instruction) → Exits i → HasNoLea (i ∷ [])
exit_no_lea i h = grind arith

pops_no_lea : (codes : List UnwindOperation) (is : List Instruction) → Pops codes is → HasNoLea is
pops_no_lea [] is p = subst HasNoLea (sym p.2) (exit_no_lea p.0 p.1)
pops_no_lea (PushNonVolatile r ∷ before) is p = subst HasNoLea (sym p.1) tt
pops_no_lea (SetFPRegister ∷ before) is p = pops_no_lea before is p
pops_no_lea (other ∷ before) is p = absurd p

back_of : (is : List Instruction) (left : Machine) (g : Registers) → HasNoLea is → IsBack is left g → IsSome left.frame_base → stack_pointer g ≡ machine_stack_pointer left
back_of is left g none h = grind arith

spares_moves : (c : Bool) (f : FrameRegister) (codes : List UnwindOperation) (s : Machine) → IsProlog c f codes s → Spares (moves codes)
spares_moves c f [] s p = tt
spares_moves c f (other ∷ before) s p = grind (arith, spares_moves c f before s)

spares_pushes : (codes : List UnwindOperation) → Spares codes → Spares (pushes codes)
spares_pushes [] h = h
spares_pushes (Alloc n ∷ before) h = spares_pushes before h
spares_pushes (SetFPRegister ∷ before) h = spares_pushes before h
spares_pushes (other ∷ before) h = h

-- no interrupt entered the function
plain_moves : (codes : List UnwindOperation) (is : List Instruction) → Pops (moves codes) is → is_interrupted codes ≡ false
plain_moves [] is p = refl
plain_moves (PushNonVolatile r ∷ before) is p = plain_moves before p.0 p.2
plain_moves (Alloc n ∷ before) is p = absurd p
plain_moves (SaveXMM r o ∷ before) is p = absurd p
plain_moves (PushMachineFrame e ∷ before) is p = absurd p
plain_moves (other ∷ before) is p = plain_moves before is p

plain : (codes : List UnwindOperation) (is : List Instruction) → Pops (pushes (moves codes)) is → is_interrupted codes ≡ false
plain [] is p = refl
plain (PushNonVolatile r ∷ before) is p = plain_moves before p.0 p.2
plain (SaveXMM r o ∷ before) is p = absurd p
plain (PushMachineFrame e ∷ before) is p = absurd p
plain (other ∷ before) is p = plain before is p

all_rise : (m : ℕ → Option ℕ) (codes : List UnwindOperation) (is : List Instruction) (g u : Registers) → Spares codes → Pops codes is → length g.general ≡ 16 →
    executed_all m is g ≡ Ok u → stack_pointer g < stack_pointer u
all_rise m [] is g u p q len e = search (rules, arith, popped_rose, exit_alone)
all_rise m (PushNonVolatile r ∷ before) is g u p q len e =
    let w = went (executed m (Pop r.0) g) (executed_all m q.0) u (ap (λ (js : List Instruction). executed_all m js g) (sym q.1) ∙ e) in
    let rose = push_rose m 0 r g w.value p.0 len w.first in
    omega (arith, rose.pointer_is, all_rise m before q.0 w.value u p.1 q.2 rose.count w.next)
all_rise m (SetFPRegister ∷ before) is g u p q len e = all_rise m before is g u p q len e
all_rise m (other ∷ before) is g u p q len e = absurd q

none_append : (before rest : List Instruction) (i : Instruction) → [] ≡ before ++ (i ∷ rest) → ⊥
none_append [] rest i e = cc
none_append (j ∷ before) rest i e = cc

-- once the first instruction has run, the stack pointer is below that of the caller wherever the others have come to
rises : (m : ℕ → Option ℕ) (codes : List UnwindOperation) (is before rest : List Instruction) (i : Instruction) (g h u : Registers) → Spares codes → Pops codes is →
    is ≡ before ++ (i ∷ rest) → length g.general ≡ 16 → executed_all m before g ≡ Ok h → executed_all m is g ≡ Ok u → stack_pointer h < stack_pointer u
rises m codes is [] rest i g h u p q at len ran all = grind (arith, all_rise)
rises m [] is (j ∷ before) rest i g h u p q at len ran all = grind (arith, none_append)
rises m (PushNonVolatile r ∷ codes) is (j ∷ before) rest i g h u p q at len ran all =
    let others : q.0 ≡ before ++ (i ∷ rest) = cc in
    let w = went (executed m j g) (executed_all m before) h ran in
    let x = went (executed m (Pop r.0) g) (executed_all m q.0) u (ap (λ (js : List Instruction). executed_all m js g) (sym q.1) ∙ all) in
    let same : w.value ≡ x.value = cc in
    let rose = push_rose m 0 r g x.value p.0 len x.first in
    rises m codes q.0 before rest i x.value h u p.1 q.2 others rose.count (subst (λ (y : Registers). executed_all m before y ≡ Ok h) same w.next) x.next
rises m (SetFPRegister ∷ codes) is (j ∷ before) rest i g h u p q at len ran all = rises m codes is (j ∷ before) rest i g h u p q at len ran all
rises m (other ∷ codes) is (j ∷ before) rest i g h u p q at len ran all = absurd q

-- the same where an instruction has freed the stack
trimmed : (m : ℕ → Option ℕ) (codes : List UnwindOperation) (t j : Instruction) (is before rest : List Instruction) (i : Instruction) (g h u : Registers) → Spares codes → Pops codes is →
    t ∷ is ≡ j ∷ (before ++ (i ∷ rest)) → ((v : Registers) → executed m t g ≡ Ok v → length v.general ≡ 16) → executed_all m (j ∷ before) g ≡ Ok h → executed_all m (t ∷ is) g ≡ Ok u → stack_pointer h < stack_pointer u
trimmed m codes t j is before rest i g h u p q both len ran all =
    let others : is ≡ before ++ (i ∷ rest) = cc in
    let w = went (executed m j g) (executed_all m before) h ran in
    let x = went (executed m t g) (executed_all m is) u all in
    let same : w.value ≡ x.value = cc in
    rises m codes is before rest i x.value h u p q others (len x.value x.first) (subst (λ (y : Registers). executed_all m before y ≡ Ok h) same w.next) x.next

pub record Rose (p : ℕ) (w u : Registers) : Type 0 where
  pub same : w ≡ u
  pub low : p < stack_pointer w

pub rose : (p : ℕ) (w u : Registers) → rising p w ≡ Ok u → Rose p w u
rose p w u e = grind (arith, nat_tests)

step_of : (o : Option (List Instruction)) (rest : List Instruction) (m : ℕ → Option ℕ) (plan : List UnwindInfoView) (offset : ℕ) (h u : Registers) (x : Result Registers FrameError) → o ≡ Some rest → executed_all m rest h ≡ Ok u → stack_pointer h < stack_pointer u →
    StepsFrom o m plan offset h x → x ≡ Ok u
step_of o rest m plan offset h u x e ran low steps = grind (arith, lt-ltb)

-- registers, and whether an interrupt entered the function
abbrev with_kind : Bool → Registers → Result (Registers × Bool) FrameError
with_kind b u = Ok (u, b)

-- the registers of an entry are those that undoing gave
entry_same : (r : Result Registers FrameError) (b : Bool) (v : Registers) → (r >>= with_kind b) ≡ with_kind b v → r ≡ Ok v
entry_same r b v e = grind arith

-- the instruction that frees stack leads the stack pointer to the last push
freed : (m : ℕ → Option ℕ) (b : ℕ) (c : Bool) (f : FrameRegister) (codes : List UnwindOperation) (s : Machine) (g : Registers) (i : Instruction) (is : List Instruction) → IsProlog c f codes s → Frees f (moves codes) i →
    undone.HasBase (run f codes s).frame_base codes (machine_stack_pointer (run f codes s)) b → KeepsStackPointer f codes (run f codes s).frame_base (run f codes s).general g → IsBack (i ∷ is) (run f codes s) g → trail b (stack_pointer g) (moves codes) < 2 ^ 64 →
    executed m i g ≡ Ok (put_register g 4 (trail b (stack_pointer g) (moves codes)))
freed m b c f codes s g (Add n) is p e hb k back small = grind (arith, exact_of, trail_sum, undone.raised_at)
freed m b c f codes s g (Lea r d) is p e hb k back small =
    let l = led_by c f codes s d b (stack_pointer g) p e.1 (kept_late f codes (run f codes s).frame_base (run f codes s).general b g hb k) in
    let value = value_of c f codes s b g (run f codes s).frame_base p refl l.framed hb k in
    let at : moved (get_or g.general r 0) d ≡ trail b (stack_pointer g) (moves codes) =
    ap (λ (x : ℕ). moved (get_or g.general x 0) d) e.0 ∙ (ap (λ (x : ℕ). moved x d) value ∙ l.is small) in
    ap (λ (x : ℕ). Ok (put_register g 4 x)) at
freed m b c f codes s g other is p e hb k back small = absurd e

-- an epilog comes to the caller, and the rest of it starts below
pub record Ends (m : ℕ → Option ℕ) (i : Instruction) (rest : List Instruction) (h u : Registers) : Type 0 where
  pub all : executed_all m (i ∷ rest) h ≡ Ok u
  pub below : stack_pointer h < stack_pointer u

ends_by : (m : ℕ → Option ℕ) (before rest : List Instruction) (i : Instruction) (g h u : Registers) → executed_all m before g ≡ Ok h → executed_all m (before ++ (i ∷ rest)) g ≡ Ok u → stack_pointer h < stack_pointer u → Ends m i rest h u
ends_by m before rest i g h u ran all low = record { all = sym (executed_append m before (i ∷ rest) g ∙ rw ran refl) ∙ all; below = low }

freed_below : (m : ℕ → Option ℕ) (codes : List UnwindOperation) (t : Instruction) (is before rest : List Instruction) (i : Instruction) (g v h u : Registers) → Spares codes → Pops codes is → t ∷ is ≡ before ++ (i ∷ rest) →
    executed m t g ≡ Ok v → length v.general ≡ 16 → executed_all m before g ≡ Ok h → executed_all m (t ∷ is) g ≡ Ok u → stack_pointer g < stack_pointer u → stack_pointer h < stack_pointer u
freed_below m codes t is [] rest i g v h u p q at step len ran all low = grind arith
freed_below m codes t is (j ∷ before) rest i g v h u p q at step len ran all low = grind (arith, trimmed)

-- the pops, from the last push on
popped_rest : (m : ℕ → Option ℕ) (b t : ℕ) (codes : List UnwindOperation) (is : List Instruction) (g e u : Registers) → Spares codes → Reaches b t codes → length g.general ≡ 16 → undone_all m b codes (put_register g 4 t) ≡ Ok e → popped m e ≡ Ok u → Pops codes is → executed_all m is (put_register g 4 t) ≡ Ok u
popped_rest m b t codes is g e u spares reaches len un up q = search (rules, arith, pointer_set, pops_come, length-set)

-- the instruction that frees stack leads where the pops come to the base of the frame
reaches_freed : (b : ℕ) (c : Bool) (f : FrameRegister) (codes : List UnwindOperation) (s : Machine) (g : Registers) (i : Instruction) (is : List Instruction) → IsProlog c f codes s → Frees f (moves codes) i →
    undone.HasBase (run f codes s).frame_base codes (machine_stack_pointer (run f codes s)) b → KeepsStackPointer f codes (run f codes s).frame_base (run f codes s).general g → IsBack (i ∷ is) (run f codes s) g → Reaches b (trail b (stack_pointer g) (moves codes)) (pushes (moves codes))
reaches_freed b c f codes s g (Add n) is p e hb k back = reaches_of c f codes s b (stack_pointer g) p (exact_of (run f codes s).frame_base codes (machine_stack_pointer (run f codes s)) b (stack_pointer g) hb back)
reaches_freed b c f codes s g (Lea r d) is p e hb k back =
    (led_by c f codes s d b (stack_pointer g) p e.1 (kept_late f codes (run f codes s).frame_base (run f codes s).general b g hb k)).reaches
reaches_freed b c f codes s g other is p e hb k back = absurd e

last_push_fits : (m : ℕ → Option ℕ) (t : ℕ) (codes : List UnwindOperation) (is : List Instruction) (g u : Registers) → Spares codes → Pops codes is → length g.general ≡ 16 → executed_all m is (put_register g 4 t) ≡ Ok u → stack_pointer u < 2 ^ 64 → t < 2 ^ 64
last_push_fits m t codes is g u p q len all small =
    omega (arith, pointer_set g.general t len, all_rise m codes is (put_register g 4 t) u p q (length-set g.general 4 t ∙ len) all)

ends_of : (m : ℕ → Option ℕ) (b : ℕ) (c : Bool) (f : FrameRegister) (codes : List UnwindOperation) (s : Machine) (g h e u : Registers) (is before rest : List Instruction) (i : Instruction) → IsProlog c f codes s →
    undone.HasBase (run f codes s).frame_base codes (machine_stack_pointer (run f codes s)) b → KeepsStackPointer f codes (run f codes s).frame_base (run f codes s).general g → IsBack is (run f codes s) g → length g.general ≡ 16 → FreesAndPops f (moves codes) is →
    is ≡ before ++ (i ∷ rest) → executed_all m before g ≡ Ok h → Trails m b (moves codes) g e → popped m e ≡ Ok u → stack_pointer u < 2 ^ 64 → stack_pointer g < stack_pointer u → Ends m i rest h u
ends_of m b c f codes s g h e u is before rest i p hb k back len (inl (none, pops)) at ran un up small low =
    let exact = exact_of (run f codes s).frame_base codes (machine_stack_pointer (run f codes s)) b (stack_pointer g) hb (back_of is (run f codes s) g (pops_no_lea (pushes (moves codes)) is pops) back) in
    let sum : trail b (stack_pointer g) (moves codes) ≡ stack_pointer g = trail_sum c f codes s b (stack_pointer g) p exact ∙ omega (arith, none) in
    let same : put_register g 4 (trail b (stack_pointer g) (moves codes)) ≡ g = ap (λ (x : ℕ). put_register g 4 x) sum ∙ put_same g in
    let spares = spares_pushes (moves codes) (spares_moves c f codes s p) in
    let there = popped_rest m b (trail b (stack_pointer g) (moves codes)) (pushes (moves codes)) is g e u spares (reaches_of c f codes s b (stack_pointer g) p exact) len un up pops in
    let all : executed_all m is g ≡ Ok u = subst (λ (x : Registers). executed_all m is x ≡ Ok u) same there in
    let below = rises m (pushes (moves codes)) is before rest i g h u spares pops at len ran all in
    ends_by m before rest i g h u ran (all_of m is (before ++ (i ∷ rest)) g u at all) below
ends_of m b c f codes s g h e u is before rest i p hb k back len (inr (j, js, first, frees, pops)) at ran un up small low =
    let t = trail b (stack_pointer g) (moves codes) in
    let spares = spares_pushes (moves codes) (spares_moves c f codes s p) in
    let back_first = subst (λ (x : List Instruction). IsBack x (run f codes s) g) first back in
    let there = popped_rest m b t (pushes (moves codes)) js g e u spares (reaches_freed b c f codes s g j js p frees hb k back_first) len un up pops in
    let fits = last_push_fits m t (pushes (moves codes)) js g u spares pops len there small in
    let step = freed m b c f codes s g j js p frees hb k back_first fits in
    let all : executed_all m (j ∷ js) g ≡ Ok u = rw step there in
    let below = freed_below m (pushes (moves codes)) j js before rest i g (put_register g 4 t) h u spares pops (sym first ∙ at) step (length-set g.general 4 t ∙ len) ran all low in
    ends_by m before rest i g h u ran (all_of m (j ∷ js) (before ++ (i ∷ rest)) g u (sym first ∙ at) all) below

-- the pops of an epilog
pops_of : (f : FrameRegister) (codes : List UnwindOperation) (is : List Instruction) → FreesAndPops f codes is → (js : List Instruction) × Pops (pushes codes) js
pops_of f codes is h3 = grind arith

-- registers from which the rest of an epilog comes to the caller
pub record Comes (m : ℕ → Option ℕ) (parts : List Part) (i : Instruction) (rest : List Instruction) (g h : Registers) : Type 0 where
  pub caller : Registers
  pub ends : Ends m i rest h caller
  pub is : IsCaller parts None g caller

comes_alone : (m : ℕ → Option ℕ) (p : Part) (before rest : List Instruction) (i : Instruction) (g h : Registers) → AreFrames m (p ∷ []) None g → IsEpilogOfParts (p ∷ []) (before ++ (i ∷ rest)) → AreReady (p ∷ []) (before ++ (i ∷ rest)) g →
    executed_all m before g ≡ Ok h → Comes m (p ∷ []) i rest g h
comes_alone m p before rest i g h frames epilog ready ran_so_far =
    let f = frame_register_in p.info in
    let codes = ran None p.codes in
    let is = before ++ (i ∷ rest) in
    let body = frames.2.body in
    let prolog = frames.0.prolog in
    let pops = pops_of f (moves codes) is epilog in
    let calm = plain codes pops.0 pops.1 in
    let e = entry_of true None p m g frames.0 frames.2 in
    let b = undone.has_base true f (any_sets_frame_register codes) codes p.entry g frames.0.frame prolog body.frame in
    let last = called m p [] None g e.entry false frames e.count (e.leaves, sym calm) e.registers e.xmm_registers in
    let left = went (popped m e.entry) (rising (stack_pointer g)) last.0 last.1 in
    let up = rose (stack_pointer g) left.value last.0 left.next in
    let to_caller : popped m e.entry ≡ Ok last.0 = left.first ∙ ap Ok up.same in
    let low : stack_pointer g < stack_pointer last.0 = subst (λ (y : Registers). stack_pointer g < stack_pointer y) up.same up.low in
    let undoes = entry_same (undone_all m b.base codes g) (is_interrupted codes) e.entry (rw b.is at e.is) in
    let held = known m (run f codes p.entry).memory true f codes p.entry body.memory (holds true f codes p.entry prolog) in
    let moves_undone = unsaved m b.base true f codes p.entry g e.entry pops.0 prolog held b.saves b.points ready.restored pops.1 body.count undoes in
    let trail_undone = trails m b.base (moves codes) g e.entry body.count moves_undone in
    let at_entry : stack_pointer e.entry ≡ machine_stack_pointer p.entry = undone.left_plain codes p.entry e.entry calm e.leaves in
    let small : stack_pointer last.0 < 2 ^ 64 = omega (arith, (popped_rose m e.entry last.0 e.count to_caller).pointer_is, frames.1) in
    let ends = ends_of m b.base true f codes p.entry g h e.entry last.0 is before rest i prolog b.saves body.frame ready.back body.count epilog refl ran_so_far trail_undone to_caller small low in
    record { caller = last.0; ends = ends; is = last.2 }

-- a part that only saved registers left the stack pointer where it was
record IsStill (f : FrameRegister) (codes : List UnwindOperation) (s : Machine) : Type 0 where
  pub general : (run f codes s).general ≡ s.general
  pub frame : (run f codes s).frame_base ≡ None

still : (c : Bool) (f : FrameRegister) (codes : List UnwindOperation) (s : Machine) → IsProlog c f codes s → moves codes ≡ [] → IsStill f codes s
still c f [] s p e = record { general = refl; frame = p.frame }
still c f (other ∷ before) s p e = grind (arith, still c f before s)

still_pointer : (f : FrameRegister) (codes : List UnwindOperation) (s : Machine) (frame : Option ℕ) (there : List ℕ) (g : Registers) → frame ≡ None → there ≡ s.general → KeepsStackPointer f codes frame there g → stack_pointer g ≡ machine_stack_pointer s
still_pointer f codes s frame there g none same k = grind (arith, get_or)

either : (b c : Bool) → (b || c) ≡ true → (b ≡ true) ⊎ (c ≡ true)
either b c e = grind arith

-- what it saved is as it was
restored_is : (codes : List UnwindOperation) (s : Machine) (g : Registers) (r : ℕ) → moves codes ≡ [] → AreRestored codes s g → saves codes r ≡ true → get_or g.general r 0 ≡ get_or s.general r 0
restored_is [] s g r e h saved = cc
restored_is (SaveNonVolatile q o ∷ before) s g r e h saved = grind (arith, either, nat_tests, get_or, restored_is before s g r e)
restored_is (Epilog x y ∷ before) s g r e h saved = restored_is before s g r e h saved
restored_is (SaveXMM128 q o ∷ before) s g r e h saved = restored_is before s g r e h.1 saved
restored_is (Noop ∷ before) s g r e h saved = restored_is before s g r e h saved
restored_is (other ∷ before) s g r e h saved = cc

restored_xmm_is : (codes : List UnwindOperation) (s : Machine) (g : Registers) (r : ℕ) → moves codes ≡ [] → AreRestored codes s g → saves_xmm codes r ≡ true → get_or g.xmm r 0 ≡ get_or s.xmm r 0
restored_xmm_is [] s g r e h saved = cc
restored_xmm_is (SaveNonVolatile q o ∷ before) s g r e h saved = restored_xmm_is before s g r e h.1 saved
restored_xmm_is (Epilog x y ∷ before) s g r e h saved = restored_xmm_is before s g r e h saved
restored_xmm_is (SaveXMM128 q o ∷ before) s g r e h saved = grind (arith, either, nat_tests, get_or, restored_xmm_is before s g r e)
restored_xmm_is (Noop ∷ before) s g r e h saved = restored_xmm_is before s g r e h saved
restored_xmm_is (other ∷ before) s g r e h saved = cc

chosen_same : (b : Bool) (old now : ℕ) → (b ≡ true → now ≡ old) → chosen b old now ≡ now
chosen_same b old now h = grind arith

-- so the frame registers of the parts around it are
frames_kept : (p : Part) (parts : List Part) (g : Registers) → moves (ran None p.codes) ≡ [] → AreRestored (ran None p.codes) p.entry g →
    AllByRecursion (λ o. IsSome (left None o).frame_base → SavesOrKeeps None p g (o.info.frame_register).0) parts →
    AllByRecursion (λ o. IsSome (left None o).frame_base → get_or g.general (o.info.frame_register).0 0 ≡ get_or p.entry.general (o.info.frame_register).0 0) parts
frames_kept p [] g e h keeps = tt
frames_kept p (o ∷ parts) g e h keeps = grind (arith, restored_is, frames_kept p parts g e h)

pub comes : (m : ℕ → Option ℕ) (p : Part) (parts : List Part) (before rest : List Instruction) (i : Instruction) (g h : Registers) → AreFrames m (p ∷ parts) None g → IsEpilogOfParts (p ∷ parts) (before ++ (i ∷ rest)) →
    AreReady (p ∷ parts) (before ++ (i ∷ rest)) g → executed_all m before g ≡ Ok h → Comes m (p ∷ parts) i rest g h
comes m p [] before rest i g h frames epilog ready ran_so_far = comes_alone m p before rest i g h frames epilog ready ran_so_far
comes m p (q ∷ parts) before rest i g h frames epilog ready ran_so_far =
    let codes = ran None p.codes in
    let stays = still false (frame_register_in p.info) codes p.entry frames.0.prolog epilog.0 in
    let body = frames.2.body in
    let at = still_pointer (frame_register_in p.info) codes p.entry (run (frame_register_in p.info) codes p.entry).frame_base (run (frame_register_in p.info) codes p.entry).general g stays.frame stays.general body.frame in
    let next = frames_also m (q ∷ parts) (registers_of p.entry) g (record {
      count = body.count;
      xmm_count = body.xmm_count;
      stack = at;
      frames = frames_kept p (q ∷ parts) g epilog.0 ready.0 frames.3;
    }) frames.4 in
    let c = comes m q parts before rest i g h next epilog.1 ready.1 ran_so_far in
    record {
      caller = c.caller;
      ends = c.ends;
      is = record {
        leaves = c.is.leaves;
        registers = λ r other. c.is.registers r other ∙ ap (λ (k : ℕ). restored (q ∷ parts) None r k) (sym (chosen_same (saves codes r) (get_or p.entry.general r 0) (get_or g.general r 0) (restored_is codes p.entry g r epilog.0 ready.0)));
        xmm_registers = λ r. c.is.xmm_registers r ∙ ap (λ (k : ℕ). restored_xmm (q ∷ parts) None r k) (sym (chosen_same (saves_xmm codes r) (get_or p.entry.xmm r 0) (get_or g.xmm r 0) (restored_xmm_is codes p.entry g r epilog.0 ready.0)));
      };
    }

pub caller_of_rest : (m : ℕ → Option ℕ) (p : Part) (parts : List Part) (before rest : List Instruction) (i : Instruction) (start rva : ℕ) (code : List ℕ) (g h : Registers) (x : Result Registers FrameError) → AreFrames m (p ∷ parts) None g →
    IsEpilogOfParts (p ∷ parts) (before ++ (i ∷ rest)) → AreReady (p ∷ parts) (before ++ (i ∷ rest)) g → executed_all m before g ≡ Ok h → epilog_at (infos (p ∷ parts)) start rva code ≡ Some (i ∷ rest) →
    StepsWithCode m (infos (p ∷ parts)) start rva code h x → (u : Registers) × (x ≡ Ok u) × IsCaller (p ∷ parts) None g u
caller_of_rest m p parts before rest i start rva code g h x frames epilog ready ran_so_far decodes steps =
    let c = comes m p parts before rest i g h frames epilog ready ran_so_far in
    (c.caller, step_of (epilog_at (infos (p ∷ parts)) start rva code) (i ∷ rest) m (infos (p ∷ parts)) (rva - start) h c.caller x decodes c.ends.all c.ends.below steps, c.is)
