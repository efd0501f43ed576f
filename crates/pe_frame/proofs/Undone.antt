-- Undoing a prolog gives what was before it.
use Rattle.std.proofs.Common.{◌≡◌, ◌≢◌, ℕ, ◌+◌, ◌-◌, ◌/◌, ◌%◌, ◌^◌, ◌<◌, ◌≤◌, ◌⊎◌, inr, Bool, true, false, eqb, ◌||◌, List, ◌∷◌, length, get_or, set, Option, Some, None, Ok, refl, ap, sym, ◌∙◌, subst, arith, rules, []}
use Rattle.pe_frame.proofs.Cited.{lt-ltb, nat_tests, get_or-set_same, get_or-set_other, length-set, Register, StackFrameOffset}
use Rattle.pe_frame.proofs.Cited.{UnwindOperation, PushNonVolatile, Alloc, SetFPRegister, SaveNonVolatile, SaveXMM, SaveXMM128}
use Rattle.pe_frame.proofs.Cited.{PushMachineFrame, Registers, FrameRegister, bytes_above, error_size, is_interrupted, stack_pointer}
use Rattle.pe_frame.proofs.Cited.{put_register, put_xmm, put_rip, number, above, require_integer, undone, undone_all, raised}
use Rattle.pe_frame.proofs.Cited.{any_sets_frame_register, frame_base_of, Machine, machine_stack_pointer, base, base_by, loaded, run}
use Rattle.pe_frame.proofs.Cited.{SavesNone, MayMove, PushesLate, IsFrameRegister, IsProlog, KeepsStackPointer, saves, saves_xmm, chosen}
use Rattle.pe_frame.proofs.Cited.{IsAfter}
use Rattle.pe_frame.proofs.Runs.{entered, count, sinks, pointer_set, pointer_other}
use Rattle.pe_frame.proofs.Saved.{Holds}

-- all saves counted from this base
abbrev pub HasBase : Option ℕ → List UnwindOperation → ℕ → ℕ → Type 0
HasBase None codes t b = SavesNone codes ⊎ (t ≡ b)
HasBase (Some c) codes t b = c ≡ b

-- the stack pointer is where the prolog left it or, with a frame register, anywhere below
abbrev pub Points : Option ℕ → List UnwindOperation → ℕ → ℕ → Type 0
Points None codes t p = p ≡ t
Points (Some b) codes t p = (p ≤ t) × (PushesLate codes → p ≡ t)

pub base_none : (frame : Option ℕ) (codes : List UnwindOperation) (t b : ℕ) → frame ≡ None → SavesNone codes ⊎ (t ≡ b) → HasBase frame codes t b
base_none frame codes t b e h = grind arith

pub base_weaker : (frame : Option ℕ) (codes rest : List UnwindOperation) (t b : ℕ) → (SavesNone codes → SavesNone rest) → HasBase frame codes t b → HasBase frame rest t b
base_weaker frame codes rest t b f h = grind arith

pub base_moved : (frame : Option ℕ) (codes rest : List UnwindOperation) (t u b : ℕ) → MayMove frame rest → HasBase frame codes t b → HasBase frame rest u b
base_moved frame codes rest t u b may h = grind arith

pub base_saved : (frame : Option ℕ) (r : Register) (o : StackFrameOffset) (before : List UnwindOperation) (t b : ℕ) → HasBase frame (SaveNonVolatile r o ∷ before) t b → base_by frame t ≡ b
base_saved frame r o before t b h = grind arith

pub base_xmm : (frame : Option ℕ) (r : Register) (o : StackFrameOffset) (before : List UnwindOperation) (t b : ℕ) → HasBase frame (SaveXMM128 r o ∷ before) t b → base_by frame t ≡ b
base_xmm frame r o before t b h = grind arith

pub base_wide_rest : (frame : Option ℕ) (r : Register) (o : StackFrameOffset) (before : List UnwindOperation) (t b : ℕ) → HasBase frame (SaveXMM128 r o ∷ before) t b → HasBase frame before t b
base_wide_rest frame r o before t b h = grind arith

pub base_saved_rest : (frame : Option ℕ) (r : Register) (o : StackFrameOffset) (before : List UnwindOperation) (t b : ℕ) → HasBase frame (SaveNonVolatile r o ∷ before) t b → HasBase frame before t b
base_saved_rest frame r o before t b h = grind arith

pub points_exact : (frame : Option ℕ) (codes : List UnwindOperation) (t p : ℕ) → p ≡ t → Points frame codes t p
points_exact frame codes t p h = grind arith

none_points : (frame : Option ℕ) (codes : List UnwindOperation) (t p : ℕ) → frame ≡ None → Points frame codes t p → p ≡ t
none_points frame codes t p e h = grind arith

pub pushed_points : (frame : Option ℕ) (r : Register) (before : List UnwindOperation) (t p : ℕ) → Points frame (PushNonVolatile r ∷ before) t p → p ≡ t
pushed_points frame r before t p h = grind arith

points_le : (frame : Option ℕ) (codes : List UnwindOperation) (t p : ℕ) → Points frame codes t p → p ≤ t
points_le frame codes t p h = grind arith

pub points_weaker : (frame : Option ℕ) (codes rest : List UnwindOperation) (t p : ℕ) → (PushesLate rest → PushesLate codes) → Points frame codes t p → Points frame rest t p
points_weaker frame codes rest t p f h = grind arith

pub points_raised : (frame : Option ℕ) (before : List UnwindOperation) (t p n : ℕ) → n ≤ t → Points frame (Alloc n ∷ before) (t - n) p → Points frame before t (p + n)
points_raised frame before t p n small h = grind arith

pub above_ok : (a n : ℕ) → a + n < 2 ^ 64 → above a n ≡ Ok (a + n)
above_ok a n small = grind (arith, lt-ltb)

pub number_ok : (m : ℕ → Option ℕ) (a v : ℕ) → m a ≡ Some v → number m a ≡ Ok v
number_ok m a v e = rw e refl

integer_ok : (o : UnwindOperation) (r : ℕ) → r < 16 → require_integer o r ≡ Ok r
integer_ok o r small = grind (arith, lt-ltb)

raised_ok : (n : ℕ) (g : Registers) → stack_pointer g + n < 2 ^ 64 → raised n g ≡ Ok (put_register g 4 (stack_pointer g + n))
raised_ok n g small = rw (above_ok (stack_pointer g) n small) refl

pub raised_at : (n p : ℕ) (g : Registers) → stack_pointer g ≡ p → p + n < 2 ^ 64 → raised n g ≡ Ok (put_register g 4 (p + n))
raised_at n p g e small = raised_ok n g (omega arith) ∙ ap (λ (k : ℕ). Ok (put_register g 4 (k + n))) e

pub pop_ok : (m : ℕ → Option ℕ) (b : ℕ) (r : Register) (g : Registers) (v : ℕ) → r.0 < 16 → r.0 ≢ 4 → m (stack_pointer g) ≡ Some v → stack_pointer g + 8 < 2 ^ 64 →
    undone m b (PushNonVolatile r) g ≡ Ok (put_register (put_register g r.0 v) 4 (stack_pointer g + 8))
pop_ok m b r g v small other e room = grind (arith, raised_at, pointer_other, integer_ok, number_ok)

pub load_ok : (m : ℕ → Option ℕ) (b : ℕ) (r : Register) (o : StackFrameOffset) (g : Registers) (v : ℕ) → r.0 < 16 → m (b + bytes_above o) ≡ Some v → b + bytes_above o < 2 ^ 64 →
    undone m b (SaveNonVolatile r o) g ≡ Ok (put_register g r.0 v)
load_ok m b r o g v small e room = grind (arith, integer_ok, above_ok, number_ok)

pub load_xmm : (m : ℕ → Option ℕ) (b : ℕ) (r : Register) (o : StackFrameOffset) (g : Registers) (v : ℕ) → 17 ≤ r.0 → r.0 < 33 → m (b + bytes_above o) ≡ Some (v % 2 ^ 64) → m (b + bytes_above o + 8) ≡ Some (v / 2 ^ 64) → b + bytes_above o + 8 < 2 ^ 64 →
    undone m b (SaveXMM128 r o) g ≡ Ok (put_xmm g (r.0 - 17) v)
load_xmm m b r o g v least most low high small = grind (arith, nat_tests, above_ok, number_ok)

pub restored_by : (old now next : ℕ) (b same : Bool) → (same ≡ true → next ≡ old) → (same ≡ false → next ≡ now) → chosen b old next ≡ chosen (same || b) old now
restored_by old now next b same is not = grind arith

-- a register that was read has its old value
restored : (g old : List ℕ) (q v r : ℕ) (b : Bool) → length g ≡ 16 → q < 16 → v ≡ get_or old q 0 →
    chosen b (get_or old r 0) (get_or (set g q v) r 0) ≡ chosen (eqb q r || b) (get_or old r 0) (get_or g r 0)
restored g old q v r b len small e = grind (arith, restored_by, get_or, nat_tests, get_or-set_same, get_or-set_other)

-- writing the stack pointer changes no other register
moved : (g old : List ℕ) (v r : ℕ) (b : Bool) → r ≢ 4 → chosen b (get_or old r 0) (get_or (set g 4 v) r 0) ≡ chosen b (get_or old r 0) (get_or g r 0)
moved g old v r b other = ap (λ (k : ℕ). chosen b (get_or old r 0) k) (get_or-set_other g 4 r v 0 other)

-- the stack pointer is where it was at the entry, or as a machine frame has it
abbrev pub LeavesAt : List UnwindOperation → Machine → Registers → Type 0
LeavesAt [] s u = stack_pointer u ≡ machine_stack_pointer s
LeavesAt (PushMachineFrame e ∷ before) s u =
    (stack_pointer u ≡ loaded s.memory (machine_stack_pointer s + error_size e + 24)) × (u.rip ≡ loaded s.memory (machine_stack_pointer s + error_size e))
LeavesAt (other ∷ before) s u = LeavesAt before s u

interrupt_ok : (m : ℕ → Option ℕ) (b : ℕ) (e : Bool) (g : Registers) (a p : ℕ) → m (stack_pointer g + error_size e) ≡ Some a → m (stack_pointer g + error_size e + 24) ≡ Some p → stack_pointer g + error_size e + 24 < 2 ^ 64 →
    undone m b (PushMachineFrame e) g ≡ Ok (put_rip (put_register g 4 p) a)
interrupt_ok m b e g a p at stack small = grind (arith, above_ok, number_ok)

pub record UndoesRecords (m : ℕ → Option ℕ) (b : ℕ) (codes : List UnwindOperation) (s : Machine) (g : Registers) : Type 0 where
  pub entry : Registers
  pub is : undone_all m b codes g ≡ Ok entry
  pub count : length entry.general ≡ 16
  pub xmm_count : length entry.xmm ≡ 16
  pub xmm_registers : (r : ℕ) → get_or entry.xmm r 0 ≡ chosen (saves_xmm codes r) (get_or s.xmm r 0) (get_or g.xmm r 0)
  pub stack : LeavesAt codes s entry
  pub registers : (r : ℕ) → r ≢ 4 → get_or entry.general r 0 ≡ chosen (saves codes r) (get_or s.general r 0) (get_or g.general r 0)

-- one more operation undone
undone_next : (m : ℕ → Option ℕ) (b : ℕ) (o : UnwindOperation) (before : List UnwindOperation) (s : Machine) (g next : Registers) → undone m b o g ≡ Ok next → (rest : UndoesRecords m b before s next) → (LeavesAt before s rest.entry → LeavesAt (o ∷ before) s rest.entry) →
    ((r : ℕ) → chosen (saves_xmm before r) (get_or s.xmm r 0) (get_or next.xmm r 0) ≡ chosen (saves_xmm (o ∷ before) r) (get_or s.xmm r 0) (get_or g.xmm r 0)) →
    ((r : ℕ) → r ≢ 4 → chosen (saves before r) (get_or s.general r 0) (get_or next.general r 0) ≡ chosen (saves (o ∷ before) r) (get_or s.general r 0) (get_or g.general r 0)) → UndoesRecords m b (o ∷ before) s g
undone_next m b o before s g next step rest leaves xmm general = grind arith

pub undoes : (m : ℕ → Option ℕ) (b : ℕ) (c : Bool) (f : FrameRegister) (codes : List UnwindOperation) (s : Machine) (g : Registers) → IsProlog c f codes s → Holds (λ a v. m a ≡ Some v) c f codes s → length g.general ≡ 16 → length g.xmm ≡ 16
    → HasBase (run f codes s).frame_base codes (machine_stack_pointer (run f codes s)) b → Points (run f codes s).frame_base codes (machine_stack_pointer (run f codes s)) (stack_pointer g) → UndoesRecords m b codes s g
undoes m b c f [] s g p h len wlen hb pt = grind (arith, none_points)
undoes m b c f (PushNonVolatile q ∷ before) s g p h len wlen hb pt =
    search (rules, arith, pointer_set, count, pushed_points, sinks, entered, get_or, pop_ok, length-set, base_moved, points_exact, undone_next, moved, restored, undoes m b c f before s (put_register (put_register g q.0 (get_or s.general q.0 0)) 4 (stack_pointer g + 8)) p.1 h.1)
undoes m b c f (Alloc n ∷ before) s g p h len wlen hb pt = grind (arith, pointer_set, count, points_le, sinks, entered, raised_ok, length-set, points_raised, base_moved, undone_next, moved, undoes m b c f before s (put_register g 4 (stack_pointer g + n)))
undoes m b c f (SetFPRegister ∷ before) s g p h len wlen hb pt = grind (arith, length-set, pointer_set, base_none, points_exact, undone_next, moved, undoes m b c f before s (put_register g 4 b))
undoes m b c f (SaveNonVolatile q o ∷ before) s g p h len wlen hb pt =
    grind (arith, base_saved, get_or, load_ok, length-set, pointer_other, base_saved_rest, points_weaker, undone_next, restored, undoes m b c f before s (put_register g q.0 (get_or s.general q.0 0)) p.1 h.1 (length-set g.general q.0 (get_or s.general q.0 0) ∙ len) wlen)
undoes m b c f (SaveXMM r o ∷ before) s g p h len wlen hb pt = absurd p.0
undoes m b c f (SaveXMM128 q o ∷ before) s g p h len wlen hb pt =
    grind (arith, base_xmm, get_or, load_xmm, length-set, base_wide_rest, points_weaker, undone_next, restored, undoes m b c f before s (put_xmm g (q.0 - 17) (get_or s.xmm (q.0 - 17) 0)) p.1 h.1.1 len (length-set g.xmm (q.0 - 17) (get_or s.xmm (q.0 - 17) 0) ∙ wlen))
undoes m b c f (PushMachineFrame e ∷ []) s g p h len wlen hb pt =
    let is_top : stack_pointer g ≡ machine_stack_pointer s = none_points s.frame_base _ (machine_stack_pointer s) (stack_pointer g) p.1.frame pt in
    let a = loaded s.memory (machine_stack_pointer s + error_size e) in
    let q = loaded s.memory (machine_stack_pointer s + error_size e + 24) in
    let stack : m (stack_pointer g + error_size e + 24) ≡ Some q = ap (λ (k : ℕ). m (k + error_size e + 24)) is_top ∙ h.1.0 in
    record {
      entry = put_rip (put_register g 4 q) a;
      is = rw (interrupt_ok m b e g a q (ap (λ (k : ℕ). m (k + error_size e)) is_top ∙ h.0) stack (omega (arith, p.0.1))) refl;
      count = length-set g.general 4 q ∙ len;
      xmm_count = wlen;
      xmm_registers = λ r. refl;
      stack = (pointer_set g.general q len, refl);
      registers = λ r other. moved g.general s.general q r false other;
    }
undoes m b c f (PushMachineFrame e ∷ o ∷ before) s g p h len wlen hb pt = absurd p.0.0
undoes m b c f (other ∷ before) s g p h len wlen hb pt = grind (arith, base_weaker, points_weaker, undoes m b c f before s g)

-- the frame register and the base of the frame
pub record IsSet (f : FrameRegister) (codes : List UnwindOperation) (s : Machine) (b : ℕ) : Type 0 where
  pub framed : any_sets_frame_register codes ≡ true
  pub register : IsFrameRegister f.register
  pub value : get_or (run f codes s).general f.register 0 ≡ b + f.offset

unframed : (c : Bool) (f : FrameRegister) (codes : List UnwindOperation) (s : Machine) → IsProlog c f codes s → (run f codes s).frame_base ≡ None → any_sets_frame_register codes ≡ false
unframed c f [] s p e = refl
unframed c f (other ∷ before) s p e = grind (arith, unframed c f before s)

-- the frame register was a register other than the stack pointer
pub set_other : (c : Bool) (f : FrameRegister) (codes : List UnwindOperation) (s : Machine) (b : ℕ) → IsProlog c f codes s → (run f codes s).frame_base ≡ Some b → f.register ≢ 4
set_other c f [] s b p e = cc
set_other c f (other ∷ before) s b p e = grind (arith, set_other c f before s b)

pub is_set : (c : Bool) (f : FrameRegister) (codes : List UnwindOperation) (s : Machine) (b : ℕ) → IsProlog c f codes s → (run f codes s).frame_base ≡ Some b → IsSet f codes s b
is_set c f [] s b p e = cc
is_set c f (other ∷ before) s b p e = grind (arith, get_or-set_other, set_other, count, get_or-set_same, is_set c f before s b)

pub base_plain : (f : FrameRegister) (sets : Bool) (g : Registers) → (f.register ≡ 0) ⊎ (sets ≡ true) → frame_base_of f sets false g ≡ Ok (stack_pointer g)
base_plain f sets g h = grind (arith, nat_tests)

base_framed : (f : FrameRegister) (sets : Bool) (g : Registers) (b : ℕ) → IsFrameRegister f.register → get_or g.general f.register 0 ≡ b + f.offset → frame_base_of f sets true g ≡ Ok b
base_framed f sets g b is value = grind (arith, nat_tests, lt-ltb)

pub record BaseAndStack (f : FrameRegister) (sets : Bool) (codes : List UnwindOperation) (s : Machine) (g : Registers) : Type 0 where
  pub base : ℕ
  pub is : frame_base_of f sets (any_sets_frame_register codes) g ≡ Ok base
  pub saves : HasBase (run f codes s).frame_base codes (machine_stack_pointer (run f codes s)) base
  pub points : Points (run f codes s).frame_base codes (machine_stack_pointer (run f codes s)) (stack_pointer g)

has_base_by : (c : Bool) (f : FrameRegister) (sets : Bool) (codes : List UnwindOperation) (s : Machine) (g : Registers) (frame : Option ℕ) → (f.register ≡ 0) ⊎ (sets ≡ true) → IsProlog c f codes s → (run f codes s).frame_base ≡ frame → KeepsStackPointer f codes frame (run f codes s).general g → BaseAndStack f sets codes s g
has_base_by c f sets codes s g None named p e k =
    record {
      base = stack_pointer g;
      is = rw (unframed c f codes s p e) (base_plain f sets g named);
      saves = base_none (run f codes s).frame_base codes _ (stack_pointer g) e (inr (sym k));
      points = points_exact (run f codes s).frame_base codes _ (stack_pointer g) k;
    }
has_base_by c f sets codes s g (Some b) named p e k =
    let i = is_set c f codes s b p e in
    record {
      base = b;
      is = rw i.framed (base_framed f sets g b i.register (k.2 ∙ i.value));
      saves = subst (λ (x : Option ℕ). HasBase x codes (machine_stack_pointer (run f codes s)) b) (sym e) refl;
      points = subst (λ (x : Option ℕ). Points x codes (machine_stack_pointer (run f codes s)) (stack_pointer g)) (sym e) (k.0, k.1);
    }

pub has_base : (c : Bool) (f : FrameRegister) (sets : Bool) (codes : List UnwindOperation) (s : Machine) (g : Registers) → (f.register ≡ 0) ⊎ (sets ≡ true) → IsProlog c f codes s → KeepsStackPointer f codes (run f codes s).frame_base (run f codes s).general g → BaseAndStack f sets codes s g
has_base c f sets codes s g named p k = has_base_by c f sets codes s g (run f codes s).frame_base named p refl k

-- without a machine frame the stack pointer is where it was, and the pop ends it
pub left_plain : (codes : List UnwindOperation) (s : Machine) (u : Registers) → is_interrupted codes ≡ false → LeavesAt codes s u → stack_pointer u ≡ machine_stack_pointer s
left_plain [] s u e h = h
left_plain (PushMachineFrame x ∷ before) s u e h = cc
left_plain (other ∷ before) s u e h = left_plain before s u e h

pub after_plain : (codes : List UnwindOperation) (s : Machine) (u : Registers) → is_interrupted codes ≡ false → stack_pointer u ≡ machine_stack_pointer s + 8 → u.rip ≡ loaded s.memory (machine_stack_pointer s) → IsAfter codes s u
after_plain [] s u e at rip = (at, rip)
after_plain (PushMachineFrame x ∷ before) s u e at rip = cc
after_plain (other ∷ before) s u e at rip = after_plain before s u e at rip

pub after_interrupt : (codes : List UnwindOperation) (s : Machine) (u : Registers) → is_interrupted codes ≡ true → LeavesAt codes s u → IsAfter codes s u
after_interrupt [] s u e h = cc
after_interrupt (PushMachineFrame x ∷ before) s u e h = h
after_interrupt (other ∷ before) s u e h = after_interrupt before s u e h
