-- A jump leads to the caller of the frame at its target.
use Rattle.std.proofs.Common.{◌≡◌, ℕ, ◌-◌, ◌<◌, ◌≤◌, ◌⊎◌, Bool, true, false, List, ◌∷◌, ◌++◌, length, Option, Some, None, Result, Ok, Err, refl, ap, sym, ◌∙◌, subst, arith, rules, []}
use Rattle.pe_frame.proofs.Cited.{◌>>=◌, lt-ltb, then_then, ExceptionView, table_of, functions, NeverFalls, links_with, UnwindInfoView}
use Rattle.pe_frame.proofs.Cited.{RuntimeFunction, UnwindCode, RecordLaw, epilog_at, executed_all, IsEpilogOfParts, AreReady, AreFrames}
use Rattle.pe_frame.proofs.Cited.{IsCaller, Part, infos, IsEntry, IsPlace, IsPlaceIn, LeavesFor, Place, StepsInImage, StepsInImageFrom}
use Rattle.pe_frame.proofs.Cited.{before_last, place_in, rising_out, target_of, UndoesFunction, Then, UndoesRecords, by_kind}
use Rattle.pe_frame.proofs.Cited.{frame_register_in, limit_of, registers_alone, returned_out, rising, FrameRegister, entered}
use Rattle.pe_frame.proofs.Cited.{any_sets_frame_register, stack_pointer, popped, ran, Instruction, Jump, FrameError, Registers}
use Rattle.pe_frame.proofs.Frames.{caller_at}
use Rattle.pe_frame.proofs.OneShortPlan.{one_short_plan}
use Rattle.pe_frame.proofs.OneStep.{one_undoing, same_then, some_undoing}
use Rattle.pe_frame.proofs.Returned.{comes, popped_rose, rose, went}
use Rattle.pe_frame.proofs.SomeFunction.{some_function}
use Rattle.pe_frame.proofs.SomeShortPlan.{some_short_plan}
use Rattle.pe_frame.proofs.StepsOut.{registers_of_step}
use Rattle.pe_frame.proofs.Tails.{then_ok, then_same}
use Rattle.pe_frame.proofs.Undone.{base_plain}

-- ---- places

pub one_place : (law : RecordLaw) (e : ExceptionView) (rva_map : ℕ → Option ℕ) (target : Option ℕ) (x y : Option Place) → NeverFalls (functions (table_of e)) → IsPlace e rva_map target x → IsPlace e rva_map target y → x ≡ y
one_place law e rva_map target x y sorted h k = grind (arith, one_short_plan)

some_place_in : (law : RecordLaw) (e : ExceptionView) (rva_map : ℕ → Option ℕ) (a : ℕ) (found : Option RuntimeFunction) → (x : Option Place) × IsPlaceIn e rva_map a found x
some_place_in law e rva_map a None = (None, refl)
some_place_in law e rva_map a (Some f) =
    let plan = some_short_plan law (links_with e rva_map) e.content f in
    (place_in a f plan.0, (plan.0, plan.1, refl))

some_place : (law : RecordLaw) (e : ExceptionView) (rva_map : ℕ → Option ℕ) (target : Option ℕ) → (x : Option Place) × IsPlace e rva_map target x
some_place law e rva_map None = (None, refl)
some_place law e rva_map (Some a) =
    let found = some_function (table_of e) a in
    let place = some_place_in law e rva_map a found.0 in
    (place.0, (found.0, found.1, place.1))

-- ---- one step

one_out : (m : ℕ → Option ℕ) (plan : List UnwindInfoView) (offset : ℕ) (g : Registers) (x y : Result (Registers × Bool) FrameError) → UndoesFunction m plan offset g x → UndoesFunction m plan offset g y → by_kind x ≡ by_kind y
one_out m plan offset g x y h k = grind (arith, same_then, one_undoing)

some_out : (m : ℕ → Option ℕ) (plan : List UnwindInfoView) (offset : ℕ) (g : Registers) → (left : Result (Registers × Bool) FrameError) × UndoesFunction m plan offset g left
some_out m plan offset g =
    let entry = some_undoing m plan (limit_of plan offset) false g in
    (entry.0 >>= returned_out m (stack_pointer g), (entry.0, entry.1, refl))

one_from : (m : ℕ → Option ℕ) (plan : List UnwindInfoView) (offset : ℕ) (h : Result Registers FrameError) (x y : Result (Registers × Bool) FrameError) → Then h (UndoesFunction m plan offset) x → Then h (UndoesFunction m plan offset) y → by_kind x ≡ by_kind y
one_from m plan offset (Ok h) x y k l = one_out m plan offset h x y k l
one_from m plan offset (Err e) x y k l = ap by_kind (k ∙ sym l)

some_from : (m : ℕ → Option ℕ) (plan : List UnwindInfoView) (offset : ℕ) (h : Result Registers FrameError) → (x : Result (Registers × Bool) FrameError) × Then h (UndoesFunction m plan offset) x
some_from m plan offset (Ok h) = some_out m plan offset h
some_from m plan offset (Err e) = (Err e, refl)

one_left : (place : Option Place) (m : ℕ → Option ℕ) (rest : List Instruction) (g : Registers) (x y : Result (Registers × Bool) FrameError) → LeavesFor place m rest g x → LeavesFor place m rest g y → by_kind x ≡ by_kind y
one_left place m rest g x y h k = grind (arith, same_then, one_from)

some_left : (place : Option Place) (m : ℕ → Option ℕ) (rest : List Instruction) (g : Registers) → (x : Result (Registers × Bool) FrameError) × LeavesFor place m rest g x
some_left None m rest g = ((executed_all m rest g >>= rising (stack_pointer g)) >>= λ u. Ok (u, false), refl)
some_left (Some place) m rest g =
    let left = some_from m place.plan place.offset (executed_all m (before_last rest) g) in
    (left.0 >>= rising_out (stack_pointer g), (left.0, left.1, refl))

pub one_in_image : (law : RecordLaw) (e : ExceptionView) (rva_map : ℕ → Option ℕ) (o : Option (List Instruction)) (m : ℕ → Option ℕ) (plan : List UnwindInfoView) (offset : ℕ) (g : Registers) (x y : Result (Registers × Bool) FrameError) →
    NeverFalls (functions (table_of e)) → StepsInImageFrom e rva_map o m plan offset g x → StepsInImageFrom e rva_map o m plan offset g y → by_kind x ≡ by_kind y
one_in_image law e rva_map None m plan offset g x y sorted h k = one_out m plan offset g x y h k
one_in_image law e rva_map (Some rest) m plan offset g x y sorted h k = grind (arith, one_place, one_left)

pub some_in_image : (law : RecordLaw) (e : ExceptionView) (rva_map : ℕ → Option ℕ) (o : Option (List Instruction)) (m : ℕ → Option ℕ) (plan : List UnwindInfoView) (offset : ℕ) (g : Registers) → (x : Result (Registers × Bool) FrameError) × StepsInImageFrom e rva_map o m plan offset g x
some_in_image law e rva_map None m plan offset g = some_out m plan offset g
some_in_image law e rva_map (Some rest) m plan offset g =
    let place = some_place law e rva_map (target_of rest) in
    let left = some_left place.0 m rest g in
    (left.0, (place.0, place.1, left.1))

-- ---- the frame at the target

abbrev first_of : Registers → Result (Registers × Bool) FrameError → Registers
first_of g (Ok u) = u.0
first_of g (Err e) = g

same_pair : (v u : Registers) → ◌≡◌ {A = Result (Registers × Bool) FrameError} (Ok (v, false)) (Ok (u, false)) → v ≡ u
same_pair v u e = ap (first_of v) e

abbrev is_left : Result (Registers × Bool) FrameError → Bool
is_left (Ok u) = u.1
is_left (Err e) = false

apart : (u v : Registers) → ◌≡◌ {A = Result (Registers × Bool) FrameError} (Ok (u, false)) (Ok (v, true)) → ⊥
apart u v e = cc (ap is_left e)

-- a step that no interrupt took out of a function raised the stack pointer
out_rose : (m : ℕ → Option ℕ) (p : ℕ) (entry : Result (Registers × Bool) FrameError) (u : Registers) → Ok (u, false) ≡ (entry >>= returned_out m p) → p < stack_pointer u
out_rose m p entry u e = grind (arith, apart, went, rose, same_pair)

pub ok_alone : (left : Result (Registers × Bool) FrameError) (u : Registers) → registers_alone left ≡ Ok u → (b : Bool) × (left ≡ Ok (u, b))
ok_alone (Ok v) u e = (v.1, ap (λ (x : Registers). Ok (x, v.1)) (cc e))
ok_alone (Err d) u e = absurd (cc e)

risen : (p : ℕ) (u : Registers) (b : Bool) → (b ≡ false → p < stack_pointer u) → rising_out p (u, b) ≡ Ok (u, b)
risen p u b low = grind (arith, lt-ltb)

abbrev FollowedTo : List Part → Option ℕ → Registers → Result (Registers × Bool) FrameError → Type 0
FollowedTo parts limit h x = (u : Registers × Bool) × (x ≡ Ok u) × IsCaller parts limit h u.0

followed_from : (m : ℕ → Option ℕ) (p : Part) (parts : List Part) (offset : ℕ) (rest : List Instruction) (g h : Registers) (x : Result (Registers × Bool) FrameError) → executed_all m (before_last rest) g ≡ Ok h → stack_pointer g ≤ stack_pointer h →
    AreFrames m (p ∷ parts) (limit_of (infos (p ∷ parts)) offset) h → LeavesFor (Some (record { offset = offset; plan = infos (p ∷ parts) })) m rest g x → FollowedTo (p ∷ parts) (limit_of (infos (p ∷ parts)) offset) h x
followed_from m p parts offset rest g h x ran low frames leaves =
    let plan = infos (p ∷ parts) in
    let steps : UndoesFunction m plan offset h leaves.0 = subst (λ (r : Result Registers FrameError). Then r (UndoesFunction m plan offset) leaves.0) ran leaves.1 in
    let called = caller_at m plan p parts offset h (registers_alone leaves.0) (registers_of_step m plan offset h leaves.0 steps) refl frames in
    let out = ok_alone leaves.0 called.0 called.1 in
    let above : out.0 ≡ false → stack_pointer g < stack_pointer called.0 =
    λ plain. (let rise = out_rose m (stack_pointer h) steps.0 called.0 (ap (λ (b : Bool). Ok (called.0, b)) (sym plain) ∙ (sym out.1 ∙ steps.2)) in omega (arith, rise, low)) in
    ((called.0, out.0), leaves.2 ∙ (ap (λ (l : Result (Registers × Bool) FrameError). l >>= rising_out (stack_pointer g)) out.1 ∙ risen (stack_pointer g) called.0 out.0 above), called.2)

pub followed : (law : RecordLaw) (e : ExceptionView) (rva_map : ℕ → Option ℕ) (m : ℕ → Option ℕ) (plan : List UnwindInfoView) (start rva offset : ℕ) (code : List ℕ) (rest : List Instruction) (p : Part) (parts : List Part) (g h : Registers) (x : Result (Registers × Bool) FrameError) →
    epilog_at plan start rva code ≡ Some rest → NeverFalls (functions (table_of e)) → IsPlace e rva_map (target_of rest) (Some (record { offset = offset; plan = infos (p ∷ parts) })) →
    executed_all m (before_last rest) g ≡ Ok h → stack_pointer g ≤ stack_pointer h → AreFrames m (p ∷ parts) (limit_of (infos (p ∷ parts)) offset) h → StepsInImage e rva_map m plan start rva code g x → FollowedTo (p ∷ parts) (limit_of (infos (p ∷ parts)) offset) h x
followed law e rva_map m plan start rva offset code rest p parts g h x decodes sorted place ran low frames steps =
    let there = subst (λ (o : Option (List Instruction)). StepsInImageFrom e rva_map o m plan (rva - start) g x) decodes steps in
    let same = one_place law e rva_map (target_of rest) there.0 (Some (record { offset = offset; plan = infos (p ∷ parts) })) sorted there.1 place in
    followed_from m p parts offset rest g h x ran low frames (subst (λ (q : Option Place). LeavesFor q m rest g x) same there.2)

-- ---- a jump that leads to no function whose records are known

pub returned_in_image : (law : RecordLaw) (e : ExceptionView) (rva_map : ℕ → Option ℕ) (m : ℕ → Option ℕ) (p : Part) (parts : List Part) (before rest : List Instruction) (i : Instruction) (start rva : ℕ) (code : List ℕ) (g h : Registers) (x : Result (Registers × Bool) FrameError) →
    AreFrames m (p ∷ parts) None g → IsEpilogOfParts (p ∷ parts) (before ++ (i ∷ rest)) → AreReady (p ∷ parts) (before ++ (i ∷ rest)) g → executed_all m before g ≡ Ok h → epilog_at (infos (p ∷ parts)) start rva code ≡ Some (i ∷ rest) →
    NeverFalls (functions (table_of e)) → IsPlace e rva_map (target_of (i ∷ rest)) None → StepsInImage e rva_map m (infos (p ∷ parts)) start rva code h x → (u : Registers) × (x ≡ Ok (u, false)) × IsCaller (p ∷ parts) None g u
returned_in_image law e rva_map m p parts before rest i start rva code g h x frames epilog ready ran_so_far decodes sorted place steps =
    let c = comes m p parts before rest i g h frames epilog ready ran_so_far in
    let there = subst (λ (o : Option (List Instruction)). StepsInImageFrom e rva_map o m (infos (p ∷ parts)) (rva - start) h x) decodes steps in
    let same = one_place law e rva_map (target_of (i ∷ rest)) there.0 None sorted there.1 place in
    let leaves = subst (λ (q : Option Place). LeavesFor q m (i ∷ rest) h x) same there.2 in
    (c.caller, leaves ∙ rw c.ends.all (rw (lt-ltb (stack_pointer h) (stack_pointer c.caller) c.ends.below) refl), c.is)

-- ---- a jump to a place where nothing of a function has run

-- a jump that is run to its end pops
run_jump : (m : ℕ → Option ℕ) (is : List Instruction) (a : ℕ) (g : Registers) → target_of is ≡ Some a → executed_all m is g ≡ (executed_all m (before_last is) g >>= popped m)
run_jump m [] a g e = absurd (cc e)
run_jump m (Jump b ∷ []) a g e = then_ok (popped m g)
run_jump m (other ∷ []) a g e = absurd (cc e)
run_jump m (i ∷ j ∷ is) a g e = search (rules, arith, then_same, then_then, run_jump m (j ∷ is) a)

nothing_undone : (m : ℕ → Option ℕ) (f : FrameRegister) (limit : Option ℕ) (codes : List UnwindCode) (g : Registers) → ran limit codes ≡ [] → (f.register ≡ 0) ⊎ (any_sets_frame_register (ran None codes) ≡ true) → entered m f limit codes g ≡ Ok (g, false)
nothing_undone m f limit codes g none framed = rw none (rw (base_plain f (any_sets_frame_register (ran None codes)) g framed) refl)

same_out : (x : Result (Registers × Bool) FrameError) (u : Registers × Bool) → by_kind x ≡ by_kind (Ok u) → x ≡ Ok u
same_out x u e = grind arith

entry_steps : (m : ℕ → Option ℕ) (place : Place) (t u : Registers) → IsEntry place → popped m t ≡ Ok u → stack_pointer t < stack_pointer u → UndoesFunction m place.plan place.offset t (Ok (u, false))
entry_steps m place t u entry pops low =
    let limit = limit_of place.plan place.offset in
    let is : entered m (frame_register_in entry.info) limit entry.codes t ≡ Ok (t, false) = nothing_undone m (frame_register_in entry.info) limit entry.codes t entry.none entry.frame in
    let one : UndoesRecords m (entry.info ∷ []) limit false t (Ok (t, false)) = (Ok (t, false), (Ok entry.codes, entry.known, sym is), refl) in
    let all : UndoesRecords m place.plan limit false t (Ok (t, false)) = subst (λ (is : List UnwindInfoView). UndoesRecords m is limit false t (Ok (t, false))) (sym entry.alone) one in
    (Ok (t, false), all, rw pops (rw (lt-ltb (stack_pointer t) (stack_pointer u) low) refl))

entered_from : (m : ℕ → Option ℕ) (place : Place) (rest : List Instruction) (h t u : Registers) (x : Result (Registers × Bool) FrameError) → IsEntry place → executed_all m (before_last rest) h ≡ Ok t → popped m t ≡ Ok u → stack_pointer t < stack_pointer u → stack_pointer h < stack_pointer u →
    LeavesFor (Some place) m rest h x → x ≡ Ok (u, false)
entered_from m place rest h t u x entry ran_so_far pops low below leaves =
    let steps : UndoesFunction m place.plan place.offset t leaves.0 = subst (λ (r : Result Registers FrameError). Then r (UndoesFunction m place.plan place.offset) leaves.0) ran_so_far leaves.1 in
    let is : leaves.0 ≡ Ok (u, false) = same_out leaves.0 (u, false) (one_out m place.plan place.offset t leaves.0 (Ok (u, false)) steps (entry_steps m place t u entry pops low)) in
    leaves.2 ∙ (ap (λ (l : Result (Registers × Bool) FrameError). l >>= rising_out (stack_pointer h)) is ∙ risen (stack_pointer h) u false (λ e. below))

target_there : (e : ExceptionView) (rva_map : ℕ → Option ℕ) (target : Option ℕ) (place : Place) → IsPlace e rva_map target (Some place) → (a : ℕ) × (target ≡ Some a)
target_there e rva_map target place is = grind arith

pub returned_by_entry : (law : RecordLaw) (e : ExceptionView) (rva_map : ℕ → Option ℕ) (place : Place) (m : ℕ → Option ℕ) (p : Part) (parts : List Part) (before rest : List Instruction) (i : Instruction) (start rva : ℕ) (code : List ℕ) (g h t : Registers) (x : Result (Registers × Bool) FrameError) →
    AreFrames m (p ∷ parts) None g → IsEpilogOfParts (p ∷ parts) (before ++ (i ∷ rest)) → AreReady (p ∷ parts) (before ++ (i ∷ rest)) g → executed_all m before g ≡ Ok h → epilog_at (infos (p ∷ parts)) start rva code ≡ Some (i ∷ rest) →
    NeverFalls (functions (table_of e)) → IsPlace e rva_map (target_of (i ∷ rest)) (Some place) → IsEntry place → executed_all m (before_last (i ∷ rest)) h ≡ Ok t → length t.general ≡ 16 → StepsInImage e rva_map m (infos (p ∷ parts)) start rva code h x →
    (u : Registers) × (x ≡ Ok (u, false)) × IsCaller (p ∷ parts) None g u
returned_by_entry law e rva_map place m p parts before rest i start rva code g h t x frames epilog ready ran_so_far decodes sorted is entry ran_to_jump count steps =
    let c = comes m p parts before rest i g h frames epilog ready ran_so_far in
    let there = subst (λ (o : Option (List Instruction)). StepsInImageFrom e rva_map o m (infos (p ∷ parts)) (rva - start) h x) decodes steps in
    let same = one_place law e rva_map (target_of (i ∷ rest)) there.0 (Some place) sorted there.1 is in
    let leaves = subst (λ (q : Option Place). LeavesFor q m (i ∷ rest) h x) same there.2 in
    let target = target_there e rva_map (target_of (i ∷ rest)) place is in
    let to_end : (executed_all m (before_last (i ∷ rest)) h >>= popped m) ≡ Ok c.caller = sym (run_jump m (i ∷ rest) target.0 h target.1) ∙ c.ends.all in
    let pops : popped m t ≡ Ok c.caller = ap (λ (r : Result Registers FrameError). r >>= popped m) (sym ran_to_jump) ∙ to_end in
    let rises = popped_rose m t c.caller count pops in
    (c.caller, entered_from m place (i ∷ rest) h t c.caller x entry ran_to_jump pops (omega (arith, rises.pointer_is)) c.ends.below leaves, c.is)
