use Rattle.std.proofs.Common.{◌≡◌, ℕ, ◌+◌, ◌-◌, ◌≤◌, List, ◌∷◌, ◌++◌, take, drop, Option, Some, Result, Ok, refl, ap, sym, ◌∙◌, subst, append_assoc, arith, rules, []}
use Rattle.pe_frame.proofs.Cited.{◌>>=◌, take-append-drop, get_or-set_same, Arm64InfoView, Arm64Operation, X, Arm64Registers, FrameError}
use Rattle.pe_frame.proofs.Cited.{Arm64Effect, Lower, Store, SetFramePointer, SignLink, effects_of, all_effects, frame_pointer}
use Rattle.pe_frame.proofs.Cited.{link_register, put_pc, put_saved, put_sp, stripped, reverted, reverted_all, undone_codes, returned_arm64}
use Rattle.pe_frame.proofs.Cited.{prolog_length, Leaves, StepsArm64, Arm64Machine, held, caused, run_arm64, sets_frame_pointer}
use Rattle.pe_frame.proofs.Cited.{KeepsStackPointerArm64, IsArm64Prolog, IsArm64Caller, Arm64Part, effects_at, IsArm64Frame}
use Rattle.pe_frame.proofs.Arm64Streams.{step_by_codes}
use Rattle.pe_frame.proofs.Arm64Effects.{reverted-append, undone-effects, operations-drop, prolog-drop}
use Rattle.pe_frame.proofs.Arm64Runs.{Holds, entered, count, holds, known, sinks}
use Rattle.pe_frame.proofs.Arm64Reverted.{keeps_le, lowered_ok, stored_ok, framed_ok, keeps_at_store, keeps_exact, keeps_lowered, keeps_stored, keeps_signed}
use Rattle.pe_frame.proofs.Arm64Frames.{alone_known, returned_ok, reverted_entry}
use Rattle.pe_frame.proofs.laws.arm64.arm64_epilogs_return_to_the_caller.Goals as goal

-- Epilogs that have undone the last instructions of a prolog.
ok_same : (g u : Arm64Registers) → ◌≡◌ {A = Result Arm64Registers FrameError} (Ok g) (Ok u) → g ≡ u
ok_same g u e = cc

then_left : (m : ℕ → Option ℕ) (e : Arm64Effect) (a : List Arm64Effect) (g next mid : Arm64Registers) → reverted m e g ≡ Ok next → reverted_all m (e ∷ a) g ≡ Ok mid → reverted_all m a next ≡ Ok mid
then_left m e a g next mid is all = sym (ap (λ (r : Result Arm64Registers FrameError). r >>= reverted_all m a) is) ∙ all

-- the stack pointer in an epilog is not above where it was at the function's entry
middle : (m : ℕ → Option ℕ) (a b : List Arm64Effect) (s : Arm64Machine) (g mid : Arm64Registers) → IsArm64Prolog (a ++ b) s → Holds (λ x v. m x ≡ Some v) (a ++ b) s →
    KeepsStackPointerArm64 (sets_frame_pointer (a ++ b)) (a ++ b) (run_arm64 (a ++ b) s) g → reverted_all m a g ≡ Ok mid → mid.sp ≤ s.sp
middle m [] b s g mid p h k e = search (rules, arith, keeps_le, sinks, ok_same)
middle m (Lower n ∷ a) b s g mid p h k e =
    let before = a ++ b in
    let t = run_arm64 before s in
    let le : g.sp ≤ t.sp - n = keeps_le (sets_frame_pointer before) (Lower n ∷ before) (caused (Lower n) t) g k in
    let next = put_sp g (g.sp + n) in
    let step = lowered_ok m n g (omega (arith, le, sinks before s p.1, (entered before s p.1).stack, p.0)) in
    middle m a b s next mid p.1 h (keeps_lowered (sets_frame_pointer before) n before t g p.0 k) (then_left m (Lower n) a g next mid step e)
middle m (Store r o ∷ a) b s g mid p h k e =
    let before = a ++ b in
    let t = run_arm64 before s in
    let at : g.sp ≡ t.sp = keeps_at_store (sets_frame_pointer before) r o before (caused (Store r o) t) g k in
    let v = held t r in
    let next = put_saved g r v in
    let step = stored_ok m r o v g (omega (arith, at, p.0.2)) (ap (λ (x : ℕ). m (x + o)) at ∙ h.0) in
    middle m a b s next mid p.1 h.1 (keeps_stored (sets_frame_pointer before) r o v before t g p.0.1 k) (then_left m (Store r o) a g next mid step e)
middle m (SetFramePointer n ∷ a) b s g mid p h k e =
    let before = a ++ b in
    let t = run_arm64 before s in
    let next = put_sp g t.sp in
    let step = framed_ok m n t.sp g (k.2 ∙ get_or-set_same t.general 29 (t.sp + n) 0 (omega (arith, count before s p.1))) in
    middle m a b s next mid p.1 h (keeps_exact (sets_frame_pointer before) before t next p.0.0 refl) (then_left m (SetFramePointer n) a g next mid step e)
middle m (SignLink ∷ a) b s g mid p h k e =
    let before = a ++ b in
    let next = put_saved g (X 30) (stripped (link_register g)) in
    middle m a b s next mid p.1 h (keeps_signed (sets_frame_pointer before) (stripped (link_register g)) before (run_arm64 before s) g k) (then_left m SignLink a g next mid refl e)

effects-append : (os ps : List Arm64Operation) → all_effects (os ++ ps) ≡ all_effects os ++ all_effects ps
effects-append [] ps = refl
effects-append (o ∷ os) ps = ap (λ (es : List Arm64Effect). effects_of o ++ es) (effects-append os ps) ∙ sym (append_assoc (effects_of o) (all_effects os) (all_effects ps))

-- all effects are those that the epilog has undone, and those that are left
parts : (p : Arm64Part) (run : ℕ) → effects_at (prolog_length p.codes) p ≡ all_effects (take run p.operations) ++ all_effects (drop run p.operations)
parts p run =
    let none : prolog_length p.codes - prolog_length p.codes ≡ 0 = omega arith in
    ap (λ (n : ℕ). all_effects (drop n p.operations)) none
    ∙ (ap all_effects (sym (take-append-drop run p.operations)) ∙ effects-append (take run p.operations) (drop run p.operations))

-- a step in an epilog returns the caller that one at its start does
epilog_caller : (m : ℕ → Option ℕ) (i : Arm64InfoView) (p : Arm64Part) (place run : ℕ) (g now : Arm64Registers) (x : Result Arm64Registers FrameError) → Leaves i place (Ok (drop run p.codes)) →
    IsArm64Frame p (prolog_length p.codes) m g → reverted_all m (all_effects (take run p.operations)) g ≡ Ok now → StepsArm64 m i place now x →
    (u : Arm64Registers) × (x ≡ Ok u) × IsArm64Caller (effects_at (prolog_length p.codes) p) p.entry g u
epilog_caller m i p place run g now x left frame done step =
    let s = p.entry in
    let es = effects_at (prolog_length p.codes) p in
    let a = all_effects (take run p.operations) in
    let b = all_effects (drop run p.operations) in
    let both : es ≡ a ++ b = parts p run in
    let e = reverted_entry p (prolog_length p.codes) m g frame in
    let prolog = prolog-drop (prolog_length p.codes - prolog_length p.codes) p.operations s frame.prolog in
    let word = known m (run_arm64 es s).memory es s frame.body.memory (holds es s prolog) in
    let low : now.sp ≤ s.sp =
    middle m a b s g now (subst (λ (fs : List Arm64Effect). IsArm64Prolog fs s) both prolog) (subst (λ (fs : List Arm64Effect). Holds (λ y v. m y ≡ Some v) fs s) both word)
    (subst (λ (fs : List Arm64Effect). KeepsStackPointerArm64 (sets_frame_pointer fs) fs (run_arm64 fs s) g) both frame.body.stack) done in
    let rest : reverted_all m b now ≡ Ok e.entry =
    sym (ap (λ (r : Result Arm64Registers FrameError). r >>= reverted_all m b) done)
    ∙ (sym (reverted-append m a b g) ∙ (ap (λ (fs : List Arm64Effect). reverted_all m fs g) (sym both) ∙ e.is)) in
    let undone : undone_codes m (drop run p.codes) now ≡ Ok e.entry = undone-effects m (drop run p.codes) (drop run p.operations) now (operations-drop run p.codes p.operations frame.known) ∙ rest in
    let back : returned_arm64 now.sp e.entry ≡ Ok (put_pc e.entry (link_register e.entry)) = returned_ok now.sp e.entry (omega (arith, low, e.stack)) in
    let is : x ≡ Ok (put_pc e.entry (link_register e.entry)) =
    step_by_codes m i (drop run p.codes) place now x left step
    ∙ (alone_known m (drop run p.codes) (drop run p.operations) now (operations-drop run p.codes p.operations frame.known) ∙ ap (λ (u : Result Arm64Registers FrameError). u >>= returned_arm64 now.sp) undone ∙ back) in (
      put_pc e.entry (link_register e.entry),
      is,
      record { stack = e.stack; returns = e.link; link = e.link; registers = e.registers; floats = e.floats },
    )

pub returns : goal.returns
returns c = λ m i p place run g now left frame done x. epilog_caller m i p place run g now x left frame done
