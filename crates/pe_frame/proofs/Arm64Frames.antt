-- Frames of a running ARM64 program are undone.
use Rattle.std.proofs.Common.{◌≡◌, ℕ, ◌-◌, ◌≤◌, true, false, All, List, ◌∷◌, drop, Option, Some, Result, Ok, refl, ap, sym, ◌∙◌, arith, rules, []}
use Rattle.pe_frame.proofs.Cited.{◌>>=◌, nat_tests, All-head, All-tail, Arm64Operation, operation_in, operations, registers_alone}
use Rattle.pe_frame.proofs.Cited.{Arm64UnwindCode, Arm64InfoView, Arm64Registers, FrameError, link_register, put_pc, undone_codes}
use Rattle.pe_frame.proofs.Cited.{returned_arm64, entry_by, entry_of, caller_by_list, caller_by_codes, prolog_length, ran_arm64, Leaves}
use Rattle.pe_frame.proofs.Cited.{StepsArm64, packed_left, is_canonical, stepped_arm64_packed, run_arm64, sets_frame_pointer, IsArm64Caller}
use Rattle.pe_frame.proofs.Cited.{Arm64Part, effects_at, IsArm64Frame}
use Rattle.pe_frame.proofs.StepsOut.{alone}
use Rattle.pe_frame.proofs.Arm64Streams.{step_by_codes}
use Rattle.pe_frame.proofs.Arm64Effects.{known_codes, undone-effects, operations-drop, prolog-drop}
use Rattle.pe_frame.proofs.Arm64Packed.{canonical_step, left_called}
use Rattle.pe_frame.proofs.Arm64Runs.{holds, known, sinks}
use Rattle.pe_frame.proofs.Arm64Reverted.{Reverts, keeps_le, reverts}

pub returned_ok : (p : ℕ) (u : Arm64Registers) → p ≤ u.sp → returned_arm64 p u ≡ Ok (put_pc u (link_register u))
returned_ok p u above = grind (arith, nat_tests)

-- the effects that have run are undone
pub reverted_entry : (p : Arm64Part) (place : ℕ) (m : ℕ → Option ℕ) (g : Arm64Registers) → IsArm64Frame p place m g → Reverts m (effects_at place p) p.entry g
reverted_entry p place m g frame =
    let es = effects_at place p in
    let prolog = prolog-drop (prolog_length p.codes - place) p.operations p.entry frame.prolog in
    let held = known m (run_arm64 es p.entry).memory es p.entry frame.body.memory (holds es p.entry prolog) in
    reverts m es p.entry g prolog held frame.body.count frame.body.float_count frame.body.stack frame.body.link

-- codes whose operations are known are of no frame of the operating system
called_by : (cs : List Arm64UnwindCode) (c : Arm64UnwindCode) (o : Arm64Operation) → operation_in cs c ≡ Some o → (entry_by c).has_pc ≡ false
called_by cs c o e = grind arith

called : (cs : List Arm64UnwindCode) (os : List Arm64Operation) → operations cs ≡ Some os → (entry_of cs).has_pc ≡ false
called [] os e = refl
called (c ∷ cs) os e = search (rules, arith, known_codes, called_by, called cs)

-- the registers of a caller that called
alone_called : (m : ℕ → Option ℕ) (cs : List Arm64UnwindCode) (g : Arm64Registers) → (entry_of cs).has_pc ≡ false → registers_alone (caller_by_codes m cs g) ≡ caller_by_list m cs g
alone_called m cs g call = grind (arith, alone)

pub alone_known : (m : ℕ → Option ℕ) (cs : List Arm64UnwindCode) (os : List Arm64Operation) (g : Arm64Registers) → operations cs ≡ Some os → registers_alone (caller_by_codes m cs g) ≡ caller_by_list m cs g
alone_known m cs os g known = alone_called m cs g (called cs os known)

-- undoing the codes of the instructions that have run gives the registers of the caller
pub arm64_undone : (m : ℕ → Option ℕ) (p : Arm64Part) (place : ℕ) (g : Arm64Registers) (x : Result Arm64Registers FrameError) →
    IsArm64Frame p place m g → x ≡ (undone_codes m (ran_arm64 place p.codes) g >>= returned_arm64 g.sp) → (u : Arm64Registers) × (x ≡ Ok u) × IsArm64Caller (effects_at place p) p.entry g u
arm64_undone m p place g x frame step =
    let es = effects_at place p in
    let e = reverted_entry p place m g frame in
    let undone : undone_codes m (ran_arm64 place p.codes) g ≡ Ok e.entry = undone-effects m (ran_arm64 place p.codes) (drop (prolog_length p.codes - place) p.operations) g (operations-drop (prolog_length p.codes - place) p.codes p.operations frame.known) ∙ e.is in
    let le = keeps_le (sets_frame_pointer es) es (run_arm64 es p.entry) g frame.body.stack in
    let low = sinks es p.entry (prolog-drop (prolog_length p.codes - place) p.operations p.entry frame.prolog) in
    let back : returned_arm64 g.sp e.entry ≡ Ok (put_pc e.entry (link_register e.entry)) = returned_ok g.sp e.entry (omega (arith, le, low, e.stack)) in (
      put_pc e.entry (link_register e.entry),
      step ∙ (ap (λ (u : Result Arm64Registers FrameError). u >>= returned_arm64 g.sp) undone ∙ back),
      record { stack = e.stack; returns = e.link; link = e.link; registers = e.registers; floats = e.floats },
    )

none_has_pc : (cs : List Arm64UnwindCode) → All (λ c. (entry_by c).has_pc ≡ false) cs → (entry_of cs).has_pc ≡ false
none_has_pc [] all = refl
none_has_pc (c ∷ cs) all =
    rw (All-head (λ d. (entry_by d).has_pc ≡ false) c cs all) (none_has_pc cs (All-tail (λ d. (entry_by d).has_pc ≡ false) c cs all))

-- a step by a record returns the registers of the caller
pub arm64_caller : (m : ℕ → Option ℕ) (i : Arm64InfoView) (p : Arm64Part) (place stand : ℕ) (g : Arm64Registers) (x : Result Arm64Registers FrameError) → Leaves i place (Ok (ran_arm64 stand p.codes)) →
    IsArm64Frame p stand m g → StepsArm64 m i place g x → (u : Arm64Registers) × (x ≡ Ok u) × IsArm64Caller (effects_at stand p) p.entry g u
arm64_caller m i p place stand g x left frame step =
    let n = prolog_length p.codes - stand in
    arm64_undone m p stand g x frame (step_by_codes m i (ran_arm64 stand p.codes) place g x left step
    ∙ alone_known m (ran_arm64 stand p.codes) (drop n p.operations) g (operations-drop n p.codes p.operations frame.known))

-- so does a step by packed unwind data, which is one by a record that leaves their codes
pub packed_caller : (m : ℕ → Option ℕ) (d : ℕ) (p : Arm64Part) (place stand : ℕ) (g : Arm64Registers) (x : Result Arm64Registers FrameError) → packed_left d place ≡ ran_arm64 stand p.codes → is_canonical d ≡ true →
    IsArm64Frame p stand m g → x ≡ stepped_arm64_packed m d place g → (u : Arm64Registers) × (x ≡ Ok u) × IsArm64Caller (effects_at stand p) p.entry g u
packed_caller m d p place stand g x left canonical frame step =
    arm64_undone m p stand g x frame (step ∙ (canonical_step m d place g canonical ∙ ap (λ (cs : List Arm64UnwindCode). caller_by_list m cs g) left))

pub packed_as_codes : (m : ℕ → Option ℕ) (d : ℕ) (i : Arm64InfoView) (place : ℕ) (g : Arm64Registers) (x : Result Arm64Registers FrameError) → is_canonical d ≡ true → Leaves i place (Ok (packed_left d place)) →
    StepsArm64 m i place g x → stepped_arm64_packed m d place g ≡ x
packed_as_codes m d i place g x canonical left step =
    canonical_step m d place g canonical
    ∙ sym (step_by_codes m i (packed_left d place) place g x left step ∙ alone_called m (packed_left d place) g (none_has_pc (packed_left d place) (left_called d place canonical)))
