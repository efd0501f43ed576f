-- Frames of a running program are undone.
use Rattle.std.proofs.Common.{◌≡◌, ◌≢◌, ℕ, ◌+◌, ◌^◌, ◌<◌, ◌≤◌, Bool, true, false, leb, IsSome, List, ◌∷◌, length, map, get_or, Option, Some, None, Result, Ok, refl, ap, sym, ◌∙◌, subst, arith, rules, []}
use Rattle.pe_frame.proofs.Cited.{AllByRecursion, lt-ltb, nat_tests, get_or-set_other, UnwindCode, UnwindInfoView, FrameError, Registers}
use Rattle.pe_frame.proofs.Cited.{ran, any_sets_frame_register, is_interrupted, stack_pointer, entered, put_register, put_rip, known_codes}
use Rattle.pe_frame.proofs.Cited.{frame_register_in, limit_of, Enters, UndoesRecords, Steps, returned, by_kind, machine_stack_pointer}
use Rattle.pe_frame.proofs.Cited.{loaded, run, chosen, saves, saves_xmm, Part, infos, left, IsRecord, StopsIn, SavesOrKeeps, registers_of}
use Rattle.pe_frame.proofs.Cited.{AreFrames, restored, restored_xmm, IsCaller}
use Rattle.pe_frame.specs.Frames.{Leaves}
use Rattle.pe_frame.proofs.Begun.{begun}
use Rattle.pe_frame.proofs.OneStep.{one_step}
use Rattle.pe_frame.proofs.Runs.{sinks, pointer_set}
use Rattle.pe_frame.proofs.Saved.{holds, known, return_slot}
use Rattle.pe_frame.proofs.Undone as undone

codes_there : (codes : List UnwindCode) → known_codes (map Ok codes) ≡ Ok codes
codes_there [] = refl
codes_there (c ∷ cs) = rw (codes_there cs) refl

-- one part undone
pub record Entry (c : Bool) (limit : Option ℕ) (p : Part) (m : ℕ → Option ℕ) (g : Registers) : Type 0 where
  pub entry : Registers
  pub is : entered m (frame_register_in p.info) limit p.codes g ≡ Ok (entry, is_interrupted (ran limit p.codes))
  pub count : length entry.general ≡ 16
  pub xmm_count : length entry.xmm ≡ 16
  pub leaves : undone.LeavesAt (ran limit p.codes) p.entry entry
  pub registers : (r : ℕ) → r ≢ 4 → get_or entry.general r 0 ≡ chosen (saves (ran limit p.codes) r) (get_or p.entry.general r 0) (get_or g.general r 0)
  pub xmm_registers : (r : ℕ) → get_or entry.xmm r 0 ≡ chosen (saves_xmm (ran limit p.codes) r) (get_or p.entry.xmm r 0) (get_or g.xmm r 0)

pub entry_of : (c : Bool) (limit : Option ℕ) (p : Part) (m : ℕ → Option ℕ) (g : Registers) → IsRecord c p → StopsIn c limit p m g → Entry c limit p m g
entry_of c limit p m g record_is stops =
    let f = frame_register_in p.info in
    let codes = ran limit p.codes in
    let q = begun c f p.codes p.entry limit stops.order record_is.prolog in
    let held = known m (run f codes p.entry).memory c f codes p.entry stops.body.memory (holds c f codes p.entry q) in
    let at = undone.has_base c f (any_sets_frame_register (ran None p.codes)) codes p.entry g record_is.frame q stops.body.frame in
    let un = undone.undoes m at.base c f codes p.entry g q held stops.body.count stops.body.xmm_count at.saves at.points in
    record {
      entry = un.entry;
      is = rw at.is (rw un.is refl);
      count = un.count;
      xmm_count = un.xmm_count;
      leaves = un.stack;
      registers = un.registers;
      xmm_registers = un.xmm_registers;
    }

enters : (c : Bool) (limit : Option ℕ) (p : Part) (m : ℕ → Option ℕ) (g : Registers) (answer : Result (Registers × Bool) FrameError) → IsRecord c p → entered m (frame_register_in p.info) limit p.codes g ≡ answer → Enters m limit p.info g answer
enters c limit p m g answer record_is e = (Ok p.codes, (map Ok p.codes, record_is.items, sym (codes_there p.codes)), sym e)

-- the part before it has been undone: the stack pointer is where that part was entered, and so is each frame register
pub record Agrees (parts : List Part) (w v : Registers) : Type 0 where
  pub count : length v.general ≡ 16
  pub xmm_count : length v.xmm ≡ 16
  pub stack : stack_pointer v ≡ stack_pointer w
  pub frames : AllByRecursion (λ o. IsSome (left None o).frame_base → get_or v.general (o.info.frame_register).0 0 ≡ get_or w.general (o.info.frame_register).0 0) parts

stops_also : (c : Bool) (q : Part) (m : ℕ → Option ℕ) (w v : Registers) → length v.general ≡ 16 → length v.xmm ≡ 16 → stack_pointer v ≡ stack_pointer w →
    (IsSome (left None q).frame_base → get_or v.general (q.info.frame_register).0 0 ≡ get_or w.general (q.info.frame_register).0 0) → StopsIn c None q m w → StopsIn c None q m v
stops_also c q m w v count xmm_count stack same stops = grind (arith, get_or)

keeps_also : (q : Part) (parts : List Part) (w v : Registers) →
    AllByRecursion (λ o. IsSome (left None o).frame_base → get_or v.general (o.info.frame_register).0 0 ≡ get_or w.general (o.info.frame_register).0 0) parts →
    AllByRecursion (λ o. IsSome (left None o).frame_base → SavesOrKeeps None q w (o.info.frame_register).0) parts →
    AllByRecursion (λ o. IsSome (left None o).frame_base → SavesOrKeeps None q v (o.info.frame_register).0) parts
keeps_also q [] w v same keeps = tt
keeps_also q (o ∷ parts) w v same keeps = grind (arith, keeps_also q parts w v)

-- other registers that agree are those of the same frames
pub frames_also : (m : ℕ → Option ℕ) (parts : List Part) (w v : Registers) → Agrees parts w v → AreFrames m parts None w → AreFrames m parts None v
frames_also m [] w v agrees frames = absurd frames
frames_also m (q ∷ []) w v agrees frames = grind (arith, stops_also)
frames_also m (q ∷ o ∷ parts) w v agrees frames = (
  frames.0,
  frames.1,
  stops_also false q m w v agrees.count agrees.xmm_count agrees.stack agrees.frames.0 frames.2,
  keeps_also q (o ∷ parts) w v agrees.frames.1 frames.3,
  frames.4,
)

-- a frame register that is set is not the stack pointer
set_other : (c : Bool) (o : Part) → IsRecord c o → IsSome (left None o).frame_base → (o.info.frame_register).0 ≢ 4
set_other c o record_is framed = grind (arith, undone.set_other)

frame_agrees : (c d : Bool) (limit : Option ℕ) (p o : Part) (m : ℕ → Option ℕ) (g : Registers) (e : Entry c limit p m g) → IsRecord d o →
    (IsSome (left None o).frame_base → SavesOrKeeps limit p g (o.info.frame_register).0) →
    IsSome (left None o).frame_base → get_or e.entry.general (o.info.frame_register).0 0 ≡ get_or p.entry.general (o.info.frame_register).0 0
frame_agrees c d limit p o m g e record_is keeps framed = grind (arith, set_other, get_or)

frames_agree : (c : Bool) (limit : Option ℕ) (p : Part) (m k : ℕ → Option ℕ) (g w : Registers) (e : Entry c limit p m g) (parts : List Part) → AreFrames k parts None w →
    AllByRecursion (λ o. IsSome (left None o).frame_base → SavesOrKeeps limit p g (o.info.frame_register).0) parts →
    AllByRecursion (λ o. IsSome (left None o).frame_base → get_or e.entry.general (o.info.frame_register).0 0 ≡ get_or p.entry.general (o.info.frame_register).0 0) parts
frames_agree c limit p m k g w e [] frames keeps = tt
frames_agree c limit p m k g w e (o ∷ []) frames keeps = (frame_agrees c true limit p o m g e frames.0 keeps.0, tt)
frames_agree c limit p m k g w e (o ∷ q ∷ parts) frames keeps = search (rules, arith, frame_agrees, frames_agree c limit p m k g (registers_of o.entry) e (q ∷ parts) frames.4 keeps.1)

-- the registers where the function was entered
abbrev pub LeftAt : List Part → Option ℕ → Bool → Registers → Type 0
LeftAt [] limit b v = ⊥
LeftAt (p ∷ []) limit b v = undone.LeavesAt (ran limit p.codes) p.entry v × (b ≡ is_interrupted (ran limit p.codes))
LeftAt (p ∷ q ∷ parts) limit b v = LeftAt (q ∷ parts) None b v

pub record Walked (parts : List Part) (limit : Option ℕ) (m : ℕ → Option ℕ) (g : Registers) : Type 0 where
  pub entry : Registers
  pub interrupted : Bool
  pub is : UndoesRecords m (infos parts) limit false g (Ok (entry, interrupted))
  pub count : length entry.general ≡ 16
  pub left_at : LeftAt parts limit interrupted entry
  pub registers : (r : ℕ) → r ≢ 4 → get_or entry.general r 0 ≡ restored parts limit r (get_or g.general r 0)
  pub xmm_registers : (r : ℕ) → get_or entry.xmm r 0 ≡ restored_xmm parts limit r (get_or g.xmm r 0)

pub walked : (m : ℕ → Option ℕ) (parts : List Part) (limit : Option ℕ) (g : Registers) → AreFrames m parts limit g → Walked parts limit m g
walked m [] limit g frames = absurd frames
walked m (p ∷ []) limit g frames =
    let e = entry_of true limit p m g frames.0 frames.2 in
    let interrupted = is_interrupted (ran limit p.codes) in
    record {
      entry = e.entry;
      interrupted = interrupted;
      is = (Ok (e.entry, interrupted), enters true limit p m g (Ok (e.entry, interrupted)) frames.0 e.is, refl);
      count = e.count;
      left_at = (e.leaves, refl);
      registers = e.registers;
      xmm_registers = e.xmm_registers;
    }
walked m (p ∷ q ∷ parts) limit g frames =
    let e = entry_of false limit p m g frames.0 frames.2 in
    let is : entered m (frame_register_in p.info) limit p.codes g ≡ Ok (e.entry, false) = e.is ∙ ap (λ (b : Bool). Ok (e.entry, b)) frames.1 in
    let stack : stack_pointer e.entry ≡ machine_stack_pointer p.entry = undone.left_plain (ran limit p.codes) p.entry e.entry frames.1 e.leaves in
    let next = frames_also m (q ∷ parts) (registers_of p.entry) e.entry (record {
      count = e.count;
      xmm_count = e.xmm_count;
      stack = stack;
      frames = frames_agree false limit p m m g (registers_of p.entry) e (q ∷ parts) frames.4 frames.3;
    }) frames.4 in
    let rest = walked m (q ∷ parts) None e.entry next in
    record {
      entry = rest.entry;
      interrupted = rest.interrupted;
      is = (Ok (e.entry, false), enters false limit p m g (Ok (e.entry, false)) frames.0 is, rest.is);
      count = rest.count;
      left_at = rest.left_at;
      registers = λ r other. rest.registers r other ∙ ap (λ (k : ℕ). restored (q ∷ parts) None r k) (e.registers r other);
      xmm_registers = λ r. rest.xmm_registers r ∙ ap (λ (k : ℕ). restored_xmm (q ∷ parts) None r k) (e.xmm_registers r);
    }

-- the function itself, which is the last part
abbrev pub root_of : Part → List Part → Part
root_of p [] = p
root_of p (q ∷ parts) = root_of q parts

-- the stack pointer is not above where a part was entered
not_above : (c : Bool) (limit : Option ℕ) (p : Part) (m : ℕ → Option ℕ) (g : Registers) → IsRecord c p → StopsIn c limit p m g → stack_pointer g ≤ machine_stack_pointer p.entry
not_above c limit p m g record_is stops = grind (arith, sinks, begun)

pub root_above : (m : ℕ → Option ℕ) (p : Part) (parts : List Part) (limit : Option ℕ) (g : Registers) → AreFrames m (p ∷ parts) limit g → stack_pointer g ≤ machine_stack_pointer (root_of p parts).entry
root_above m p [] limit g frames = not_above true limit p m g frames.0 frames.2
root_above m p (q ∷ parts) limit g frames =
    omega (arith, root_above m q parts None (registers_of p.entry) frames.4, not_above false limit p m g frames.0 frames.2)

-- the known memory has the eight bytes that the stack pointer points at where the function was entered
root_word : (m : ℕ → Option ℕ) (p : Part) (parts : List Part) (limit : Option ℕ) (g : Registers) → AreFrames m (p ∷ parts) limit g →
    m (machine_stack_pointer (root_of p parts).entry) ≡ Some (loaded (root_of p parts).entry.memory (machine_stack_pointer (root_of p parts).entry))
root_word m p [] limit g frames =
    let f = frame_register_in p.info in
    let codes = ran limit p.codes in
    let q = begun true f p.codes p.entry limit frames.2.order frames.0.prolog in
    let held = known m (run f codes p.entry).memory true f codes p.entry frames.2.body.memory (holds true f codes p.entry q) in
    return_slot (λ a v. m a ≡ Some v) f codes p.entry held
root_word m p (q ∷ parts) limit g frames = root_word m q parts None (registers_of p.entry) frames.4

root_room : (m : ℕ → Option ℕ) (p : Part) (parts : List Part) (limit : Option ℕ) (g : Registers) → AreFrames m (p ∷ parts) limit g → machine_stack_pointer (root_of p parts).entry + 8 < 2 ^ 64
root_room m p [] limit g frames = frames.1
root_room m p (q ∷ parts) limit g frames = root_room m q parts None (registers_of p.entry) frames.4

left_stack : (p : Part) (parts : List Part) (limit : Option ℕ) (v : Registers) → LeftAt (p ∷ parts) limit false v → stack_pointer v ≡ machine_stack_pointer (root_of p parts).entry
left_stack p [] limit v h = undone.left_plain (ran limit p.codes) p.entry v (sym h.1) h.0
left_stack p (q ∷ parts) limit v h = left_stack q parts None v h

left_interrupt : (p : Part) (parts : List Part) (limit : Option ℕ) (v : Registers) → LeftAt (p ∷ parts) limit true v → Leaves (p ∷ parts) limit v
left_interrupt p [] limit v h = undone.after_interrupt (ran limit p.codes) p.entry v (sym h.1) h.0
left_interrupt p (q ∷ parts) limit v h = left_interrupt q parts None v h

left_return : (p : Part) (parts : List Part) (limit : Option ℕ) (v u : Registers) → LeftAt (p ∷ parts) limit false v → stack_pointer u ≡ machine_stack_pointer (root_of p parts).entry + 8 →
    u.rip ≡ loaded (root_of p parts).entry.memory (machine_stack_pointer (root_of p parts).entry) → Leaves (p ∷ parts) limit u
left_return p [] limit v u h at rip = undone.after_plain (ran limit p.codes) p.entry u (sym h.1) at rip
left_return p (q ∷ parts) limit v u h at rip = left_return q parts None v u h at rip

-- the caller, once the records are undone
abbrev pub Called : (ℕ → Option ℕ) → List Part → Option ℕ → Registers → (Registers × Bool) → Type 0
Called m parts limit g e = (u : Registers) × (returned m (stack_pointer g) e ≡ Ok u) × IsCaller parts limit g u

popped_ok : (m : ℕ → Option ℕ) (t a p : ℕ) (v : Registers) → stack_pointer v ≡ t → m t ≡ Some a → t + 8 < 2 ^ 64 → p ≤ t → length v.general ≡ 16 →
    returned m p (v, false) ≡ Ok (put_rip (put_register v 4 (t + 8)) a)
popped_ok m t a p v at word room low count = grind (arith, get_or, pointer_set, lt-ltb, undone.number_ok, undone.raised_at)

pub called : (m : ℕ → Option ℕ) (p : Part) (parts : List Part) (limit : Option ℕ) (g v : Registers) (b : Bool) → AreFrames m (p ∷ parts) limit g → length v.general ≡ 16 → LeftAt (p ∷ parts) limit b v
    → ((r : ℕ) → r ≢ 4 → get_or v.general r 0 ≡ restored (p ∷ parts) limit r (get_or g.general r 0)) → ((r : ℕ) → get_or v.xmm r 0 ≡ restored_xmm (p ∷ parts) limit r (get_or g.xmm r 0)) → Called m (p ∷ parts) limit g (v, b)
called m p parts limit g v true frames count at registers xmm_registers =
    (v, refl, record { leaves = left_interrupt p parts limit v at; registers = registers; xmm_registers = xmm_registers })
called m p parts limit g v false frames count at registers xmm_registers =
    let t = machine_stack_pointer (root_of p parts).entry in
    let a = loaded (root_of p parts).entry.memory t in
    let u = put_rip (put_register v 4 (t + 8)) a in (
      u,
      popped_ok m t a (stack_pointer g) v (left_stack p parts limit v at) (root_word m p parts limit g frames) (root_room m p parts limit g frames) (root_above m p parts limit g frames) count,
      record {
        leaves = left_return p parts limit v u at (pointer_set v.general (t + 8) count) refl;
        registers = λ r other. get_or-set_other v.general 4 r (t + 8) 0 other ∙ registers r other;
        xmm_registers = xmm_registers;
      },
    )

same_ok : (x : Result Registers FrameError) (u : Registers) → by_kind x ≡ by_kind (Ok u) → x ≡ Ok u
same_ok x u e = grind arith

abbrev pub CalledBy : List Part → Option ℕ → Registers → Result Registers FrameError → Type 0
CalledBy parts limit g x = (u : Registers) × (x ≡ Ok u) × IsCaller parts limit g u

caller_by : (m : ℕ → Option ℕ) (p : Part) (parts : List Part) (offset : ℕ) (limit : Option ℕ) (g : Registers) (x : Result Registers FrameError) → limit_of (infos (p ∷ parts)) offset ≡ limit →
    AreFrames m (p ∷ parts) limit g → Steps m (infos (p ∷ parts)) offset g x → CalledBy (p ∷ parts) limit g x
caller_by m p parts offset limit g x e frames steps =
    let w = walked m (p ∷ parts) limit g frames in
    let last = called m p parts limit g w.entry w.interrupted frames w.count w.left_at w.registers w.xmm_registers in
    let one : Steps m (infos (p ∷ parts)) offset g (Ok last.0) =
    (Ok (w.entry, w.interrupted), subst (λ (l : Option ℕ). UndoesRecords m (infos (p ∷ parts)) l false g (Ok (w.entry, w.interrupted))) (sym e) w.is, sym last.1) in
    (last.0, same_ok x last.0 (one_step m (infos (p ∷ parts)) offset g x (Ok last.0) steps one), last.2)

pub caller_after_prolog : (m : ℕ → Option ℕ) (p : Part) (parts : List Part) (offset : ℕ) (g : Registers) (x : Result Registers FrameError) → p.info.size_of_prolog ≤ offset →
    AreFrames m (p ∷ parts) None g → Steps m (infos (p ∷ parts)) offset g x → CalledBy (p ∷ parts) None g x
caller_after_prolog m p parts offset g x after frames steps =
    let test : leb p.info.size_of_prolog offset ≡ true = grind (arith, nat_tests) in
    caller_by m p parts offset None g x (rw test refl) frames steps

pub caller_in_prolog : (m : ℕ → Option ℕ) (p : Part) (parts : List Part) (offset : ℕ) (g : Registers) (x : Result Registers FrameError) → offset < p.info.size_of_prolog →
    AreFrames m (p ∷ parts) (Some offset) g → Steps m (infos (p ∷ parts)) offset g x → CalledBy (p ∷ parts) (Some offset) g x
caller_in_prolog m p parts offset g x before frames steps =
    let test : leb p.info.size_of_prolog offset ≡ false = grind (arith, nat_tests) in
    caller_by m p parts offset (Some offset) g x (rw test refl) frames steps

pub caller_at : (m : ℕ → Option ℕ) (plan : List UnwindInfoView) (p : Part) (parts : List Part) (offset : ℕ) (g : Registers) (x : Result Registers FrameError) → Steps m plan offset g x →
    plan ≡ infos (p ∷ parts) → AreFrames m (p ∷ parts) (limit_of (infos (p ∷ parts)) offset) g → CalledBy (p ∷ parts) (limit_of (infos (p ∷ parts)) offset) g x
caller_at m plan p parts offset g x steps is frames =
    caller_by m p parts offset (limit_of (infos (p ∷ parts)) offset) g x refl frames (subst (λ (is : List UnwindInfoView). Steps m is offset g x) is steps)
