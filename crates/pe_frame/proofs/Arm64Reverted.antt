-- Reverting the effects of an ARM64 prolog gives what was before it.
use Rattle.std.proofs.Common.{◌≡◌, ◌≢◌, ℕ, ◌+◌, ◌-◌, ◌^◌, ◌<◌, ◌≤◌, ◌⊎◌, Bool, true, false, eqb, ◌||◌, List, ◌∷◌, length, get_or, set, Option, Some, Ok, refl, ap, ◌∙◌, subst, arith, []}
use Rattle.pe_frame.proofs.Cited.{nat_tests, eqb_tells, get_or-set_same, get_or-set_other, length-set, Arm64Register, X, D, Arm64Registers}
use Rattle.pe_frame.proofs.Cited.{chosen, Arm64Effect, Lower, Store, SetFramePointer, SignLink, is_register, frame_pointer, link_register}
use Rattle.pe_frame.proofs.Cited.{put_saved, put_sp, stripped, reverted, reverted_all, Arm64Machine, caused, run_arm64, sets_frame_pointer}
use Rattle.pe_frame.proofs.Cited.{KeepsFramePointer, KeepsStackPointerArm64, stores, stores_float, IsArm64Prolog}
use Rattle.pe_frame.proofs.Undone.{above_ok, number_ok, restored_by}
use Rattle.pe_frame.proofs.Arm64Runs.{Holds, entered, count, same, same_float, sinks}

-- the link register was stored, or is as the prolog left it
abbrev pub Link : List Arm64Effect → Arm64Machine → Arm64Registers → Type 0
Link es s g = (stores es 30 ≡ true) ⊎ (link_register g ≡ get_or (run_arm64 es s).general 30 0)

pub record Reverts (m : ℕ → Option ℕ) (es : List Arm64Effect) (s : Arm64Machine) (g : Arm64Registers) : Type 0 where
  pub entry : Arm64Registers
  pub is : reverted_all m es g ≡ Ok entry
  pub stack : entry.sp ≡ s.sp
  pub link : link_register entry ≡ get_or s.general 30 0
  pub registers : (r : ℕ) → r ≢ 30 → get_or entry.general r 0 ≡ chosen (stores es r) (get_or s.general r 0) (get_or g.general r 0)
  pub floats : (r : ℕ) → get_or entry.float r 0 ≡ chosen (stores_float es r) (get_or s.float r 0) (get_or g.float r 0)

-- one more effect reverted
reverts_next : (m : ℕ → Option ℕ) (e : Arm64Effect) (before : List Arm64Effect) (s : Arm64Machine) (g next : Arm64Registers) → reverted m e g ≡ Ok next → Reverts m before s next →
    ((r : ℕ) → r ≢ 30 → chosen (stores before r) (get_or s.general r 0) (get_or next.general r 0) ≡ chosen (stores (e ∷ before) r) (get_or s.general r 0) (get_or g.general r 0)) →
    ((r : ℕ) → chosen (stores_float before r) (get_or s.float r 0) (get_or next.float r 0) ≡ chosen (stores_float (e ∷ before) r) (get_or s.float r 0) (get_or g.float r 0)) → Reverts m (e ∷ before) s g
reverts_next m e before s g next step rest general float = grind arith

pub lowered_ok : (m : ℕ → Option ℕ) (n : ℕ) (g : Arm64Registers) → g.sp + n < 2 ^ 64 → reverted m (Lower n) g ≡ Ok (put_sp g (g.sp + n))
lowered_ok m n g room = rw (above_ok g.sp n room) refl

pub stored_ok : (m : ℕ → Option ℕ) (r : Arm64Register) (o v : ℕ) (g : Arm64Registers) → g.sp + o < 2 ^ 64 → m (g.sp + o) ≡ Some v → reverted m (Store r o) g ≡ Ok (put_saved g r v)
stored_ok m r o v g room word = rw (above_ok g.sp o room) (rw (number_ok m (g.sp + o) v word) refl)

pub framed_ok : (m : ℕ → Option ℕ) (n t : ℕ) (g : Arm64Registers) → frame_pointer g ≡ t + n → reverted m (SetFramePointer n) g ≡ Ok (put_sp g t)
framed_ok m n t g is = grind (arith, nat_tests)

-- the stack pointer is not above where the prolog left it, and there where the last effect is a store
pub keeps_le : (b : Bool) (es : List Arm64Effect) (t : Arm64Machine) (g : Arm64Registers) → KeepsStackPointerArm64 b es t g → g.sp ≤ t.sp
keeps_le b es t g k = grind arith

pub keeps_at_store : (b : Bool) (r : Arm64Register) (o : ℕ) (before : List Arm64Effect) (t : Arm64Machine) (g : Arm64Registers) → KeepsStackPointerArm64 b (Store r o ∷ before) t g → g.sp ≡ t.sp
keeps_at_store b r o before t g k = grind arith

pub keeps_exact : (b : Bool) (es : List Arm64Effect) (t : Arm64Machine) (g : Arm64Registers) → b ≡ false → g.sp ≡ t.sp → KeepsStackPointerArm64 b es t g
keeps_exact b es t g e at = grind arith

pub keeps_lowered : (b : Bool) (n : ℕ) (before : List Arm64Effect) (t : Arm64Machine) (g : Arm64Registers) → n ≤ t.sp → KeepsStackPointerArm64 b (Lower n ∷ before) (caused (Lower n) t) g → KeepsStackPointerArm64 b before t (put_sp g (g.sp + n))
keeps_lowered b n before t g small k = grind arith

pub keeps_stored : (b : Bool) (r : Arm64Register) (o v : ℕ) (before : List Arm64Effect) (t : Arm64Machine) (g : Arm64Registers) → KeepsFramePointer b r → KeepsStackPointerArm64 b (Store r o ∷ before) (caused (Store r o) t) g → KeepsStackPointerArm64 b before t (put_saved g r v)
keeps_stored b r o v before t g other k = grind (arith, get_or-set_other)

pub keeps_signed : (b : Bool) (v : ℕ) (before : List Arm64Effect) (t : Arm64Machine) (g : Arm64Registers) → KeepsStackPointerArm64 b (SignLink ∷ before) (caused SignLink t) g → KeepsStackPointerArm64 b before t (put_saved g (X 30) v)
keeps_signed b v before t g k = grind (arith, get_or-set_other)

-- the link register before a store of an integer register
link_stored : (q o v : ℕ) (before : List Arm64Effect) (s : Arm64Machine) (g : Arm64Registers) → length g.general ≡ 31 → v ≡ get_or (run_arm64 before s).general q 0 → Link (Store (X q) o ∷ before) s g → Link before s (put_saved g (X q) v)
link_stored q o v before s g len is link = grind (arith, eqb_tells, get_or-set_same, get_or, get_or-set_other)

link_signed : (v : ℕ) (before : List Arm64Effect) (s : Arm64Machine) (g : Arm64Registers) → length g.general ≡ 31 → IsArm64Prolog before s → stripped v ≡ get_or (run_arm64 before s).general 30 0 →
    (stores before 30 ≡ true) ⊎ (link_register g ≡ v) → Link before s (put_saved g (X 30) (stripped (link_register g)))
link_signed v before s g len p is h7 = grind (arith, get_or-set_same)

-- a register that was read has its old value
read_back : (g old : List ℕ) (q v r : ℕ) (b : Bool) → q < length g → (q ≡ r → v ≡ get_or old r 0) →
    chosen b (get_or old r 0) (get_or (set g q v) r 0) ≡ chosen (eqb q r || b) (get_or old r 0) (get_or g r 0)
read_back g old q v r b small is = grind (arith, restored_by, get_or, nat_tests, get_or-set_same, get_or-set_other)

x_small : (q : ℕ) → is_register (X q) ≡ true → q < 31
x_small q e = grind (arith, nat_tests)

d_small : (q : ℕ) → is_register (D q) ≡ true → q < 8
d_small q e = grind (arith, nat_tests)

not_x : (b : Bool) (q : ℕ) → KeepsFramePointer b (X q) → (b ≡ false) ⊎ (q ≢ 29)
not_x b q other = grind arith

pub reverts : (m : ℕ → Option ℕ) (es : List Arm64Effect) (s : Arm64Machine) (g : Arm64Registers) → IsArm64Prolog es s → Holds (λ a v. m a ≡ Some v) es s → length g.general ≡ 31 → length g.float ≡ 8
    → KeepsStackPointerArm64 (sets_frame_pointer es) es (run_arm64 es s) g → Link es s g → Reverts m es s g
reverts m [] s g p h len flen k link = grind arith
reverts m (Lower n ∷ before) s g p h len flen k link = grind (arith, keeps_le, sinks, entered, lowered_ok, keeps_lowered, reverts_next, reverts m before s (put_sp g (g.sp + n)) p.1 h len flen (keeps_lowered (sets_frame_pointer before) n before (run_arm64 before s) g p.0 k) link)
reverts m (Store (X q) o ∷ before) s g p h len flen k link =
    let t = run_arm64 before s in
    let at : g.sp ≡ t.sp = keeps_at_store (sets_frame_pointer before) (X q) o before (caused (Store (X q) o) t) g k in
    let v = get_or t.general q 0 in
    let next = put_saved g (X q) v in
    let word : m (g.sp + o) ≡ Some v = ap (λ (a : ℕ). m (a + o)) at ∙ h.0 in
    let inside : q < length g.general = omega (arith, len, x_small q p.0.0) in
    let rest = reverts m before s next p.1 h.1 (length-set g.general q v ∙ len) flen (keeps_stored (sets_frame_pointer before) (X q) o v before t g p.0.1 k) (link_stored q o v before s g len refl link) in
    reverts_next m (Store (X q) o) before s g next (stored_ok m (X q) o v g (omega (arith, at, p.0.2)) word) rest
    (λ r other. read_back g.general s.general q v r (stores before r) inside (λ e. ap (λ (i : ℕ). get_or t.general i 0) e ∙ same before s r other (not_x (sets_frame_pointer before) r (subst (λ (i : ℕ). KeepsFramePointer (sets_frame_pointer before) (X i)) e p.0.1))))
    (λ r. refl)
reverts m (Store (D q) o ∷ before) s g p h len flen k link =
    let t = run_arm64 before s in
    let at : g.sp ≡ t.sp = keeps_at_store (sets_frame_pointer before) (D q) o before (caused (Store (D q) o) t) g k in
    let v = get_or t.float q 0 in
    let next = put_saved g (D q) v in
    let step = stored_ok m (D q) o v g (omega (arith, at, p.0.2)) (ap (λ (a : ℕ). m (a + o)) at ∙ h.0) in
    let inside : q < length g.float = omega (arith, flen, d_small q p.0.0) in
    let rest = reverts m before s next p.1 h.1 len (length-set g.float q v ∙ flen) (keeps_stored (sets_frame_pointer before) (D q) o v before t g p.0.1 k) link in
    reverts_next m (Store (D q) o) before s g next step rest (λ r other. refl) (λ r. read_back g.float s.float q v r (stores_float before r) inside (λ e. ap (λ (i : ℕ). get_or t.float i 0) e ∙ ap (λ (xs : List ℕ). get_or xs r 0) (same_float before s)))
reverts m (SetFramePointer n ∷ before) s g p h len flen k link = grind (arith, count, get_or-set_same, framed_ok, get_or-set_other, keeps_exact, reverts_next, reverts m before s (put_sp g (run_arm64 before s).sp) p.1 h len flen)
reverts m (SignLink ∷ before) s g p h len flen k link = grind (arith, count, get_or, get_or-set_same, length-set, keeps_signed, link_signed, reverts_next, get_or-set_other, reverts m before s (put_saved g (X 30) (stripped (link_register g))))
