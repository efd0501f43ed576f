-- What runs of ARM64 prologs keep, and that what they store stays.
use Rattle.std.proofs.Common.{◌≡◌, ◌≢◌, ℕ, ◌+◌, ◌^◌, ◌<◌, ◌≤◌, ◌⊎◌, inl, inr, false, List, ◌∷◌, length, get_or, set, Option, Some, refl, ap, ◌∙◌, arith, []}
use Rattle.pe_frame.proofs.Cited.{AllByRecursion, eqb_tells, get_or-set_same, get_or-set_other, length-set, Arm64Register, loaded, stored}
use Rattle.pe_frame.proofs.Cited.{Apart, Arm64Effect, Lower, Store, SetFramePointer, SignLink, Arm64Machine, held, run_arm64, stored_at}
use Rattle.pe_frame.proofs.Cited.{sets_frame_pointer, IsArm64Entered, IsArm64Prolog}
use Rattle.pe_frame.proofs.Words.{loaded-stored, loaded-apart}

pub entered : (es : List Arm64Effect) (s : Arm64Machine) → IsArm64Prolog es s → IsArm64Entered s
entered [] s p = p
entered (e ∷ before) s p = entered before s p.1

-- the number of registers stays
pub count : (es : List Arm64Effect) (s : Arm64Machine) → IsArm64Prolog es s → length (run_arm64 es s).general ≡ 31
count [] s p = p.count
count (other ∷ before) s p = grind (arith, length-set, count before s)

-- no effect changes a floating-point register
pub same_float : (es : List Arm64Effect) (s : Arm64Machine) → (run_arm64 es s).float ≡ s.float
same_float [] s = refl
same_float (Lower n ∷ before) s = same_float before s
same_float (Store r o ∷ before) s = same_float before s
same_float (SetFramePointer n ∷ before) s = same_float before s
same_float (SignLink ∷ before) s = same_float before s

-- nor an integer register but the link register, and x29 where it is set
pub same : (es : List Arm64Effect) (s : Arm64Machine) (r : ℕ) → r ≢ 30 → (sets_frame_pointer es ≡ false) ⊎ (r ≢ 29) → get_or (run_arm64 es s).general r 0 ≡ get_or s.general r 0
same [] s r link frame = refl
same (SetFramePointer n ∷ before) s r link (inl e) = cc
same (SetFramePointer n ∷ before) s r link (inr other) = get_or-set_other _ 29 r _ 0 other ∙ same before s r link (inr other)
same (SignLink ∷ before) s r link frame = get_or-set_other _ 30 r _ 0 link ∙ same before s r link frame
same (other ∷ before) s r link frame = same before s r link frame

set_small : (g : List ℕ) (i v r : ℕ) → i < length g → v < 2 ^ 64 → get_or g r 0 < 2 ^ 64 → get_or (set g i v) r 0 < 2 ^ 64
set_small g i v r inside small old = grind (arith, eqb_tells, get_or, get_or-set_same, get_or-set_other)

-- each register has 64 bits
pub values : (es : List Arm64Effect) (s : Arm64Machine) (r : ℕ) → IsArm64Prolog es s → get_or (run_arm64 es s).general r 0 < 2 ^ 64
values [] s r p = p.values r
values (Lower n ∷ before) s r p = values before s r p.1
values (Store q o ∷ before) s r p = values before s r p.1
values (other ∷ before) s r p = grind (arith, count, set_small, values before s r)

held_small : (es : List Arm64Effect) (s : Arm64Machine) (r : Arm64Register) → IsArm64Prolog es s → held (run_arm64 es s) r < 2 ^ 64
held_small es s r p = grind (arith, values, get_or, same_float, entered)

-- the stack pointer never rises
pub sinks : (es : List Arm64Effect) (s : Arm64Machine) → IsArm64Prolog es s → (run_arm64 es s).sp ≤ s.sp
sinks [] s p = omega arith
sinks (other ∷ before) s p = grind (arith, sinks before s)

-- each address that was stored to has what was stored there
abbrev pub Holds : (ℕ → ℕ → Type 0) → List Arm64Effect → Arm64Machine → Type 0
Holds P [] s = Unit {0}
Holds P (Store r o ∷ before) s = P ((run_arm64 before s).sp + o) (held (run_arm64 before s) r) × Holds P before s
Holds P (other ∷ before) s = Holds P before s

-- a store elsewhere leaves it
holds_stored : (mem : ℕ → ℕ) (x w : ℕ) (es : List Arm64Effect) (s : Arm64Machine) → AllByRecursion (Apart x) (stored_at es s) → Holds (λ a v. loaded mem a ≡ v) es s → Holds (λ a v. loaded (stored mem x w) a ≡ v) es s
holds_stored mem x w [] s apart h = tt
holds_stored mem x w (Store r o ∷ before) s apart h = (loaded-apart mem x w _ apart.0 ∙ h.0, holds_stored mem x w before s apart.1 h.1)
holds_stored mem x w (other ∷ before) s apart h = holds_stored mem x w before s apart h

-- the memory that a prolog leaves has what it stored
pub holds : (es : List Arm64Effect) (s : Arm64Machine) → IsArm64Prolog es s → Holds (λ a v. loaded (run_arm64 es s).memory a ≡ v) es s
holds [] s p = tt
holds (Store r o ∷ before) s p = (
  loaded-stored (run_arm64 before s).memory ((run_arm64 before s).sp + o) (held (run_arm64 before s) r) (held_small before s r p.1),
  holds_stored (run_arm64 before s).memory ((run_arm64 before s).sp + o) (held (run_arm64 before s) r) before s p.0.3 (holds before s p.1),
)
holds (other ∷ before) s p = holds before s p.1

-- the same of a memory that agrees there
pub known : (m : ℕ → Option ℕ) (mem : ℕ → ℕ) (es : List Arm64Effect) (s : Arm64Machine) → AllByRecursion (λ a. m a ≡ Some (loaded mem a)) (stored_at es s) → Holds (λ a v. loaded mem a ≡ v) es s → Holds (λ a v. m a ≡ Some v) es s
known m mem [] s all h = tt
known m mem (Store r o ∷ before) s all h = (all.0 ∙ ap Some h.0, known m mem before s all.1 h.1)
known m mem (other ∷ before) s all h = known m mem before s all h
