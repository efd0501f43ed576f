-- What a prolog saved stays where it was stored.
use Rattle.std.proofs.Common.{◌≡◌, ℕ, ◌+◌, ◌-◌, ◌/◌, ◌%◌, ◌^◌, ◌<◌, ◌≤◌, inl, inr, Bool, true, false, List, ◌∷◌, get_or, Option, Some, refl, ap, ◌∙◌, arith, []}
use Rattle.pe_frame.proofs.Cited.{AllByRecursion, UnwindOperation, PushNonVolatile, SaveNonVolatile, SaveXMM128, PushMachineFrame}
use Rattle.pe_frame.proofs.Cited.{FrameRegister, bytes_above, error_size, Machine, machine_stack_pointer, base, loaded, stored, run, slots}
use Rattle.pe_frame.proofs.Cited.{Apart, IsProlog}
use Rattle.pe_frame.proofs.Words.{loaded-stored, loaded-apart}
use Rattle.pe_frame.proofs.Runs.{entered, same, same_xmm, slots_above}

-- each slot has what was saved there
abbrev pub HoldsReturn : (ℕ → ℕ → Type 0) → Bool → Machine → Type 0
HoldsReturn P true s = P (machine_stack_pointer s) (loaded s.memory (machine_stack_pointer s))
HoldsReturn P false s = Unit {0}

abbrev pub Holds : (ℕ → ℕ → Type 0) → Bool → FrameRegister → List UnwindOperation → Machine → Type 0
Holds P c f [] s = HoldsReturn P c s
Holds P c f (PushNonVolatile r ∷ before) s = P (machine_stack_pointer (run f before s) - 8) (get_or s.general r.0 0) × Holds P c f before s
Holds P c f (SaveNonVolatile r o ∷ before) s = P (base (run f before s) + bytes_above o) (get_or s.general r.0 0) × Holds P c f before s
Holds P c f (SaveXMM128 r o ∷ before) s =
    P (base (run f before s) + bytes_above o) (get_or s.xmm (r.0 - 17) 0 % 2 ^ 64)
    × (P (base (run f before s) + bytes_above o + 8) (get_or s.xmm (r.0 - 17) 0 / 2 ^ 64) × Holds P c f before s)
Holds P c f (PushMachineFrame e ∷ before) s =
    P (machine_stack_pointer s + error_size e) (loaded s.memory (machine_stack_pointer s + error_size e))
    × (P (machine_stack_pointer s + error_size e + 24) (loaded s.memory (machine_stack_pointer s + error_size e + 24)) × Holds P c f before s)
Holds P c f (other ∷ before) s = Holds P c f before s

-- a store elsewhere leaves it
holds_stored : (mem : ℕ → ℕ) (x w : ℕ) (c : Bool) (f : FrameRegister) (codes : List UnwindOperation) (s : Machine) → AllByRecursion (Apart x) (slots c f codes s) → Holds (λ a v. loaded mem a ≡ v) c f codes s → Holds (λ a v. loaded (stored mem x w) a ≡ v) c f codes s
holds_stored mem x w true f [] s apart h = loaded-apart mem x w _ apart.0 ∙ h
holds_stored mem x w false f [] s apart h = tt
holds_stored mem x w c f (PushNonVolatile r ∷ before) s apart h = (loaded-apart mem x w _ apart.0 ∙ h.0, holds_stored mem x w c f before s apart.1 h.1)
holds_stored mem x w c f (SaveNonVolatile r o ∷ before) s apart h = (loaded-apart mem x w _ apart.0 ∙ h.0, holds_stored mem x w c f before s apart.1 h.1)
holds_stored mem x w c f (SaveXMM128 r o ∷ before) s apart h = grind (arith, loaded-apart, holds_stored mem x w c f before s)
holds_stored mem x w c f (PushMachineFrame e ∷ before) s apart h = grind (arith, loaded-apart, holds_stored mem x w c f before s)
holds_stored mem x w c f (other ∷ before) s apart h = holds_stored mem x w c f before s apart h

-- what is stored below all slots is apart from them
below_all : (xs : List ℕ) (t : ℕ) → 8 ≤ t → AllByRecursion (λ a. t ≤ a) xs → AllByRecursion (Apart (t - 8)) xs
below_all [] t h all = tt
below_all (x ∷ xs) t h all = (let a : t ≤ x = all.0 in inl (omega arith), below_all xs t h all.1)

stored_value : (mem : ℕ → ℕ) (x w v : ℕ) → w ≡ v → v < 2 ^ 64 → loaded (stored mem x w) x ≡ v
stored_value mem x w v e small = loaded-stored mem x w (omega arith) ∙ e

-- the memory that a prolog leaves has what it saved
pub holds : (c : Bool) (f : FrameRegister) (codes : List UnwindOperation) (s : Machine) → IsProlog c f codes s → Holds (λ a v. loaded (run f codes s).memory a ≡ v) c f codes s
holds true f [] s p = refl
holds false f [] s p = tt
holds c f (PushNonVolatile r ∷ before) s p = (
  stored_value (run f before s).memory (machine_stack_pointer (run f before s) - 8) _ _ (same c f before s r.0 p.1 p.0.0.other p.0.1) ((entered c f before s p.1).values r.0),
  holds_stored (run f before s).memory (machine_stack_pointer (run f before s) - 8) _ c f before s (below_all (slots c f before s) (machine_stack_pointer (run f before s)) p.0.3 (slots_above c f before s p.1)) (holds c f before s p.1),
)
holds c f (SaveNonVolatile r o ∷ before) s p = (
  stored_value (run f before s).memory (base (run f before s) + bytes_above o) _ _ (same c f before s r.0 p.1 p.0.0.other p.0.1) ((entered c f before s p.1).values r.0),
  holds_stored (run f before s).memory (base (run f before s) + bytes_above o) _ c f before s p.0.3 (holds c f before s p.1),
)
holds c f (SaveXMM128 r o ∷ before) s p =
    let t = run f before s in
    let a = base t + bytes_above o in
    let v = get_or s.xmm (r.0 - 17) 0 in
    let w = get_or t.xmm (r.0 - 17) 0 in
    let is : w ≡ v = ap (λ (xs : List ℕ). get_or xs (r.0 - 17) 0) (same_xmm f before s) in
    let small : v < 2 ^ 128 = (entered c f before s p.1).xmm_values (r.0 - 17) in
    let low = stored_value t.memory a (w % 2 ^ 64) (v % 2 ^ 64) (ap (λ (k : ℕ). k % 2 ^ 64) is) (omega arith) in (
      loaded-apart (stored t.memory a (w % 2 ^ 64)) (a + 8) (w / 2 ^ 64) a (inr (omega arith)) ∙ low,
      (
        stored_value (stored t.memory a (w % 2 ^ 64)) (a + 8) (w / 2 ^ 64) (v / 2 ^ 64) (ap (λ (k : ℕ). k / 2 ^ 64) is) (omega arith),
        holds_stored (stored t.memory a (w % 2 ^ 64)) (a + 8) (w / 2 ^ 64) c f before s p.0.3 (holds_stored t.memory a (w % 2 ^ 64) c f before s p.0.2 (holds c f before s p.1)),
      ),
    )
holds true f (PushMachineFrame e ∷ []) s p = (refl, (refl, refl))
holds false f (PushMachineFrame e ∷ []) s p = (refl, (refl, tt))
holds c f (PushMachineFrame e ∷ o ∷ before) s p = absurd p.0.0
holds c f (other ∷ before) s p = holds c f before s p.1

-- the same of a memory that agrees on the slots
pub known : (m : ℕ → Option ℕ) (mem : ℕ → ℕ) (c : Bool) (f : FrameRegister) (codes : List UnwindOperation) (s : Machine) → AllByRecursion (λ a. m a ≡ Some (loaded mem a)) (slots c f codes s) → Holds (λ a v. loaded mem a ≡ v) c f codes s → Holds (λ a v. m a ≡ Some v) c f codes s
known m mem true f [] s all h = all.0 ∙ ap Some h
known m mem false f [] s all h = tt
known m mem c f (PushNonVolatile r ∷ before) s all h = (all.0 ∙ ap Some h.0, known m mem c f before s all.1 h.1)
known m mem c f (SaveNonVolatile r o ∷ before) s all h = (all.0 ∙ ap Some h.0, known m mem c f before s all.1 h.1)
known m mem c f (SaveXMM128 r o ∷ before) s all h = (all.0 ∙ ap Some h.0, (all.1.0 ∙ ap Some h.1.0, known m mem c f before s all.1.1 h.1.1))
known m mem c f (PushMachineFrame e ∷ before) s all h = (all.0 ∙ ap Some h.0, (all.1.0 ∙ ap Some h.1.0, known m mem c f before s all.1.1 h.1.1))
known m mem c f (other ∷ before) s all h = known m mem c f before s all h

-- the return address is among it
pub return_slot : (P : ℕ → ℕ → Type 0) (f : FrameRegister) (codes : List UnwindOperation) (s : Machine) → Holds P true f codes s → P (machine_stack_pointer s) (loaded s.memory (machine_stack_pointer s))
return_slot P f [] s h = h
return_slot P f (PushNonVolatile r ∷ before) s h = return_slot P f before s h.1
return_slot P f (SaveNonVolatile r o ∷ before) s h = return_slot P f before s h.1
return_slot P f (SaveXMM128 r o ∷ before) s h = return_slot P f before s h.1.1
return_slot P f (PushMachineFrame e ∷ before) s h = return_slot P f before s h.1.1
return_slot P f (other ∷ before) s h = return_slot P f before s h
