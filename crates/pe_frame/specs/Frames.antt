-- Frames as a running program leaves them: a function's prolog ran, its body came to parts with prologs of their own, and
-- the innermost of these stopped in its prolog or in its body.
use Rattle.std.specs.Prelude.{◌≡◌, ◌≢◌, ℕ, ◌+◌, ◌^◌, ◌<◌, ◌≤◌, ◌⊎◌, if◌then◌else◌, Bool, true, false, IsSome, List, [], ◌∷◌, map, slice_index, Option, Some, None, Ok}
use Rattle.std.specs.List.{AllByRecursion}
use Rattle.pe_unwind.specs.declared.unwind_code.UnwindCode.{UnwindCode}
use Rattle.pe_unwind.specs.declared.unwind_code.UnwindOperation.{UnwindOperation}
use Rattle.pe_unwind.specs.declared.unwind_code.UnwindOperation.TheVariants.{Epilog, PushMachineFrame}
use Rattle.pe_unwind.specs.CodeStream.{AreItems}
use Rattle.pe_unwind.specs.UnwindRecord.{UnwindInfoView, code_stream}
use Rattle.pe_frame.specs.declared.registers.Registers.{Registers}
use Rattle.pe_frame.specs.Undoing.{stack_pointer, error_size, any_sets_frame_register, is_interrupted, ran}
use Rattle.pe_frame.specs.Steps.{frame_register_in}
use Rattle.pe_frame.specs.Machine.{Machine, machine_stack_pointer, loaded, run, IsProlog, IsBody, saves, saves_xmm, chosen}
use Rattle.pe_frame.specs.declared.registers.TheConstants.{RSP}

-- a record, the codes that it has, and the machine where the code that it describes was entered
pub record Part : Type 0 where
  pub info : UnwindInfoView
  pub codes : List UnwindCode
  pub entry : Machine

abbrev pub infos : List Part → List UnwindInfoView
infos parts = map (λ p. p.info) parts

-- the machine once so much of the prolog has run
abbrev pub left : Option ℕ → Part → Machine
left limit p = run (frame_register_in p.info) (ran limit p.codes) p.entry

-- The record has these codes, and they are a prolog of the machine. A record that names a frame register sets it.
pub record IsRecord (called : Bool) (p : Part) : Type 0 where
  pub items : AreItems (code_stream p.info) (map Ok p.codes)
  pub prolog : IsProlog called (frame_register_in p.info) (ran None p.codes) p.entry
  pub frame : ((p.info.frame_register).0 ≡ 0) ⊎ (any_sets_frame_register (ran None p.codes) ≡ true)

-- the codes of the prolog: in version 2 others before them say where epilogs are, and their offsets are none of the prolog
abbrev pub is_of_epilog : UnwindOperation → Bool
is_of_epilog (Epilog a b) = true
is_of_epilog other = false

abbrev pub prolog_codes : List UnwindCode → List UnwindCode
prolog_codes [] = []
prolog_codes (c ∷ cs) = if is_of_epilog c.operation then prolog_codes cs else c ∷ prolog_codes cs

-- no offset is above this one, nor above that of a code before it
abbrev pub FallsFrom : ℕ → List UnwindCode → Type 0
FallsFrom last [] = Unit {0}
FallsFrom last (c ∷ cs) = (c.code_offset ≤ last) × FallsFrom c.code_offset cs

-- inside the prolog its codes stand in order, the last one first: so what has run is the first part of the prolog
abbrev pub IsInOrder : Option ℕ → List UnwindCode → Type 0
IsInOrder None codes = Unit {0}
IsInOrder (Some offset) codes = (last : ℕ) × FallsFrom last (prolog_codes codes)

-- the machine stopped in the body, or in the prolog once so much of it has run
pub record StopsIn (called : Bool) (limit : Option ℕ) (p : Part) (m : ℕ → Option ℕ) (g : Registers) : Type 0 where
  pub order : IsInOrder limit p.codes
  pub body : IsBody called (frame_register_in p.info) (ran limit p.codes) p.entry m g

-- a register is saved by the part, or is as it was where the part was entered
abbrev pub SavesOrKeeps : Option ℕ → Part → Registers → ℕ → Type 0
SavesOrKeeps limit p g r =
    (saves (ran limit p.codes) r ≡ true) ⊎ (slice_index g.general r ≡ slice_index p.entry.general r)

-- a machine's registers; its instruction pointer plays no part
abbrev pub registers_of : Machine → Registers
registers_of s = record { general = s.general; xmm = s.xmm; rip = 0 }

-- Parts of a function from the innermost to the function itself, and the registers in the innermost. The body of each
-- part that is not the first came to the entry of the one before it, and a part saves a frame register or keeps it. The
-- known memory m has what each of them stored. The function was called, or an interrupt entered it.
abbrev pub AreFrames : (ℕ → Option ℕ) → List Part → Option ℕ → Registers → Type 0
AreFrames m [] limit g = ⊥
AreFrames m (p ∷ []) limit g = IsRecord true p × (machine_stack_pointer p.entry + 8 < 2 ^ 64) × StopsIn true limit p m g
AreFrames m (p ∷ q ∷ parts) limit g =
    IsRecord false p × (is_interrupted (ran limit p.codes) ≡ false) × StopsIn false limit p m g
    × AllByRecursion (λ o. IsSome (left None o).frame_base → SavesOrKeeps limit p g (o.info.frame_register).0) (q ∷ parts)
    × AreFrames m (q ∷ parts) None (registers_of p.entry)

-- what a register has once all parts are undone: the value at the entry of the outermost part that saved it; else what it has
abbrev pub restored : List Part → Option ℕ → ℕ → ℕ → ℕ
restored [] limit r value = value
restored (p ∷ parts) limit r value =
    restored parts None r (chosen (saves (ran limit p.codes) r) (slice_index p.entry.general r) value)

abbrev pub restored_xmm : List Part → Option ℕ → ℕ → ℕ → ℕ
restored_xmm [] limit r value = value
restored_xmm (p ∷ parts) limit r value =
    restored_xmm parts None r (chosen (saves_xmm (ran limit p.codes) r) (slice_index p.entry.xmm r) value)

-- the stack pointer is above the return address, and the instruction pointer at it; or both are as a machine frame has them
abbrev pub IsAfter : List UnwindOperation → Machine → Registers → Type 0
IsAfter [] s u = (stack_pointer u ≡ machine_stack_pointer s + 8) × (u.rip ≡ loaded s.memory (machine_stack_pointer s))
IsAfter (PushMachineFrame e ∷ before) s u =
    (stack_pointer u ≡ loaded s.memory (machine_stack_pointer s + error_size e + 24)) × (u.rip ≡ loaded s.memory (machine_stack_pointer s + error_size e))
IsAfter (other ∷ before) s u = IsAfter before s u

-- the function itself was left for its caller, or for what the interrupt stopped
abbrev pub Leaves : List Part → Option ℕ → Registers → Type 0
Leaves [] limit u = ⊥
Leaves (p ∷ []) limit u = IsAfter (ran limit p.codes) p.entry u
Leaves (p ∷ q ∷ parts) limit u = Leaves (q ∷ parts) None u

-- the registers of the caller
pub record IsCaller (parts : List Part) (limit : Option ℕ) (g u : Registers) : Type 0 where
  pub leaves : Leaves parts limit u
  pub registers : (r : ℕ) → r ≢ RSP → slice_index u.general r ≡ restored parts limit r (slice_index g.general r)
  pub xmm_registers : (r : ℕ) → slice_index u.xmm r ≡ restored_xmm parts limit r (slice_index g.xmm r)
