-- The epilog of a prolog that pushes registers, and may set a frame register in between, before it allocates stack and saves
-- registers. A register that is pushed after an allocation has no epilog: that would pop before it frees stack.
use Rattle.std.specs.Prelude.{◌≡◌, ℕ, ◌+◌, ◌-◌, ◌⊎◌, IsSome, List, [], ◌∷◌, slice_index, None, ◌++◌, Option, Some, Ok}
use Rattle.pe_unwind.specs.declared.unwind_code.UnwindOperation.{UnwindOperation}
use Rattle.pe_unwind.specs.declared.unwind_code.UnwindOperation.TheVariants.{PushNonVolatile, Alloc, SetFPRegister, SaveNonVolatile, Epilog, SaveXMM128, Noop}
use Rattle.pe_frame.specs.declared.epilog.Instruction.{Instruction}
use Rattle.pe_frame.specs.declared.epilog.Instruction.TheVariants.{Add, Lea, Pop, Return, Jump, JumpByOperand}
use Rattle.pe_frame.specs.declared.registers.Registers.{Registers}
use Rattle.pe_frame.specs.Undoing.{FrameRegister, stack_pointer, ran}
use Rattle.pe_frame.specs.Steps.{frame_register_in}
use Rattle.pe_frame.specs.Frames.{AreFrames, Part, infos}
use Rattle.pe_frame.specs.Machine.{Machine, machine_stack_pointer, run}
use Rattle.pe_frame.specs.Epilogs.{epilog_at, executed_all, moved}

-- an instruction leaves the function and drops nothing of the caller's
abbrev pub Exits : Instruction → Type 0
Exits (Return n) = n ≡ 0
Exits (Jump a) = Unit {0}
Exits JumpByOperand = Unit {0}
Exits other = ⊥

-- Pops undo these pushes, and an instruction leaves the function after them. A frame register that was set between two pushes
-- needs no instruction: there the stack pointer is where it was then.
abbrev pub Pops : List UnwindOperation → List Instruction → Type 0
Pops [] is = (i : Instruction) × Exits i × (is ≡ i ∷ [])
Pops (PushNonVolatile r ∷ before) is = (rest : List Instruction) × (is ≡ Pop r.0 ∷ rest) × Pops before rest
Pops (SetFPRegister ∷ before) is = Pops before is
Pops (other ∷ before) is = ⊥

-- What an epilog undoes. Registers that were saved by stores are restored before it.
abbrev pub moves : List UnwindOperation → List UnwindOperation
moves [] = []
moves (SaveNonVolatile r o ∷ before) = moves before
moves (SaveXMM128 r o ∷ before) = moves before
moves (Epilog a b ∷ before) = moves before
moves (Noop ∷ before) = moves before
moves (o ∷ before) = o ∷ moves before

-- the stack that was allocated after the last push, and what was done up to that push
abbrev pub allocated : List UnwindOperation → ℕ
allocated (Alloc n ∷ before) = allocated before + n
allocated (SetFPRegister ∷ before) = allocated before
allocated codes = 0

abbrev pub pushes : List UnwindOperation → List UnwindOperation
pushes (Alloc n ∷ before) = pushes before
pushes (SetFPRegister ∷ before) = pushes before
pushes codes = codes

-- `lea` leads back from where the frame register was set, over so many bytes of registers that were pushed since
abbrev pub LeadsBack : FrameRegister → ℕ → ℕ → List UnwindOperation → Type 0
LeadsBack f d size (PushNonVolatile r ∷ before) = LeadsBack f d (size + 8) before
LeadsBack f d size (SetFPRegister ∷ before) = moved f.offset (d + size) ≡ 0
LeadsBack f d size codes = ⊥

-- `lea` leads from the frame register to the last push: past what was allocated before the frame register was set, or back
-- over the registers that were pushed after that
abbrev pub Leads : FrameRegister → ℕ → List UnwindOperation → Type 0
Leads f d (Alloc n ∷ before) = Leads f d before
Leads f d (SetFPRegister ∷ before) = moved f.offset d ≡ allocated before
Leads f d (PushNonVolatile r ∷ before) = LeadsBack f d 8 before
Leads f d codes = ⊥

-- an instruction frees what was allocated: `add` all of it, from where the prolog left the stack pointer
abbrev pub Frees : FrameRegister → List UnwindOperation → Instruction → Type 0
Frees f codes (Add n) = n ≡ allocated codes
Frees f codes (Lea r d) = (r ≡ f.register) × Leads f d codes
Frees f codes other = ⊥

-- an instruction frees the stack, if any was allocated, and pops undo the pushes
abbrev pub FreesAndPops : FrameRegister → List UnwindOperation → List Instruction → Type 0
FreesAndPops f codes is =
    ((allocated codes ≡ 0) × Pops (pushes codes) is)
    ⊎ ((i : Instruction) × (rest : List Instruction) × (is ≡ i ∷ rest) × Frees f codes i × Pops (pushes codes) rest)

-- the whole epilog of a prolog
abbrev pub IsEpilogOf : FrameRegister → List UnwindOperation → List Instruction → Type 0
IsEpilogOf f codes is = FreesAndPops f (moves codes) is

-- each register that a store saved has its value from the entry again
abbrev pub AreRestored : List UnwindOperation → Machine → Registers → Type 0
AreRestored [] s g = Unit {0}
AreRestored (SaveNonVolatile r o ∷ before) s g =
    (slice_index g.general r.0 ≡ slice_index s.general r.0) × AreRestored before s g
AreRestored (SaveXMM128 r o ∷ before) s g =
    (slice_index g.xmm (r.0 - 17) ≡ slice_index s.xmm (r.0 - 17)) × AreRestored before s g
AreRestored (other ∷ before) s g = AreRestored before s g

-- the stack pointer is where the prolog left it, if a frame register let the body move it; `lea` needs no such place
abbrev pub IsBack : List Instruction → Machine → Registers → Type 0
IsBack (Lea r d ∷ is) left g = Unit {0}
IsBack is left g = IsSome left.frame_base → stack_pointer g ≡ machine_stack_pointer left

-- the body is done, and an epilog of these instructions may begin
pub record IsReady (f : FrameRegister) (codes : List UnwindOperation) (s : Machine) (is : List Instruction) (g : Registers) : Type 0 where
  pub restored : AreRestored codes s g
  pub back : IsBack is (run f codes s) g

-- The epilog of a function in one of its parts: each part that is not the function itself only saved registers, and so leaves
-- nothing to undo.
abbrev pub IsEpilogOfParts : List Part → List Instruction → Type 0
IsEpilogOfParts [] is = ⊥
IsEpilogOfParts (p ∷ []) is = IsEpilogOf (frame_register_in p.info) (ran None p.codes) is
IsEpilogOfParts (p ∷ q ∷ parts) is = (moves (ran None p.codes) ≡ []) × IsEpilogOfParts (q ∷ parts) is

-- the bodies are done
abbrev pub AreReady : List Part → List Instruction → Registers → Type 0
AreReady [] is g = ⊥
AreReady (p ∷ []) is g = IsReady (frame_register_in p.info) (ran None p.codes) p.entry is g
AreReady (p ∷ q ∷ parts) is g = AreRestored (ran None p.codes) p.entry g × AreReady (q ∷ parts) is g

-- A function is in an epilog. Its prolog and those of its parts ran, and its body is done with these registers g. The first
-- instructions of the epilog ran as well, up to an RVA with registers h; the code from there on has the others.
pub record IsInEpilog (m : ℕ → Option ℕ) (parts : List Part) (before rest : List Instruction) (start rva : ℕ) (code : List ℕ) (g h : Registers) : Type 0 where
  pub frames : AreFrames m parts None g
  pub epilog : IsEpilogOfParts parts (before ++ rest)
  pub ready : AreReady parts (before ++ rest) g
  pub ran : executed_all m before g ≡ Ok h
  pub left : epilog_at (infos parts) start rva code ≡ Some rest
