-- Where the walk of a thread is.
use Rattle.std.specs.Prelude.{ℕ, List, Option}
use Rattle.pe_frame.specs.FrameWalks.{FrameWalk, Process, state_of}
use Rattle.pe_frame.specs.declared.modules.Module.{Module}
use Rattle.pe_stacks.specs.declared.stacks.ThreadFrames.{ThreadFrames}

-- what is known of a process, by what the types of its modules and its memory know
abbrev pub process_of : {L M : Type 0} → (L → List Module) → (M → ℕ → Option ℕ) → L → M → Process
process_of list word modules memory = record { memory = word memory; modules = list modules }

-- where a walk is
abbrev pub walk_at : {F L M : Type 0} → (L → List Module) → (M → ℕ → Option ℕ) → ThreadFrames F L M → FrameWalk Process F
walk_at list word s = state_of (process_of list word s.modules.now s.memory.now) s.position
