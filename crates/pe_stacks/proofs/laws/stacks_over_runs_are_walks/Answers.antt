use Rattle.std.proofs.Common.{ℕ, Option, subst}
use Rattle.pe_frame.specs.Arm64Walks as arm64
use Rattle.pe_frame.specs.FrameWalks.{IsWalk, starting_walk}
use Rattle.pe_frame.specs.Walks.{Calls}
use Rattle.pe_stacks.proofs.FullMemory.{runs_word}
use Rattle.pe_stacks.proofs.laws.stacks_over_runs_are_walks.Goals as goal

pub returns : goal.returns
returns c = record {
  memory = runs_word;
  x64 = λ file pieces runs ms top most frames end m w.
      subst (λ (f : ℕ → Option ℕ). IsWalk Calls (starting_walk (record { memory = f; modules = ms }) top most) frames end) (runs_word file pieces runs m) w;
  arm64 = λ file pieces runs ms top most frames end m w.
      subst (λ (f : ℕ → Option ℕ). IsWalk arm64.Calls (starting_walk (record { memory = f; modules = ms }) top most) frames end) (runs_word file pieces runs m) w;
}
