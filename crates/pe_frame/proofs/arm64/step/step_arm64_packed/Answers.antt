use Rattle.std.proofs.Common.{◌≡◌, ℕ, ◌/◌, subst}
use Rattle.pe_frame.specs.Arm64Packed.{stepped_arm64_packed}
use Rattle.pe_frame.proofs.Arm64Frames.{packed_caller}
use Rattle.pe_frame.proofs.arm64.step.step_arm64_packed.Goals as goal

pub returns-clause-undoes : goal.returns-clause-undoes
returns-clause-undoes g c p stand left canonical frame =
    packed_caller (g.M.Memory.word c.args.memory.now) (c.args.function.now).unwind_data p _ stand c.args.registers c.packed_caller.result left canonical frame
    (subst (λ (n : ℕ). c.packed_caller.result ≡ stepped_arm64_packed (g.M.Memory.word c.args.memory.now) (c.args.function.now).unwind_data (n / 4) c.args.registers) c.saturating_sub-offset.ensures c.packed_caller.ensures)
