use Rattle.std.proofs.Common.{◌/◌, ◌-◌, Result, subst, sym}
use Rattle.pe_frame.proofs.Cited.{info_view, StepsArm64, Arm64Registers, FrameError}
use Rattle.pe_frame.proofs.Arm64Frames.{arm64_caller}
use Rattle.pe_frame.proofs.Arm64Streams.{registers_of_arm64_step}
use Rattle.pe_frame.proofs.arm64.step.step_arm64.Goals as goal

pub returns-clause-undoes : goal.returns-clause-undoes
returns-clause-undoes g c p stand left frame =
    let m = g.M.Memory.word c.args.memory.now in
    let i = info_view c.args.info.now in
    let place = (c.args.rva - c.args.function.now.begin_address) / 4 in
    arm64_caller m i p place stand c.args.registers c.registers_alone.result left frame
    (subst (λ (x : Result Arm64Registers FrameError). StepsArm64 m i place c.args.registers x) (sym c.registers_alone.ensures)
    (registers_of_arm64_step m i place c.args.registers c.step_out_arm64.result c.step_out_arm64.ensures))
