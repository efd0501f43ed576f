use Rattle.std.proofs.Common.{ℕ, ◌∷◌, Ok, refl, ap, ◌∙◌, arith, rules, []}
use Rattle.pe_frame.proofs.Cited.{Allocate, Save, SetFrame, Lower, Store, reverted, changed}
use Rattle.pe_frame.proofs.Arm64Effects.{first_reverted, effects_are}
use Rattle.pe_frame.proofs.arm64.undo.undo_operation.Goals as goal

pub returns-in-Allocate : goal.returns-in-Allocate
returns-in-Allocate g c =
    let m = g.M.Memory.word c.args.memory.now in
    effects_are m c.args.operation (Allocate c.in-Allocate.size) c.args.registers.now (changed c.raise.result c.raise.new.registers) c.in-Allocate.is (c.raise.ensures m)

pub returns-in_ok-load-in-Save : goal.returns-in_ok-load-in-Save
returns-in_ok-load-in-Save g c =
    let m = g.M.Memory.word c.args.memory.now in
    let loaded = c.load.new.registers in
    let raised = changed c.raise-in-Save.result c.raise-in-Save.new.registers in
    let loads = c.in_ok-load-in-Save.ensures ∙ ap (λ (o : ℕ). reverted m (Store c.in-Save.register o) c.args.registers.now) c.from.ensures in
    effects_are m c.args.operation (Save c.in-Save.register c.in-Save.offset c.in-Save.moved) c.args.registers.now raised c.in-Save.is
    (first_reverted m (Store c.in-Save.register c.in-Save.offset) (Lower c.in-Save.moved ∷ []) c.args.registers.now loaded (Ok loaded) raised loads refl (c.raise-in-Save.ensures m))

pub returns-in-SetFrame : goal.returns-in-SetFrame
returns-in-SetFrame g c =
    let m = g.M.Memory.word c.args.memory.now in
    effects_are m c.args.operation (SetFrame c.in-SetFrame.offset) c.args.registers.now (changed c.lower_to_frame.result c.lower_to_frame.new.registers) c.in-SetFrame.is (c.lower_to_frame.ensures m)

pub returns-in-SaveEach : goal.returns-in-SaveEach
returns-in-SaveEach g c = search (rules, arith, effects_are)
