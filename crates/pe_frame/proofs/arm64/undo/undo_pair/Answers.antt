use Rattle.std.proofs.Common.{◌+◌, ◌∷◌, Ok, refl, []}
use Rattle.pe_frame.proofs.Cited.{Lower, Store, changed}
use Rattle.pe_frame.proofs.Arm64Effects.{first_reverted}
use Rattle.pe_frame.proofs.arm64.undo.undo_pair.Goals as goal

pub returns : goal.returns
returns g c =
    let m = g.M.Memory.word c.args.memory.now in
    let one = c.load.new.registers in
    let both = c.load-2.new.registers in
    let moved = changed c.raise.result c.raise.new.registers in
    first_reverted m (Store c.args.pair.0 c.args.offset) (Store c.args.pair.1 (c.args.offset + 8) ∷ Lower c.args.moved ∷ []) c.args.registers.now one (Ok one) moved c.in_ok-load.ensures refl
    (first_reverted m (Store c.args.pair.1 (c.args.offset + 8)) (Lower c.args.moved ∷ []) one both (Ok both) moved c.in_ok-load-2.ensures refl (c.raise.ensures m))
