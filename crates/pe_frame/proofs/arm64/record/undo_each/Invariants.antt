use Rattle.std.proofs.Common.{◌≡◌, drop}
use Rattle.pe_frame.specs.Arm64Undoing.{undone_codes}
use Rattle.pe_frame.proofs.arm64.record.undo_each.Given as goal

-- undoing those that are left is undoing all
abbrev pub invariant-loop-code : goal.invariant-loop-code
invariant-loop-code g l =
    undone_codes (g.M.Memory.word l.memory) (drop l.code-index l.codes) l.current
    ≡ undone_codes (g.M.Memory.word l.memory) l.codes l.fn.registers
