use Rattle.std.proofs.Common.{◌≡◌, ◌∷◌, []}
use Rattle.pe_frame.proofs.Cited.{undone_codes, with_nexts}
use Rattle.pe_frame.proofs.arm64.record.undo_code.Given as goal

-- undoing those that are left is undoing all
abbrev pub invariant-loop-count : goal.invariant-loop-count
invariant-loop-count g l =
    undone_codes (g.M.Memory.word l.memory) (with_nexts l.count (l.code ∷ [])) l.registers
    ≡ undone_codes (g.M.Memory.word l.memory) (with_nexts l.nexts (l.code ∷ [])) l.fn.registers

abbrev pub decreases-loop-count : goal.decreases-loop-count
decreases-loop-count g l = l.count
