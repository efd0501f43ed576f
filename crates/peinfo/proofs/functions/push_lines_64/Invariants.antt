use Rattle.std.proofs.Common.{◌≡◌, ◌++◌}
use Rattle.pe_unwind.specs.Arm64Functions.{items_of_arm64_functions}
use Rattle.peinfo.specs.FunctionLines.{function64_line, item_lines}
use Rattle.peinfo.proofs.functions.push_lines_64.Given as goal

-- the lines so far, and those of the entries that are left
abbrev pub invariant-loop-item : goal.invariant-loop-item
invariant-loop-item g l =
    l.text.items ++ item_lines function64_line (items_of_arm64_functions l.item-iterator) ≡ l.fn.text.items ++ item_lines function64_line (items_of_arm64_functions l.fn.functions)
