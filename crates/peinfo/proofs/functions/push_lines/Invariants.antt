use Rattle.std.proofs.Common.{◌≡◌, ◌++◌}
use Rattle.pe_unwind.specs.FunctionTable.{items_of_functions}
use Rattle.peinfo.specs.FunctionLines.{function_line, item_lines}
use Rattle.peinfo.proofs.functions.push_lines.Given as goal

-- the lines so far, and those of the entries that are left
abbrev pub invariant-loop-item : goal.invariant-loop-item
invariant-loop-item g l =
    l.text.items ++ item_lines function_line (items_of_functions l.item-iterator) ≡ l.fn.text.items ++ item_lines function_line (items_of_functions l.fn.functions)
