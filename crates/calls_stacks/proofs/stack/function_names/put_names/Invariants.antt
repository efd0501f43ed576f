use Rattle.std.proofs.Common.{◌≡◌, length, drop}
use Rattle.calls_stacks.specs.FunctionNames.{AreNames}
use Rattle.calls_stacks.proofs.stack.function_names.put_names.Given as goal

-- the names of the addresses so far
abbrev pub invariant-loop-i : goal.invariant-loop-i
invariant-loop-i l = record {
  names : AreNames l.view l.sources l.addresses l.names l.i;
  same : length l.names ≡ length l.fn.names;
  rest : drop (length l.addresses) l.names ≡ drop (length l.addresses) l.fn.names;
}
