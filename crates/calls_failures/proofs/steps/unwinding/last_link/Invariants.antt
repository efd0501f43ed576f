use Rattle.std.proofs.Common.{◌≡◌, Some}
use Rattle.pe_core.specs.Chains.{after}
use Rattle.pe_unwind.specs.Links.{next}
use Rattle.calls_failures.specs.UnwindFailures.{table_there}
use Rattle.calls_base.specs.Views.{map_of}
use Rattle.calls_failures.proofs.steps.unwinding.last_link.Given as goal

-- so many links lead here
abbrev pub invariant-loop : goal.invariant-loop
invariant-loop l = after (next (table_there (map_of l.view) l.view.bytes.now l.table)) l.counter l.fn.unwind ≡ Some l.last
