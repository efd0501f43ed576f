use Rattle.std.proofs.Common.{All}
use Rattle.pe_core.specs.Imports.{entry_size}
use Rattle.pe_core.specs.ImportSteps.{IsList}
use Rattle.pe_core.proofs.many_lists.lists_at.Given as goal

-- each is a list of these bytes
abbrev pub invariant-loop-offset : goal.invariant-loop-offset
invariant-loop-offset g l = All (IsList (entry_size l.is_64) l.bytes) l.lists.items
