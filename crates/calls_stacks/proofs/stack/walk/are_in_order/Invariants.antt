use Rattle.std.proofs.Common.{◌≡◌, ◌+◌, true, take}
use Rattle.std.specs.List.{list_all}
use Rattle.pe_lookup.specs.AddressRanges.{FirstAscend}
use Rattle.pe_lookup.proofs.Lookups.{EndsAt}
use Rattle.calls_stacks.specs.WalkModules.{has_table, view_base, view_size}
use Rattle.calls_stacks.proofs.stack.walk.are_in_order.Given as goal

-- the tables of the modules so far lie in their bytes, and these modules ascend
abbrev pub invariant-loop-i : goal.invariant-loop-i
invariant-loop-i l = record {
  tables : list_all has_table (take l.i l.views) ≡ true;
  ascend : FirstAscend view_base view_size l.views l.i;
  ends : EndsAt view_base view_size l.views l.i (l.start + l.size);
}
