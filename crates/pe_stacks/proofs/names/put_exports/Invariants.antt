use Rattle.std.proofs.Common.{◌≡◌, ◌≤◌, length, take}
use Rattle.pe_core.specs.ExportAddresses.{addresses_view}
use Rattle.pe_stacks.specs.Names.{exported_rva, named_below}
use Rattle.pe_stacks.proofs.names.put_exports.Given as goal

-- the addresses of the names so far
abbrev pub invariant-loop-i : goal.invariant-loop-i
invariant-loop-i l = record {
  are : take l.count l.room ≡ named_below (exported_rva (addresses_view l.exports)) l.i;
  few : l.count ≤ l.i;
  same : length l.room ≡ length l.fn.room;
}
