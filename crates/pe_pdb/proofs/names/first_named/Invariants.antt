use Rattle.std.proofs.Common.{◌≡◌, ◌+◌, ◌*◌, ◌≤◌, length}
use Rattle.pe_pdb.specs.Names.{first_named}
use Rattle.pe_pdb.proofs.names.first_named.Given as goal

-- none of the pairs so far has the name
abbrev pub invariant-loop-left : goal.invariant-loop-left
invariant-loop-left l = record {
  same : first_named l.texts l.name l.bytes l.count l.start ≡ first_named l.texts l.name l.bytes l.left l.next;
  inside : l.next + 8 * l.left ≤ length l.bytes;
}

abbrev pub decreases-loop-left : goal.decreases-loop-left
decreases-loop-left l = l.left
