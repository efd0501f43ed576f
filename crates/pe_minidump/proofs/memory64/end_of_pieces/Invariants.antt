use Rattle.std.proofs.Common.{◌≡◌, ◌+◌, ◌*◌, ◌≤◌}
use Rattle.pe_minidump.specs.Memory64.{size_of_first}
use Rattle.pe_minidump.proofs.memory64.end_of_pieces.Given as goal

-- the end has the sizes of all pieces before the one with this index
abbrev pub invariant-loop-index : goal.invariant-loop-index
invariant-loop-index l =
    (l.end ≡ l.base + size_of_first l.ranges l.index) × (size_of_first l.ranges l.index ≤ 18446744073709551616 * l.index)
