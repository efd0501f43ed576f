use Rattle.std.proofs.Common.{◌≤◌, length, ◌≡◌}
use Rattle.calls_directories.proofs.names.exports.put_forwarders.Given as goal

-- as many as there is room for
abbrev pub invariant-loop-i : goal.invariant-loop-i
invariant-loop-i l = record {
  few : l.count ≤ length l.room;
  same : length l.room ≡ length l.initial.room;
}
