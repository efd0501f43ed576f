use Rattle.std.proofs.Common.{◌≡◌, ◌-◌, ◌<◌, ◌≤◌, ℕ, length, get_or, map, [], None}
use Rattle.std.specs.Option.{option_or}
use Rattle.pe_resource.specs.VersionStrings.{strings, read, all_read, value_range, rest_of}
use Rattle.pe_resource.proofs.string.value_ranges.Given as goal

abbrev pub invariant-loop-item : goal.invariant-loop-item
invariant-loop-item g l = record {
  left : length (rest_of l.left) ≤ length l.data;
  many : length l.ranges ≡ length l.keys;
  errors : all_read (strings (rest_of l.left)) ≡ all_read (strings l.data);
  kept : (k : ℕ) → k < length l.keys → option_or (get_or l.ranges k None) (value_range (get_or (map (λ key. key.now) l.keys) k []) (length l.data - length (rest_of l.left)) (read (strings (rest_of l.left)))) ≡ value_range (get_or (map (λ key. key.now) l.keys) k []) 0 (read (strings l.data));
}
