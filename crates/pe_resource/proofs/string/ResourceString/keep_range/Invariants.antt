use Rattle.std.proofs.Common.{◌≡◌, ◌<◌, ◌≤◌, ℕ, length, get_or, map, [], None, Some, if◌then◌else◌}
use Rattle.pe_resource.proofs.Cited.{option_or, is_name, text}
use Rattle.pe_resource.proofs.string.ResourceString.keep_range.Given as goal

abbrev pub invariant-loop-i : goal.invariant-loop-i
invariant-loop-i l = record {
  many : length l.kept ≡ length l.keys;
  done : (k : ℕ) → k < l.i → get_or l.kept k None ≡ option_or (get_or l.initial.kept k None) (if is_name (get_or (map (λ key. key.now) l.keys) k []) (text l.self.key.now) then Some l.range else None);
  left : (k : ℕ) → l.i ≤ k → get_or l.kept k None ≡ get_or l.initial.kept k None;
}
