use Rattle.std.proofs.Common.{◌≡◌, ◌++◌, true, length, map, drop}
use Rattle.std.specs.List.{list_all}
use Rattle.std.specs.Str.{is_utf8}
use Rattle.pe_core.specs.Strings.{pieces}
use Rattle.pe_core.proofs.strtab.Strtab.to_vec.Given as goal

-- these strings are taken, and all others are text
abbrev pub invariant-loop-rest : goal.invariant-loop-rest
invariant-loop-rest g l = record {
  taken : map (λ s. s.now) l.strings.items ++ pieces l.rest ≡ pieces (drop 4 l.self.bytes.now);
  texts : list_all is_utf8 (pieces l.rest) ≡ true;
}

abbrev pub decreases-loop-rest : goal.decreases-loop-rest
decreases-loop-rest g l = length l.rest
