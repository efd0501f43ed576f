use Rattle.std.proofs.Common.{◌≡◌, ◌+◌, length}
use Rattle.std.specs.List.{list_all}
use Rattle.std.specs.Str.{is_utf8}
use Rattle.pe_core.specs.Strings.{pieces}
use Rattle.pe_core.proofs.strtab.count_strings.Given as goal

-- so many strings were passed, and all of them are text
abbrev pub invariant-loop-rest : goal.invariant-loop-rest
invariant-loop-rest l = record {
  counted : l.count + length (pieces l.rest) ≡ length (pieces l.bytes);
  texts : list_all is_utf8 (pieces l.rest) ≡ list_all is_utf8 (pieces l.bytes);
}

abbrev pub decreases-loop-rest : goal.decreases-loop-rest
decreases-loop-rest l = length l.rest
