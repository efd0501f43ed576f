use Rattle.std.proofs.Common.{◌≡◌, ◌^◌, ◌<◌, drop}
use Rattle.pe_core.specs.HexDigits.{number_after}
use Rattle.peinfo.proofs.command.number_of.Given as goal

-- the digits that are left make the whole number after the one that the others made
abbrev pub invariant-loop-code : goal.invariant-loop-code
invariant-loop-code l = record {
  rest : number_after l.number (drop l.code-index l.digits) ≡ number_after 0 l.digits;
  small : l.number < 16 ^ l.code-index;
}
