use Rattle.std.proofs.Common.{rules, arith}
use Rattle.pe_c.proofs.PartFields.{of_part, of_part_if}
use Rattle.pe_c.proofs.laws.signatures.parts_are_those_of_their_kinds.Goals as goal

pub returns : goal.returns
returns c = search (rules, arith, of_part, of_part_if)
