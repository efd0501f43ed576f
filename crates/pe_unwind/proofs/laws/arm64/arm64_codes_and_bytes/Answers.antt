use Rattle.std.proofs.Common.{ap}
use Rattle.pe_unwind.specs.Arm64Encoding.{encoding}
use Rattle.pe_unwind.proofs.Arm64OneCode.{encoding_once, starts_once, cut_starts_none}
use Rattle.pe_unwind.proofs.Arm64Whole.{code_or_cut}
use Rattle.pe_unwind.proofs.laws.arm64.arm64_codes_and_bytes.Goals as goal

pub returns-clause-equal : goal.returns-clause-equal
returns-clause-equal _ = λ a b h k. (ap encoding, encoding_once a b h k)

pub returns-clause-one : goal.returns-clause-one
returns-clause-one _ = starts_once

pub returns-clause-cut : goal.returns-clause-cut
returns-clause-cut _ = cut_starts_none

pub returns-clause-every : goal.returns-clause-every
returns-clause-every _ = code_or_cut
