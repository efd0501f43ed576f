use Rattle.pe_frame.proofs.Arm64Frames.{packed_as_codes}
use Rattle.pe_frame.proofs.laws.arm64.packed_entries_are_their_codes.Goals as goal

pub returns : goal.returns
returns c = packed_as_codes
