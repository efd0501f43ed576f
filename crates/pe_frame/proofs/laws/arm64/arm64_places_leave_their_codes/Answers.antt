use Rattle.pe_frame.proofs.Arm64Places.{leaves_prolog, leaves_body, leaves_epilog, leaves_outside}
use Rattle.pe_frame.proofs.laws.arm64.arm64_places_leave_their_codes.Goals as goal

pub returns : goal.returns
returns c = record { prolog = leaves_prolog; body = leaves_body; epilog = leaves_epilog; outside = leaves_outside }
