use Rattle.std.proofs.Common.{Ok, sym}
use Rattle.pe_c.proofs.resources.pe_c_manifest.Goals as goal

pub returns-in-Ok : goal.returns-in-Ok
returns-in-Ok c = (Ok c.in-Ok.content, c.in-Ok.ensures.content, rw (sym c.some_range.ensures) c.hand_out_some.ensures)
