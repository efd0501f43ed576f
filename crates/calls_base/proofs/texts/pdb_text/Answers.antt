use Rattle.std.proofs.Common.{arith}
use Rattle.calls_base.proofs.LastText.{pdb_text_past}
use Rattle.calls_base.proofs.texts.pdb_text.Goals as goal

pub returns-in_default : goal.returns-in_default
returns-in_default c = pdb_text_past c.args.number (omega arith)
