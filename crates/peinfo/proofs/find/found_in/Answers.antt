use Rattle.peinfo.proofs.FindTexts.{nothing_found}
use Rattle.peinfo.proofs.find.found_in.Goals as goal

pub returns-in-None : goal.returns-in-None
returns-in-None c = rw c.in-None.is (nothing_found c.args.rva)
