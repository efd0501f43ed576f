use Rattle.pe_c.proofs.PdbFrames.{lines_alone, names_alone}
use Rattle.pe_c.proofs.laws.dumps.frames_of_module_alone.Goals as goal

pub returns-clause-lines : goal.returns-clause-lines
returns-clause-lines c = lines_alone

pub returns-clause-names : goal.returns-clause-names
returns-clause-names c = names_alone
