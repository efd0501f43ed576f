use Rattle.pe_version.proofs.Tests.{made_fits, made_is}
use Rattle.pe_version.proofs.laws.blocks_are_accepted.Goals as goal

pub returns-clause-fits : goal.returns-clause-fits
returns-clause-fits c = λ k s e. made_fits k s e

pub returns-clause-value : goal.returns-clause-value
returns-clause-value c = λ k s e. made_is k s e
