use Rattle.pe_core.proofs.Pigeonhole.{more_steps_than_keys, key_comes_again}
use Rattle.pe_core.proofs.laws.steps_that_never_stop.Goals as goal

pub returns-clause-more : goal.returns-clause-more
returns-clause-more g c = more_steps_than_keys

pub returns-clause-again : goal.returns-clause-again
returns-clause-again g c = key_comes_again
