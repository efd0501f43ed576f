use Rattle.pe_c.proofs.TwoCalls.{fixed_joined, text_joined}
use Rattle.pe_c.proofs.laws.two_calls_read_the_first.Goals as goal

pub returns-clause-fixed : goal.returns-clause-fixed
returns-clause-fixed c = fixed_joined

pub returns-clause-text : goal.returns-clause-text
returns-clause-text c = text_joined
