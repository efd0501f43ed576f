use Rattle.pe_lookup.proofs.Lookups.{test_ascends, test_passed}
use Rattle.pe_frame.proofs.Searches.{word_listed, word_right}
use Rattle.pe_frame.proofs.laws.searched_memory_is_listed.Goals as goal

pub returns-clause-words : goal.returns-clause-words
returns-clause-words c bytes pieces a inside up = word_listed bytes pieces a (test_ascends (λ p. p.start) (λ p. p.length) pieces up) inside

pub returns-clause-order : goal.returns-clause-order
returns-clause-order c pieces = (test_ascends (λ p. p.start) (λ p. p.length) pieces, test_passed (λ p. p.start) (λ p. p.length) pieces)

pub returns-clause-any : goal.returns-clause-any
returns-clause-any c bytes pieces a v memory shows known = word_right memory bytes pieces shows a v known
