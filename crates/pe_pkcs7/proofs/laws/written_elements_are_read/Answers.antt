use Rattle.pe_pkcs7.proofs.ReadAgain.{read_again}
use Rattle.pe_pkcs7.proofs.laws.written_elements_are_read.Goals as goal

pub returns : goal.returns
returns c = λ b p t content rest bytes tag element lt e. let k = read_again b p t content rest bytes tag element lt e in (k.element, k.read, k.tagged, k.content)
