use Rattle.pe_pkcs7.proofs.Written.{allowed, written}
use Rattle.pe_pkcs7.proofs.laws.elements_are_written_by_der.Goals as goal

pub returns : goal.returns
returns c = record { octets = written; parts = allowed }
