use Rattle.pe_pkcs7.proofs.LaterSignatures.{part_read}
use Rattle.pe_pkcs7.proofs.laws.signatures_are_read_where_they_stand.Goals as goal

pub returns-clause-part : goal.returns-clause-part
returns-clause-part c = part_read
