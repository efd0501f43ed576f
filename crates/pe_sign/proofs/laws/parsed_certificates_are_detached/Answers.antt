use Rattle.pe_sign.proofs.WrittenHeaders.{detached_by_headers}
use Rattle.pe_sign.proofs.laws.parsed_certificates_are_detached.Goals as goal

pub returns : goal.returns
returns c = λ mode placement b h k certificate f g l is. detached_by_headers mode placement b h k certificate f g l is.parsed is.parts is.written
