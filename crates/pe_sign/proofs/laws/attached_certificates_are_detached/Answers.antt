use Rattle.pe_sign.proofs.Detaching.{detached_again_of}
use Rattle.pe_sign.proofs.laws.attached_certificates_are_detached.Goals as goal

pub returns : goal.returns
returns c = detached_again_of
