use Rattle.pe_core.specs.Header.{header_view}
use Rattle.pe_sign.proofs.Detaching.{attached_sum}
use Rattle.pe_sign.proofs.laws.calls.checksum_is_good.Goals as goal

pub returns : goal.returns
returns c = λ l e. let a = c.args.call in attached_sum a.placement a.bytes.now (header_view a.header.now) a.certificate.now a.file.now l e c.requires
