use Rattle.std.proofs.Common.{rules, arith}
use Rattle.std.proofs.lemmas.Grind.{common_steps}
use Rattle.pe_image.proofs.WrittenCertificates.{next_goes, all_gone}
use Rattle.pe_image.proofs.write.certificates.set_certificates.Goals as goal

pub loop-certificate-preserved : goal.loop-certificate-preserved
loop-certificate-preserved c = grind (arith, common_steps, next_goes)

pub returns : goal.returns
returns c = search (rules, arith, all_gone)
