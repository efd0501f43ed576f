use Rattle.std.proofs.Common.{rules, arith}
use Rattle.std.proofs.lemmas.Grind.{common_steps}
use Rattle.pe_image.proofs.WrittenCertificates.{never_refused, put_in_three}
use Rattle.pe_image.proofs.write.certificates.set_certificate.Goals as goal

pub returns-in-Err-clause-end : goal.returns-in-Err-clause-end
returns-in-Err-clause-end c = grind (arith, common_steps, never_refused)

pub returns-in-Ok-clause-after : goal.returns-in-Ok-clause-after
returns-in-Ok-clause-after c = search (rules, arith, put_in_three)
