use Rattle.std.proofs.Common.{length}
use Rattle.pe_image.specs.CertificateLists.{certificate_views}
use Rattle.pe_image.proofs.WrittenCertificates.{GoesCertificates}
use Rattle.pe_image.proofs.write.certificates.set_certificates.Given as goal

abbrev pub invariant-loop-certificate : goal.invariant-loop-certificate
invariant-loop-certificate l = GoesCertificates l.fn.buffer l.start (certificate_views l.certificates) l.buffer l.offset (certificate_views l.left)

-- fewer certificates are left
abbrev pub decreases-loop-certificate : goal.decreases-loop-certificate
decreases-loop-certificate l = length (certificate_views l.left)
