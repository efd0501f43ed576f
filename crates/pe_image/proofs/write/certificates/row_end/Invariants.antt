use Rattle.std.proofs.Common.{length}
use Rattle.pe_image.specs.CertificateLists.{certificate_views}
use Rattle.pe_image.proofs.Ends.{RowLeft}
use Rattle.pe_image.proofs.write.certificates.row_end.Given as goal

abbrev pub invariant-loop-certificate : goal.invariant-loop-certificate
invariant-loop-certificate l = RowLeft l.start (certificate_views l.certificates) l.offset (certificate_views l.left)

-- fewer certificates are left
abbrev pub decreases-loop-certificate : goal.decreases-loop-certificate
decreases-loop-certificate l = length (certificate_views l.left)
