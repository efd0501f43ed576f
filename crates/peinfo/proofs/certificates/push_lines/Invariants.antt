use Rattle.std.proofs.Common.{◌≡◌, ◌++◌, map, take}
use Rattle.pe_records.specs.Certificates.{certificate_view}
use Rattle.peinfo.specs.CertificateLines.{certificate_lines}
use Rattle.peinfo.proofs.certificates.push_lines.Given as goal

abbrev pub invariant-loop-certificate : goal.invariant-loop-certificate
invariant-loop-certificate g l = l.text.items ≡ l.fn.text.items ++ certificate_lines (map certificate_view (take l.certificate-index l.certificates))
