use Rattle.std.proofs.Common.{◌-◌, map}
use Rattle.pe_records.specs.Certificates.{certificate_view}
use Rattle.pe_records.proofs.CertificateListings.{StandFrom}
use Rattle.pe_records.proofs.certificate_table.certificates_of_table.Given as goal

abbrev pub invariant-loop-offset : goal.invariant-loop-offset
invariant-loop-offset g l = StandFrom l.bytes l.end l.address (map certificate_view l.certificates.items) l.offset

abbrev pub decreases-loop-offset : goal.decreases-loop-offset
decreases-loop-offset g l = l.end - l.offset
