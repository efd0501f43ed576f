use Rattle.pe_records.proofs.CertificateListings.{listed_is}
use Rattle.pe_records.proofs.certificate_table.enumerate_certificates.Goals as goal

pub returns-clause-value : goal.returns-clause-value
returns-clause-value g c = listed_is c.args.bytes.now c.args.address c.args.size c.certificates_of_table.result c.certificates_of_table.ensures
