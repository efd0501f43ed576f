use Rattle.pe_records.proofs.CertificatePieces.{kept}
use Rattle.pe_records.specs.Certificates.{certificate_view}
use Rattle.pe_records.proofs.certificate_table.AttributeCertificate.write_into.Goals as goal

pub returns-in_err-require_room-clause-after : goal.returns-in_err-require_room-clause-after
returns-in_err-require_room-clause-after c = kept c.args.out.now c.args.offset _ (certificate_view c.args.self.now) _ c.rounded_up-size.ensures.up c.in_err-require_room.ensures
