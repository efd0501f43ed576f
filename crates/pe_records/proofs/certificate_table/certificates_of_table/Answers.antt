use Rattle.std.proofs.Common.{refl, ◌∷◌, []}
use Rattle.std.proofs.lemmas.Slice.{pushed}
use Rattle.pe_records.specs.Certificates.{certificate_view}
use Rattle.pe_records.proofs.CertificateListings.{stand_more}
use Rattle.pe_records.proofs.certificate_table.certificates_of_table.Goals as goal

pub loop-offset-preserved : goal.loop-offset-preserved
loop-offset-preserved g c =
    stand_more certificate_view _ _ _ _ _ c.in_ok-certificate.certificate _ _ c.loop-offset.invariant c.loop-offset-test.true c.in_ok-certificate.ensures
    (pushed (c.in_ok-certificate.certificate ∷ []) refl c.in_ok-push.was c.push.ensures.items)
