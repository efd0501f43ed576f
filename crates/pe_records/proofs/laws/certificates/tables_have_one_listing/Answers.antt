use Rattle.pe_records.proofs.CertificateListings.{listing_is, refusal_is, is_listing, is_refused, one_listing, one_refusal, apart}
use Rattle.pe_records.proofs.laws.certificates.tables_have_one_listing.Goals as goal

pub returns : goal.returns
returns c = record {
  listing = λ b address size cs. (listing_is b address size cs, is_listing b address size cs);
  refusal = λ b address size r. (refusal_is b address size r, is_refused b address size r);
  one_listing = one_listing;
  one_refusal = one_refusal;
  apart = apart;
}
