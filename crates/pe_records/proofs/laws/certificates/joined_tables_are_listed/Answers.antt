use Rattle.pe_records.proofs.JoinedListings.{one_listing}
use Rattle.pe_records.proofs.laws.certificates.joined_tables_are_listed.Goals as goal

pub returns-clause-one : goal.returns-clause-one
returns-clause-one c = one_listing
