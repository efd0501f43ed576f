use Rattle.pe_image.proofs.Permissive.{derived_of_core}
use Rattle.pe_image.proofs.laws.permissive_fields_are_their_own.Goals as goal

pub returns-clause-derived : goal.returns-clause-derived
returns-clause-derived c = derived_of_core
