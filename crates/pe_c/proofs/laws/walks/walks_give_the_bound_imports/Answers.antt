use Rattle.calls_directories.proofs.DirectoryLists.{bounds_in_turn, bounds_outside, forwarders_of_import, forwarders_outside}
use Rattle.calls_directories.proofs.ListStarts.{bounds_of_image}
use Rattle.pe_c.proofs.laws.walks.walks_give_the_bound_imports.Goals as goal

pub returns-clause-imports : goal.returns-clause-imports
returns-clause-imports c = bounds_in_turn

pub returns-clause-imports_outside : goal.returns-clause-imports_outside
returns-clause-imports_outside c = bounds_outside

pub returns-clause-of_import : goal.returns-clause-of_import
returns-clause-of_import c = forwarders_of_import

pub returns-clause-forwarders_outside : goal.returns-clause-forwarders_outside
returns-clause-forwarders_outside c = forwarders_outside

pub returns-clause-of_image : goal.returns-clause-of_image
returns-clause-of_image c = bounds_of_image
