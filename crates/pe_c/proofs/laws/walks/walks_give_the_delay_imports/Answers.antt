use Rattle.calls_directories.proofs.DirectoryLists.{libraries_in_turn, libraries_outside}
use Rattle.calls_directories.proofs.ListStarts.{libraries_of_image}
use Rattle.calls_directories.proofs.NumberLists.{functions_of_library, functions_outside}
use Rattle.pe_c.proofs.laws.walks.walks_give_the_delay_imports.Goals as goal

pub returns-clause-libraries : goal.returns-clause-libraries
returns-clause-libraries c = libraries_in_turn

pub returns-clause-libraries_outside : goal.returns-clause-libraries_outside
returns-clause-libraries_outside c = libraries_outside

pub returns-clause-of_image : goal.returns-clause-of_image
returns-clause-of_image c = λ b image sections walk table items is. libraries_of_image b image sections walk table items is.started is.read

pub returns-clause-of_library : goal.returns-clause-of_library
returns-clause-of_library c = λ b image sections entry walk table items some is. functions_of_library b image sections entry walk table items some is.started is.read

pub returns-clause-functions_outside : goal.returns-clause-functions_outside
returns-clause-functions_outside c = functions_outside
