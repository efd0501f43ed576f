use Rattle.calls_directories.proofs.DirectoryParts.{name_of_dll_stands, name_of_function_stands}
use Rattle.pe_c.proofs.laws.directories.ranges_of_delay_imports_are_their_names.Goals as goal

pub returns-clause-dll : goal.returns-clause-dll
returns-clause-dll c = name_of_dll_stands

pub returns-clause-function : goal.returns-clause-function
returns-clause-function c = name_of_function_stands
