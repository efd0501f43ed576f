pub mod Pdbs
pub mod PdbModules
pub mod PdbSymbols
pub mod PdbIndexes
pub mod PdbLines
pub mod PdbInlined
