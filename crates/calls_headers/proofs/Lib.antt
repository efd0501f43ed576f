pub mod PogoRuns
pub mod Steps
pub mod SymbolRuns
pub mod SymbolTexts
pub mod TeRanges
pub mod TeRooms
