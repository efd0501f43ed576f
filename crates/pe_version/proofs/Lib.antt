mod Cited
pub mod Blocks
pub mod Keys
pub mod Tests
pub mod Calls
pub mod VersionsRead
pub mod Making
pub mod Flat
pub mod Named
pub mod Measures
pub mod Heads
pub mod Records
pub mod LeastBlocks
