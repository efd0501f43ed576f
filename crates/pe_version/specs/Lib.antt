pub mod WrittenBlocks
pub mod VersionRefusals
pub mod VersionValues
pub mod VersionStrings
pub mod VersionRecords
